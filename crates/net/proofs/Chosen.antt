-- Each standing stream got the cheapest route when it was booked. Assumes nothing.
use Rattle.std.proofs.Common.{◌≡◌, ℕ, suc, min, eqb, List, [], ◌∷◌, ◌++◌, take, drop, sym, refl, ap, ◌∙◌, subst, append_assoc, append-nil}
use Rattle.std.specs.List.{AllByRecursion}
use Rattle.std.proofs.ByRecursion.{All-append, All-push, All-take, All-drop, All-weaker}
use Rattle.std.proofs.lemmas.Bool.{cond_both, eqb-true}
use Rattle.kinds.specs.Kinds.{Model, Laws}
use Rattle.search.specs.Answers.{best}
use Rattle.search.specs.Routes.{route_of}
use Rattle.search.specs.Rule.{made}
use Rattle.search.proofs.Promised.{best_cheapest}
use Rattle.net.specs.Laws.{Chosen}
use Rattle.net.specs.Ledger.{Entry, Site, numbers, asks, answer, entered, changed, after}
use Rattle.net.specs.Questions.{node_count, book_refusal}
use Rattle.net.specs.Tables.{place_of}
use Rattle.net.specs.declared.types.Call.{Call}
use Rattle.net.specs.declared.types.Call.TheVariants.{Add, Withdraw, Open, Book, Release, Show, Load, Close}
use Rattle.net.specs.declared.types.Request.{Request}
use Rattle.net.proofs.Matching.{after_push}
use Rattle.net.proofs.Standing.{served, let_through, found}

module _ {K S U : Type 0} (m : Model K S U) (site : Site) where
  -- the booking is among the calls with one more, too
  chosen_later : (calls : List (Call K U)) (c : Call K U) (e : Entry K) → Chosen m site calls e → Chosen m site (calls ++ c ∷ []) e
  chosen_later calls c e h = record {
    front = h.front;
    places = h.places;
    back = h.back ++ c ∷ [];
    among = ap (λ l. l ++ c ∷ []) h.among ∙ append_assoc h.front (Book e.asked_for e.kind h.places ∷ h.back) (c ∷ []);
    cheapest = h.cheapest;
  }

  module _ (laws : Laws m) (calls : List (Call K U)) (h : AllByRecursion (Chosen m site calls) (after m site calls).streams) where
    -- the streams that stood before the call
    stood : (c : Call K U) → AllByRecursion (Chosen m site (calls ++ c ∷ [])) (after m site calls).streams
    stood c = All-weaker (Chosen m site calls) (Chosen m site (calls ++ c ∷ [])) (chosen_later calls c) (after m site calls).streams h

    -- the stream that an accepted booking enters
    booked : (r : Request) (k : K) (places : ℕ) → (answer m site (after m site calls) (Book r k places)).0 ≡ 0 → AllByRecursion (Chosen m site (calls ++ Book r k places ∷ [])) (changed m site (after m site calls) (Book r k places)).streams
    booked r k places e =
        let s = after m site calls in
        let q = asks m site s k r in
        let refusal = book_refusal (node_count site.nodes) (min 64 site.stream_places) (numbers s.streams) r in
        let (b, is, fits) = found _ (best m k r.target (made m q)) _ (let_through refusal _ (served s.serving _ e).1).1 in
        let entry : Entry K = record { asked_for = r; kind = k; route = route_of (made m q) b.label; figure = b.figure; hops = b.hops } in
        subst (λ o. AllByRecursion (Chosen m site (calls ++ Book r k places ∷ [])) (s.streams ++ entered m site s k r o)) (sym is)
        (All-push (Chosen m site (calls ++ Book r k places ∷ [])) s.streams entry (stood (Book r k places)) (record {
          front = calls;
          places = places;
          back = [];
          among = refl;
          cheapest = best_cheapest m laws q b is;
        }))

    chosen-changed : (c : Call K U) → (answer m site (after m site calls) c).0 ≡ 0 → AllByRecursion (Chosen m site (calls ++ c ∷ [])) (changed m site (after m site calls) c).streams
    chosen-changed (Add l) e = stood (Add l)
    chosen-changed (Withdraw i) e = stood (Withdraw i)
    chosen-changed Open e = stood Open
    chosen-changed (Book r k places) e = booked r k places e
    chosen-changed (Release n) e =
        let es = (after m site calls).streams in
        let i = place_of n (numbers es) in
        let P = Chosen m site (calls ++ Release n ∷ []) in
        All-append P (take i es) (drop (suc i) es) (All-take P i es (stood (Release n))) (All-drop P (suc i) es (stood (Release n)))
    chosen-changed (Show n) e = stood (Show n)
    chosen-changed (Load i) e = stood (Load i)
    chosen-changed Close e = tt

    chosen-next : (c : Call K U) → AllByRecursion (Chosen m site (calls ++ c ∷ [])) (after m site (calls ++ c ∷ [])).streams
    chosen-next c =
        let s = after m site calls in
        subst (λ x. AllByRecursion (Chosen m site (calls ++ c ∷ [])) x.streams) (sym (after_push m site calls c))
        (cond_both (eqb (answer m site s c).0 0) (changed m site s c) s (λ x. AllByRecursion (Chosen m site (calls ++ c ∷ [])) x.streams) (λ t. chosen-changed c (eqb-true _ _ t)) (λ _. stood c))

  module _ (laws : Laws m) where
    chosen_from : (front calls : List (Call K U)) → AllByRecursion (Chosen m site front) (after m site front).streams → AllByRecursion (Chosen m site (front ++ calls)) (after m site (front ++ calls)).streams
    chosen_from front [] h = subst (λ l. AllByRecursion (Chosen m site l) (after m site l).streams) (sym (append-nil front)) h
    chosen_from front (c ∷ calls) h =
        subst (λ l. AllByRecursion (Chosen m site l) (after m site l).streams) (append_assoc front (c ∷ []) calls)
        (chosen_from (front ++ c ∷ []) calls (chosen-next laws front h c))

    pub chosen-after : (calls : List (Call K U)) → AllByRecursion (Chosen m site calls) (after m site calls).streams
    chosen-after calls = chosen_from [] calls tt
