-- The laws hold after every list of calls. Assumes nothing.
use Rattle.std.proofs.Common.{◌≡◌, ℕ, ◌≤◌, min, Bool, true, false, cond, eqb, List, [], ◌∷◌, ◌++◌, map, length, drop, Some, None, Option, sym, refl, ap, ◌∙◌, ⊎_elim, arith, length-append}
use Rattle.std.proofs.ByRecursion.{All-weaker}
use Rattle.std.proofs.lemmas.List.{length-map, length-take}
use Rattle.std.proofs.lemmas.Bool.{cases_Bool, cond-true, cond-false, eq-eqb, eqb-true, eqb-false, lt-ltb, le-ltb, ltb-true}
use Rattle.kinds.specs.Kinds.{Model, Laws}
use Rattle.kinds.proofs.Views.{view_within}
use Rattle.search.specs.Answers.{best}
use Rattle.search.specs.Routes.{link_at, uses, Route, route_of}
use Rattle.search.specs.Rule.{Query, made}
use Rattle.search.specs.declared.answer.Best.{Best}
use Rattle.search.specs.declared.label.Link.{Link}
use Rattle.search.proofs.Promised.{best_cheapest, best_none}
use Rattle.net.specs.Laws.{uses_of, WithinLimits, WorstWithin, Kept, Searches, Fair, Accepted, LawsOfRun, ChosenInRun}
use Rattle.net.specs.Ledger.{Entry, Ledger, Site, numbers, asks, answer, entered, changed, after}
use Rattle.net.specs.Questions.{Told, node_count, book_refusal, found_of, search_told}
use Rattle.net.specs.declared.types.Call.{Call}
use Rattle.net.specs.declared.types.Call.TheVariants.{Book}
use Rattle.net.specs.declared.types.Request.{Request}
use Rattle.net.proofs.Chosen.{chosen-after}
use Rattle.net.proofs.Standing.{Stands, Sound, found, sound_after}

length-uses : {U : Type 0} (links : List (Link U)) (p : List ℕ) → length (uses links p) ≤ length p
length-uses links [] = omega arith
length-uses links (i ∷ p) =
    let rest = length-uses links p in
    let both = length-append (map (λ l. l.taken) (link_at links i)) (uses links p) in
    let one = length-map (link_at links i) (λ l. l.taken) in
    omega (arith, length-take 1 (drop i links))

-- a search answers 16 if its table is full, and 17 if there is no best label
full_told : (full : Bool) (o : Option Best) (n : ℕ) → (cond full (16, []) (found_of o n)).0 ≡ 16 → full ≡ true
full_told true o n e = refl
full_told false None n e = absurd (omega arith)
full_told false (Some b) n e = absurd (omega arith)

none_told : (o : Option Best) (n : ℕ) → (found_of o n).0 ≡ 17 → o ≡ None
none_told None n e = refl
none_told (Some b) n e = absurd (omega arith)

module _ {K S U : Type 0} (m : Model K S U) (site : Site) (laws : Laws m) where
  none_found : (q : Query K U) (o : Option Best) → best m q.kind q.target (made m q) ≡ o → (n : ℕ) → ((p : List ℕ) → Route m q p → ⊥) → (found_of o n).0 ≡ 17
  none_found q None is n none = refl
  none_found q (Some b) is n none = absurd (none _ (best_cheapest m laws q b is).route)

  module _ (s : Ledger K U) (k : K) (r : Request) (places : ℕ) (searches : Searches m site s r) where
    -- the booking's search, and the places of its table
    abbrev q : Query K U
    q = asks m site s k r

    abbrev room : ℕ
    room = min places site.label_places

    told_by_search : answer m site s (Book r k places) ≡ search_told m q room
    told_by_search = cond-true _ _ _ searches.serving ∙ cond-true _ _ _ (eq-eqb _ _ searches.passes)

    told_fitting : length (made m q) ≤ room → answer m site s (Book r k places) ≡ found_of (best m k r.target (made m q)) (length (made m q))
    told_fitting fits = told_by_search ∙ cond-false _ _ _ (le-ltb room (length (made m q)) fits)

    pub fair : Fair m site s k r places
    fair = record {
      full = (
        λ e. ltb-true _ _ (full_told _ (best m k r.target (made m q)) _ (sym (ap (λ t. t.0) told_by_search) ∙ e)),
        λ over. ap (λ t. t.0) (told_by_search ∙ cond-true _ _ _ (lt-ltb room (length (made m q)) over)),
      );
      none = λ fits. (
        λ e. best_none m laws q (none_told _ _ (sym (ap (λ t. t.0) (told_fitting fits)) ∙ e)),
        λ none. ap (λ t. t.0) (told_fitting fits) ∙ none_found q _ refl _ none,
      );
    }

    accepted_of : (answer m site s (Book r k places)).0 ≡ 0 → Accepted m site s k r places
    accepted_of e =
        let (b, is, fits) = found _ (best m k r.target (made m q)) _ (sym (ap (λ t. t.0) told_by_search) ∙ e) in
        let entry : Entry K = record { asked_for = r; kind = k; route = route_of (made m q) b.label; figure = b.figure; hops = b.hops } in (
          entry,
          ap (λ t. t.streams) (cond-true _ (changed m site s (Book r k places)) s (eq-eqb _ _ e)) ∙ ap (λ o. s.streams ++ entered m site s k r o) is,
          refl,
          refl,
          best_cheapest m laws q b is,
          told_by_search ∙ cond-false _ _ _ fits ∙ ap (λ o. found_of o (length (made m q))) is,
        )

  -- an accepted booking passes the questions before the search
  passed : (s : Ledger K U) (k : K) (r : Request) (places : ℕ) → (answer m site s (Book r k places)).0 ≡ 0 → Searches m site s r
  passed s k r places e =
      ⊎_elim
      (λ on.
      let refusal = book_refusal (node_count site.nodes) (min 64 site.stream_places) (numbers s.streams) r in
      ⊎_elim
      (λ t. record { serving = on; passes = eqb-true refusal 0 t })
      (λ t. absurd (eqb-false refusal 0 t (sym (ap (λ (x : Told). x.0) (cond-true _ _ _ on ∙ cond-false _ _ _ t)) ∙ e)))
      (cases_Bool (eqb refusal 0)))
      (λ off. absurd (let z : 22 ≡ 0 = sym (ap (λ (x : Told). x.0) (cond-false _ _ _ off)) ∙ e in omega arith))
      (cases_Bool s.serving)

  pub kept : (s : Ledger K U) → Sound m s → Kept m site s
  kept s h = record {
    limits = All-weaker (Stands m s.links) (WithinLimits m site s) (λ e f. f.within) s.streams h.stands;
    worst = λ v.
        All-weaker (Stands m s.links) (WorstWithin m site v s)
        (λ e f. view_within v e.kind (uses_of m site s e) (omega (arith, length-uses s.links e.route, f.measured.short)) f.within)
        s.streams h.stands;
    loads = h.loads;
  }

  pub laws_of_run : (calls : List (Call K U)) → LawsOfRun m site calls
  laws_of_run calls = record {
    kept = λ front back is. kept (after m site front) (sound_after m site laws front);
    cheapest = λ front r k places back is e. accepted_of (after m site front) k r places (passed (after m site front) k r places e) e;
    fair = λ front r k places back is searches. fair (after m site front) k r places searches;
  }

  pub chosen_in_run : (calls : List (Call K U)) → ChosenInRun m site calls
  chosen_in_run calls front back is = chosen-after m site laws front
