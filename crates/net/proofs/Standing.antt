-- What holds of the streams that stand, through every call. Assumes nothing.
use Rattle.std.proofs.Common.{◌≡◌, ℕ, zero, suc, ◌+◌, ◌≤◌, min, Bool, true, false, cond, eqb, List, [], ◌∷◌, ◌++◌, map, length, get_or, take, drop, replicate, Some, None, fold, sum_by, Option, sym, refl, ap, ◌∙◌, subst, ap₂, ⊎_elim, arith}
use Rattle.std.specs.List.{remove, AllByRecursion}
use Rattle.std.proofs.ByRecursion.{All-append, All-push, All-take, All-drop, All-weaker}
use Rattle.std.proofs.lemmas.List.{take_at, take-take}
use Rattle.std.proofs.lemmas.List.Sums.{sum_by-cons, sum_by_push}
use Rattle.std.proofs.lemmas.Bool.{both_ways, cases_Bool, cond-true, cond-false, cond_both, and_parts, or_cases, eqb-true, eqb-false, leb-true}
use Rattle.kinds.specs.Kinds.{Model, Laws, along}
use Rattle.search.specs.Answers.{best}
use Rattle.search.specs.Routes.{link_at, uses, Leads, route_of}
use Rattle.search.specs.Rule.{Query, is_open, made}
use Rattle.search.specs.declared.answer.Best.{Best}
use Rattle.search.specs.declared.label.Link.{Link}
use Rattle.search.proofs.Promised.{best_cheapest}
use Rattle.search.proofs.Walks.{link_inside}
use Rattle.net.specs.Ledger.{Entry, Ledger, Site, numbers, booked_over, record_of, begun, asks, answer, entered, changed, next, after}
use Rattle.net.specs.Questions.{Told, node_count, book_refusal, found_of}
use Rattle.net.specs.Tables.{has, flags_for, route, load}
use Rattle.net.specs.declared.types.Call.{Call}
use Rattle.net.specs.declared.types.Call.TheVariants.{Add, Withdraw, Open, Book, Release, Show, Load, Close}
use Rattle.net.specs.declared.types.Request.{Request}
use Rattle.net.proofs.Booking.{passed}
use Rattle.net.proofs.Flags.{flag_of}

-- the hops of a stream are its route's length, sixteen at the most
pub record Measured {K : Type 0} (e : Entry K) : Type 0 where
  pub hops_is : e.hops ≡ length e.route
  pub short : length e.route ≤ 16

-- a call that is not refused was made in the state that takes it
laid : (serving : Bool) (t : Told) → (cond serving (22, []) t).0 ≡ 0 → serving ≡ false
laid true t e = absurd (omega arith)
laid false t e = refl

pub served : (serving : Bool) (t : Told) → (cond serving t (22, [])).0 ≡ 0 → (serving ≡ true) × (t.0 ≡ 0)
served true t e = (refl, e)
served false t e = absurd (omega arith)

pub let_through : (refusal : ℕ) (t : Told) → (cond (eqb refusal 0) t (refusal, [])).0 ≡ 0 → (refusal ≡ 0) × (t.0 ≡ 0)
let_through refusal t e =
    ⊎_elim
    (λ yes'. (eqb-true refusal 0 yes', ap (λ x. x.0) (sym (cond-true (eqb refusal 0) t (refusal, []) yes')) ∙ e))
    (λ no'. absurd (eqb-false refusal 0 no' (ap (λ x. x.0) (sym (cond-false (eqb refusal 0) t (refusal, []) no')) ∙ e)))
    (cases_Bool (eqb refusal 0))

-- a search that found a route
pub found : (full : Bool) (o : Option Best) (n : ℕ) → (cond full (16, []) (found_of o n)).0 ≡ 0 → (b : Best) × (o ≡ Some b) × (full ≡ false)
found true o n e = absurd (omega arith)
found false None n e = absurd (omega arith)
found false (Some b) n e = (b, refl, refl)

sum_removed : {X : Type 0} (f : X → ℕ) (xs : List X) (i : ℕ) → sum_by f (remove xs i) ≤ sum_by f xs
sum_removed f [] zero = omega arith
sum_removed f [] (suc i) = omega arith
sum_removed f (x ∷ xs) zero = omega (arith, sum_by-cons f x xs)
sum_removed f (x ∷ xs) (suc i) =
    let rest = sum_removed f xs i in
    let less : sum_by f (x ∷ remove xs i) ≡ f x + sum_by f (remove xs i) = sum_by-cons f x (remove xs i) in
    omega (arith, sum_by-cons f x xs)

module _ {K S U : Type 0} (m : Model K S U) (q : Query K U) where
  leads_open : (a : ℕ) (p : List ℕ) (b : ℕ) → Leads m q a p b → (i : ℕ) → has i p ≡ true → is_open q.flags i ≡ true
  leads_open a [] b h i on = absurd (both_ways false refl on)
  leads_open a (j ∷ p) b (l, there, o, t, rest) i on =
      ⊎_elim
      (λ here. subst (λ n. is_open q.flags n ≡ true) (eqb-true j i here) o)
      (λ later. leads_open l.head p b rest i later)
      (or_cases (eqb j i) (has i p) on)

-- an open link has room for the rate
open_room : {U : Type 0} (load : ℕ → ℕ) (rate : ℕ) (links : List (Link U)) (i : ℕ) (l : Link U) → link_at links i ≡ l ∷ [] → is_open (flags_for load rate links) i ≡ true → load i + rate ≤ l.capacity
open_room load rate links i l there o =
    let (inside, read) = link_inside links i l there in
    let flag : get_or (flags_for load rate links) i false ≡ true = (and_parts _ _ o).1 in
    let fits = leb-true _ _ (sym (flag_of load rate links i false l inside) ∙ flag) in
    subst (λ x. load i + rate ≤ x.capacity) (sym read) fits

module _ {K S U : Type 0} (m : Model K S U) where
  -- an entry is measured, and within its limits over these links
  pub record Stands (links : List (Link U)) (e : Entry K) : Type 0 where
    pub measured : Measured e
    pub within : m.within e.kind (along m e.kind (uses links e.route)) ≡ true

  pub record Sound (s : Ledger K U) : Type 0 where
    -- no stream stands while the net is being laid
    pub idle : s.serving ≡ false → s.streams ≡ []
    pub stands : AllByRecursion (Stands s.links) s.streams
    pub loads : (i : ℕ) (l : Link U) → link_at s.links i ≡ l ∷ [] → booked_over s.streams i ≤ l.capacity

  sound_empty : (s : Ledger K U) → s.streams ≡ [] → Sound s
  sound_empty s none = record {
    idle = λ _. none;
    stands = subst (AllByRecursion (Stands s.links)) (sym none) tt;
    loads = λ i l there. subst (λ es. booked_over es i ≤ l.capacity) (sym none) (omega arith);
  }

  pub sound_begun : Sound begun
  sound_begun = sound_empty begun refl

  pub sound_measured : (s : Ledger K U) → Sound s → AllByRecursion Measured s.streams
  sound_measured s h = All-weaker (Stands s.links) Measured (λ e f. f.measured) s.streams h.stands

  -- the ledger with other streams
  abbrev holding : Ledger K U → List (Entry K) → Ledger K U
  holding s es = record { serving = s.serving; links = s.links; streams = es }

  sound_released : (s : Ledger K U) (i : ℕ) → s.serving ≡ true → Sound s → Sound (holding s (remove s.streams i))
  sound_released s i on h = record {
    idle = λ off. absurd (both_ways _ off on);
    stands = All-append (Stands s.links) (take i s.streams) (drop (suc i) s.streams) (All-take (Stands s.links) i s.streams h.stands) (All-drop (Stands s.links) (suc i) s.streams h.stands);
    loads = λ j l there.
        let less = sum_removed (λ e. cond (has j e.route) e.asked_for.rate 0) s.streams i in
        omega (arith, h.loads j l there);
  }

  module _ (site : Site) (laws : Laws m) where
    sound_booked : (s : Ledger K U) (k : K) (r : Request) → s.serving ≡ true → r.hop_limit ≤ 16 → Sound s → (b : Best) → best m k r.target (made m (asks m site s k r)) ≡ Some b → Sound (holding s (s.streams ++ entered m site s k r (Some b)))
    sound_booked s k r on few h b is =
        let q = asks m site s k r in
        let p = route_of (made m q) b.label in
        let e : Entry K = record { asked_for = r; kind = k; route = p; figure = b.figure; hops = b.hops } in
        let c = best_cheapest m laws q b is in
        record {
          idle = λ off. absurd (both_ways _ off on);
          stands = All-push (Stands s.links) s.streams e h.stands (record {
            measured = record { hops_is = sym c.hops_is; short = omega (arith, c.route.short) };
            within = c.route.within;
          });
          loads = λ i l there.
              let more = sum_by_push (λ x. cond (has i x.route) x.asked_for.rate 0) s.streams e in
              ⊎_elim
              (λ on-it.
              let room = open_room (booked_over s.streams) r.rate s.links i l there (leads_open m q r.source p r.target c.route.leads i on-it) in
              omega (arith, cond-true (has i p) r.rate 0 on-it))
              (λ off-it. omega (arith, cond-false (has i p) r.rate 0 off-it, h.loads i l there))
              (cases_Bool (has i p));
        }

    sound_changed : (s : Ledger K U) (c : Call K U) → Sound s → (answer m site s c).0 ≡ 0 → Sound (changed m site s c)
    sound_changed s (Add l) h e = sound_empty _ (h.idle (laid s.serving _ e))
    sound_changed s (Withdraw i) h e = sound_empty _ (h.idle (laid s.serving _ e))
    sound_changed s Open h e = sound_empty _ (h.idle (laid s.serving _ e))
    sound_changed s (Book r k places) h e =
        let nodes = node_count site.nodes in
        let free = min 64 site.stream_places in
        let (on, told) = served s.serving _ e in
        let (passes, searched) = let_through (book_refusal nodes free (numbers s.streams) r) _ told in
        let (b, is, fits) = found _ (best m k r.target (made m (asks m site s k r))) _ searched in
        subst (λ o. Sound (holding s (s.streams ++ entered m site s k r o))) (sym is)
        (sound_booked s k r on (passed nodes free (numbers s.streams) r passes).hops h b is)
    sound_changed s (Release n) h e = sound_released s _ (served s.serving _ e).0 h
    sound_changed s (Show n) h e = h
    sound_changed s (Load i) h e = h
    sound_changed s Close h e = sound_empty _ refl

    pub sound_next : (s : Ledger K U) (c : Call K U) → Sound s → Sound (next m site s c)
    sound_next s c h =
        cond_both (eqb (answer m site s c).0 0) (changed m site s c) s Sound (λ t. sound_changed s c h (eqb-true _ _ t)) (λ _. h)

    sound_from : (s : Ledger K U) (calls : List (Call K U)) → Sound s → Sound (fold (next m site) s calls)
    sound_from s [] h = h
    sound_from s (c ∷ calls) h = sound_from (next m site s c) calls (sound_next s c h)

    pub sound_after : (calls : List (Call K U)) → Sound (after m site calls)
    sound_after calls = sound_from begun calls sound_begun

module _ {K : Type 0} where
  pub route_kept : (e : Entry K) → Measured e → route (record_of e) ≡ e.route
  route_kept e h =
      take-take (min e.hops 16) 16 (e.route ++ replicate 16 0) (omega arith)
      ∙ take_at e.route (replicate 16 0) (min e.hops 16) (omega (arith, h.hops_is, h.short))

  -- the loads that the records say are those of the ledger
  pub load_same : (es : List (Entry K)) → AllByRecursion Measured es → (i : ℕ) → load (map record_of es) i ≡ booked_over es i
  load_same [] h i = refl
  load_same (e ∷ es) h i =
      sum_by-cons (λ s. cond (has i (route s)) s.rate 0) (record_of e) (map record_of es)
      ∙ ap₂ (λ p n. cond (has i p) e.asked_for.rate 0 + n) (route_kept e h.0) (load_same es h.1 i)
      ∙ sym (sum_by-cons (λ x. cond (has i x.route) x.asked_for.rate 0) e es)
