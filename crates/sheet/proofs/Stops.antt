-- What the states along a gated route say of it. Assumes nothing.
use Rattle.std.proofs.Common.{◌≡◌, ℕ, ◌+◌, ◌<◌, ◌≤◌, Bool, true, false, List, [], ◌∷◌, ◌++◌, length, get_or, take, Some, None, Option, sym, ap, ◌∙◌, subst, ⊎_elim, arith}
use lib.ListN.{length-map}
use Rattle.std.specs.List.{position, zip}
use Rattle.std.proofs.lemmas.List.Quantifiers.{position-Some}
use Rattle.std.proofs.lemmas.List.Sums.{fold_more}
use Rattle.std.proofs.lemmas.Slice.Zip.{length-zip, get_or-zip}
use Rattle.std.proofs.lemmas.List.{get_or-map, get_or_append_left, get_or_push, length_push, take-map, length-take-le}
use Rattle.std.proofs.lemmas.Bool.{cases_lt, ltb-true, lt-ltb}
use Rattle.std.proofs.lemmas.Bool.Decides.{Decides-and, Decides-not, Decides-at}
use Rattle.kinds.specs.Arrivals.{Arrives, Late}
use Rattle.kinds.specs.Clock.{clock_model}
use Rattle.kinds.specs.Ducts.{ducts_model}
use Rattle.kinds.specs.Kinds.{along}
use Rattle.kinds.specs.Pair.{pair_model, Parts}
use Rattle.kinds.specs.Passes.{Passes}
use Rattle.kinds.specs.declared.Clock.{Clock}
use Rattle.kinds.specs.declared.Ducts.{Ducts}
use Rattle.kinds.specs.declared.Pair.{Pair}
use Rattle.kinds.proofs.Arrivals.{arrives}
use Rattle.kinds.proofs.Parts.{parts}
use Rattle.kinds.proofs.Passes.{passes}
use Rattle.reader.proofs.Splits.{none_passes}
use Rattle.sheet.specs.declared.audits.Verdict.{Verdict}
use Rattle.sheet.specs.Audits.{Gate, Stop, clock_uses, duct_uses, late, StopsOf, StopFacts, FirstMissed, GatedFacts}

-- the state of a route
abbrev pub state_of : Pair Clock Ducts → List Gate → Stop
state_of k us = along (pair_model clock_model ducts_model) k us

pub state_more : (k : Pair Clock Ducts) (us : List Gate) (i : ℕ) (u : Gate) (s s' : Stop) → i < length us → u ≡ get_or us i u → s ≡ state_of k (take i us) → s' ≡ (pair_model clock_model ducts_model).extended k s u → s' ≡ state_of k (take (i + 1) us)
state_more k us i u s s' inside link was next =
    let extended = (pair_model clock_model ducts_model).extended k in
    next ∙ ap (λ t. extended t u) was ∙ ap (extended (state_of k (take i us))) link ∙ sym (fold_more extended ((pair_model clock_model ducts_model).start k) us i u inside)

-- the states after the first i links
abbrev pub Sofar : Pair Clock Ducts → List Gate → List Stop → ℕ → Type 0
Sofar k us ss i = (length ss ≡ i) × ((j : ℕ) (d : Stop) → j < i → get_or ss j d ≡ state_of k (take (j + 1) us))

pub one_more : (k : Pair Clock Ducts) (us : List Gate) (ss ss' : List Stop) (i : ℕ) (s : Stop) → Sofar k us ss i → ss' ≡ ss ++ s ∷ [] → s ≡ state_of k (take (i + 1) us) → Sofar k us ss' (i + 1)
one_more k us ss ss' i s h p q = (
  ap length p ∙ length_push ss s ∙ ap (λ n. n + 1) h.0,
  λ j d lt.
      ap (λ l. get_or l j d) p
      ∙ ⊎_elim
      (λ before. get_or_append_left ss (s ∷ []) d j (omega (arith, h.0)) ∙ h.1 j d before)
      (λ at.
      let here : length ss ≡ j = omega (arith, h.0) in
      let same : i + 1 ≡ j + 1 = omega (arith, h.0) in
      get_or_push ss s d j here ∙ q ∙ ap (λ n. state_of k (take n us)) same)
      (cases_lt j i),
)

true_false : true ≡ false → ⊥
true_false h = cc

-- a link, where there is one
some_link : (us : List Gate) (i : ℕ) → i < length us → Gate
some_link [] i lt = absurd (omega arith)
some_link (u ∷ us) i lt = u

found_below : {X : Type 0} (p : X → Bool) (xs : List X) (i : ℕ) → Some i ≡ position p xs → i < length xs
found_below p [] i e = absurd (some_none i e)
  where
    some_none : (n : ℕ) → Some n ≡ None → ⊥
    some_none n h = cc
found_below p (x ∷ xs) i e = (position-Some p (x ∷ xs) i x (sym e)).0

module _ (k : Pair Clock Ducts) (us : List Gate) where
  pub stop_facts : (i : ℕ) (s : Stop) → s ≡ state_of k (take (i + 1) us) → StopFacts k us i s
  stop_facts i s e =
      let p = parts clock_model ducts_model k (take (i + 1) us) in
      record {
        arrives =
            subst (λ vs. Arrives k.first vs s.first) (sym (take-map (λ u. u.first) (i + 1) us))
            (subst (Arrives k.first (clock_uses (take (i + 1) us))) (sym (ap (λ t. t.first) e ∙ p.first)) (arrives k.first (clock_uses (take (i + 1) us))));
        passes =
            subst (λ vs. Passes k.second vs s.second) (sym (take-map (λ u. u.second) (i + 1) us))
            (subst (Passes k.second (duct_uses (take (i + 1) us))) (sym (ap (λ t. t.second) e ∙ p.second)) (passes k.second (duct_uses (take (i + 1) us))));
      }

  module _ (ss : List Stop) (few : length us ≤ 16) (stops : StopsOf k us ss) where
    -- a link is reached late just where its gate closes before the arrival at it
    late_is : (i : ℕ) (u : Gate) (s : Stop) → i < length us → (late (get_or us i u, get_or ss i s) ≡ true → Late k.first (clock_uses us) i) × (Late k.first (clock_uses us) i → late (get_or us i u, get_or ss i s) ≡ true)
    late_is i u s lt =
        let long = length-map us (λ v. v.first) in
        let front = length-take-le (i + 1) (clock_uses us) (omega arith) in
        let time = (stop_facts i (get_or ss i s) (stops.1 i s lt)).arrives.uncut (omega arith) in
        let closes =
        get_or-map (λ v. v.closes) (clock_uses us) i u.first 0 (omega arith) ∙ ap (λ v. v.closes) (get_or-map (λ v. v.first) us i u u.first lt)
        in (
          λ t. omega (arith, time, closes, ltb-true _ _ t),
          λ l. lt-ltb _ _ (omega (arith, time, closes, l)),
        )

    first_missed : (s : Stop) (r : Option ℕ) → r ≡ position late (zip us ss) → FirstMissed k.first (clock_uses us) r
    first_missed s None e = λ (i, lt, l).
        let short : i < length us = omega (arith, length-map us (λ v. v.first)) in
        let u = some_link us i short in
        let both : i < length (zip us ss) = omega (arith, length-zip us ss, stops.0) in
        let passes = (late_is i u s short).1 l in
        let at = get_or-zip us ss i (u, s) short (omega (arith, stops.0)) in
        true_false (sym passes ∙ sym (ap late at) ∙ none_passes late (zip us ss) i (u, s) e both)
    first_missed s (Some i) e =
        let both = found_below late (zip us ss) i e in
        let short : i < length us = omega (arith, length-zip us ss, stops.0) in
        let u = some_link us i short in
        let found = position-Some late (zip us ss) i (u, s) (sym e) in
        let at = λ (j : ℕ) (lt : j < length us). get_or-zip us ss j (u, s) lt (omega (arith, stops.0)) in (
          omega (arith, length-map us (λ v. v.first)),
          (late_is i u s short).0 (sym (ap late (at i short)) ∙ found.1),
          λ j lt l. true_false (sym ((late_is j u s (omega arith)).1 l) ∙ sym (ap late (at j (omega arith))) ∙ found.2 j lt),
        )

    pub facts : (v : Verdict) → Parts clock_model ducts_model k us v.state → v.missed ≡ position late (zip us ss) → v.within ≡ (pair_model clock_model ducts_model).within k v.state → GatedFacts k us ss v
    facts v p above is =
        let clock = subst (Arrives k.first (clock_uses us)) (sym p.first) (arrives k.first (clock_uses us)) in
        let ducts = subst (Passes k.second (duct_uses us)) (sym p.second) (passes k.second (duct_uses us)) in
        record {
          parts = p;
          arrives = clock;
          passes = ducts;
          count = stops.0;
          stops = λ i d lt. stop_facts i (get_or ss i d) (stops.1 i d lt);
          missed = first_missed v.state v.missed above;
          within = Decides-at _ _ is (Decides-and _ _ (Decides-not _ clock.shut) (Decides-not _ ducts.doubled));
        }
