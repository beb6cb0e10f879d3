-- The labels in order of number: when each was taken, and when all have been. Assumes nothing.
use Rattle.std.proofs.Common.{◌≡◌, ℕ, zero, suc, ◌+◌, ◌-◌, ◌<◌, ◌≤◌, Bool, true, false, cond, ◌||◌, eqb, leb, List, [], ◌∷◌, length, get_or, sym, refl, ap, ◌∙◌, subst, ⊎_elim, arith, length-append}
use Rattle.std.proofs.ByRecursion.{All-get_or}
use Rattle.std.proofs.lemmas.List.{get_or_append_left, get_or-append_right}
use Rattle.std.proofs.lemmas.Bool.{cases_lt, cond-true, cond-false, lt-ltb, le-ltb, or_right, le-leb}
use Rattle.kinds.specs.Kinds.{Model}
use Rattle.search.specs.Rule.{Query, label0, takes, tries, after, shorter, made}
use Rattle.search.specs.declared.label.Label.{Label}
use Rattle.search.proofs.Offers.{Grows, grows_none, grows_chain, grows_length, grows_get_d, tries_grows}
use Rattle.search.proofs.Offspring.{Made, tries_adds}

module _ {K S U : Type 0} (m : Model K S U) (q : Query K U) where
  pub takes_grows : (n : ℕ) (l : Label S) (ls : List (Label S)) → Grows ls (takes m q n l ls)
  takes_grows n l ls = passed (eqb l.node q.target || leb q.hop_limit l.hops)
    where
      passed : (b : Bool) → Grows ls (cond b ls (tries m q.kind q.flags n l 0 q.links ls))
      passed true = grows_none ls
      passed false = tries_grows m q.kind q.flags n l 0 q.links ls

  pub after_next : (n : ℕ) → n < length (after m q n) → after m q (suc n) ≡ takes m q n (get_or (after m q n) n (label0 m q)) (after m q n)
  unfolding after
  after_next n lt = cond-true _ _ _ (lt-ltb _ _ lt)

  pub after_none : (n : ℕ) → length (after m q n) ≤ n → after m q (suc n) ≡ after m q n
  unfolding after
  after_none n le = cond-false _ _ _ (le-ltb _ _ le)

  after_grows_one : (n : ℕ) → Grows (after m q n) (after m q (suc n))
  after_grows_one n =
      ⊎_elim
      (λ lt. subst (Grows (after m q n)) (sym (after_next n lt)) (takes_grows n _ _))
      (λ le. subst (Grows (after m q n)) (sym (after_none n le)) (grows_none _))
      (cases_lt n (length (after m q n)))

  after_grows_by : (i n : ℕ) → Grows (after m q n) (after m q (n + i))
  after_grows_by zero n = subst (λ j. Grows (after m q n) (after m q j)) (omega arith) (grows_none _)
  after_grows_by (suc i) n =
      grows_chain (after_grows_by i n) (subst (λ j. Grows (after m q (n + i)) (after m q j)) (omega arith) (after_grows_one (n + i)))

  pub after_grows : (n n' : ℕ) → n ≤ n' → Grows (after m q n) (after m q n')
  after_grows n n' le = subst (λ j. Grows (after m q n) (after m q j)) (omega arith) (after_grows_by (n' - n) n)

  after_done_by : (i n : ℕ) → length (after m q n) ≤ n → after m q (n + i) ≡ after m q n
  after_done_by zero n le = ap (after m q) (omega arith)
  after_done_by (suc i) n le =
      let same = after_done_by i n le in
      ap (after m q) (omega arith) ∙ after_none (n + i) (omega (arith, ap length same)) ∙ same

  pub after_done : (n n' : ℕ) → n ≤ n' → length (after m q n) ≤ n → after m q n' ≡ after m q n
  after_done n n' le done = ap (after m q) (omega arith) ∙ after_done_by (n' - n) n done

  pub shorter_fits : (h : ℕ) → shorter m q h ≤ length (after m q (shorter m q h))
  unfolding shorter
  shorter_fits zero = omega arith
  shorter_fits (suc h) =
      grows_length (after_grows (shorter m q h) (length (after m q (shorter m q h))) (shorter_fits h))

  -- the labels of ls from number s on have h hops
  abbrev pub Level : List (Label S) → ℕ → ℕ → Type 0
  Level ls s h = (i : ℕ) → s ≤ i → i < length ls → (get_or ls i (label0 m q)).hops ≡ h

  -- what a label makes has one hop more
  takes_level : (n : ℕ) (l : Label S) (ls : List (Label S)) (s h : ℕ) → l.hops ≡ h → Level ls s (h + 1) → s ≤ length ls → Level (takes m q n l ls) s (h + 1)
  takes_level n l ls s h hops level inside = passed (eqb l.node q.target || leb q.hop_limit l.hops)
    where
      passed : (b : Bool) → Level (cond b ls (tries m q.kind q.flags n l 0 q.links ls)) s (h + 1)
      passed true = level
      passed false =
          let (more, is, each) = tries_adds m q.kind q.flags n l q.links ls in
          λ i le lt.
          ap (λ x. (get_or x i (label0 m q)).hops) is
          ∙ ⊎_elim
          (λ old. ap (λ c. c.hops) (get_or_append_left ls more (label0 m q) i old) ∙ level i le old)
          (λ new.
          let long = ap length is ∙ length-append ls more in
          let made-here = All-get_or (Made m q.kind q.flags q.links n l ls) more (i - length ls) (label0 m q) (omega arith) each in
          ap (λ c. c.hops) (get_or-append_right ls more (length ls) i (label0 m q) refl new) ∙ ap (λ c. c.hops) made-here.is ∙ ap (λ a. a + 1) hops)
          (cases_lt i (length ls))

  block : (s h : ℕ) → Level (after m q s) s h → (i : ℕ) → s + i ≤ length (after m q s) → Level (after m q (s + i)) (length (after m q s)) (h + 1)
  block s h level zero le = λ j from lt. absurd (let same : length (after m q (s + 0)) ≡ length (after m q s) = ap (λ n. length (after m q n)) (omega arith) in omega arith)
  block s h level (suc i) le =
      let grown = after_grows s (s + i) (omega arith) in
      let longer = grows_length grown in
      let inside : s + i < length (after m q (s + i)) = omega arith in
      let hops : (get_or (after m q (s + i)) (s + i) (label0 m q)).hops ≡ h = ap (λ c. c.hops) (grows_get_d grown (s + i) (label0 m q) (omega arith)) ∙ level (s + i) (omega arith) (omega arith) in
      let next : after m q (s + suc i) ≡ takes m q (s + i) (get_or (after m q (s + i)) (s + i) (label0 m q)) (after m q (s + i)) = ap (after m q) (omega arith) ∙ after_next (s + i) inside in
      subst (λ ls. Level ls (length (after m q s)) (h + 1)) (sym next)
      (takes_level (s + i) (get_or (after m q (s + i)) (s + i) (label0 m q)) (after m q (s + i)) (length (after m q s)) h hops (block s h level i (omega arith)) longer)

  pub levels : (h : ℕ) → Level (after m q (shorter m q h)) (shorter m q h) h
  unfolding shorter after
  levels zero = starts (m.within q.kind (m.start q.kind))
    where
      starts : (b : Bool) (i : ℕ) → 0 ≤ i → i < length (cond b (label0 m q ∷ []) []) → (get_or (cond b (label0 m q ∷ []) []) i (label0 m q)).hops ≡ 0
      starts true zero le lt = refl
      starts true (suc i) le lt = absurd (omega arith)
      starts false i le lt = absurd (omega arith)
  levels (suc h) =
      let s = shorter m q h in
      let e = length (after m q s) in
      let fits = shorter_fits h in
      let whole : s + (e - s) ≡ e = omega arith in
      λ i le lt.
      subst (λ n. Level (after m q n) e (h + 1)) whole (block s h (levels h) (e - s) (omega arith)) i le lt ∙ omega arith

  -- past the last round nothing changes
  still : (i : ℕ) → after m q (shorter m q q.hop_limit + i) ≡ made m q
  unfolding made
  still zero = ap (after m q) (omega arith)
  still (suc i) =
      let n = shorter m q q.hop_limit + i in
      let same = still i in
      ap (after m q) (omega arith)
      ∙ ⊎_elim
      (λ lt.
      let hops : (get_or (after m q n) n (label0 m q)).hops ≡ q.hop_limit = ap (λ ls. (get_or ls n (label0 m q)).hops) same ∙ levels q.hop_limit n (omega arith) (omega (arith, ap length same)) in
      after_next n lt ∙ cond-true _ _ _ (or_right (eqb (get_or (after m q n) n (label0 m q)).node q.target) (leb q.hop_limit (get_or (after m q n) n (label0 m q)).hops) (le-leb _ _ (omega arith))))
      (λ le. after_none n le)
      (cases_lt n (length (after m q n)))
      ∙ same

  pub made_late : (n : ℕ) → shorter m q q.hop_limit ≤ n → after m q n ≡ made m q
  made_late n le = ap (after m q) (omega arith) ∙ still (n - shorter m q q.hop_limit)

  pub made_grows : (n : ℕ) → Grows (after m q n) (made m q)
  unfolding made
  made_grows n =
      ⊎_elim
      (λ lt. after_grows n (shorter m q q.hop_limit) (omega arith))
      (λ le. subst (Grows (after m q n)) (made_late n le) (grows_none _))
      (cases_lt n (shorter m q q.hop_limit))

  pub made_done : (n : ℕ) → length (after m q n) ≤ n → after m q n ≡ made m q
  unfolding made
  made_done n done =
      ⊎_elim
      (λ lt. sym (after_done n (shorter m q q.hop_limit) (omega arith) done))
      (λ le. made_late n le)
      (cases_lt n (shorter m q q.hop_limit))
