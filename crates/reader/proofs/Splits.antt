-- The first piece of a split, and what follows it.
use Rattle.std.proofs.Common.{◌≡◌, ℕ, zero, suc, ◌+◌, ◌-◌, ◌<◌, Bool, true, false, eqb, ltb, List, [], ◌∷◌, length, get_or, take, drop, Some, None, sym, refl, ap, ◌∙◌, ⊎_elim, add-one, arith, length-drop}
use Rattle.std.specs.List.{between, position, position_or_len}
use Rattle.std.proofs.lemmas.List.{take_all, drop_all, drop-drop}
use Rattle.std.proofs.lemmas.List.Quantifiers.{position-Some}
use Rattle.std.proofs.lemmas.List.Sums.{fails_before_first}
use Rattle.std.proofs.lemmas.Bool.{cases_Bool, cond-true, cond-false, ltb-false}
use Rattle.reader.specs.Split.{onto, split}

-- none of the bytes before the place is s
abbrev Before : ℕ → List ℕ → ℕ → Type 0
Before s bs n = (k : ℕ) → k < n → eqb (get_or bs k 0) s ≡ false

split_found : (s : ℕ) (last : List (List ℕ)) (bs : List ℕ) (n : ℕ) → n < length bs → eqb (get_or bs n 0) s ≡ true → Before s bs n → split s last bs ≡ take n bs ∷ split s last (drop (suc n) bs)
split_found s last [] n l here before = absurd (omega arith)
split_found s last (b ∷ bs) zero l here before = cond-true _ _ _ here
split_found s last (b ∷ bs) (suc n) l here before =
    cond-false _ _ _ (before 0 (omega arith)) ∙ ap (onto b) (split_found s last bs n (omega arith) here (λ k lt. before (suc k) (omega arith)))

pub split_some : (s : ℕ) (last : List (List ℕ)) (bs : List ℕ) (n : ℕ) → Some n ≡ position (λ b. eqb b s) bs → split s last bs ≡ take n bs ∷ split s last (drop (n + 1) bs)
split_some s last bs n e =
    let h = position-Some (λ b. eqb b s) bs n 0 (sym e) in
    rw add-one (split_found s last bs n h.0 h.1 h.2)

-- where no element passes, none before the end does
pub none_passes : {X : Type 0} (p : X → Bool) (xs : List X) (k : ℕ) (d : X) → None ≡ position p xs → k < length xs → p (get_or xs k d) ≡ false
none_passes p xs k d e lt =
    ⊎_elim
    (λ t. absurd (none_is (position_or_len p xs) (e ∙ cond-true _ _ _ t)))
    (λ t. fails_before_first p xs k d (omega (arith, ltb-false _ _ t)))
    (cases_Bool (ltb (position_or_len p xs) (length xs)))
  where
    none_is : (n : ℕ) → None ≡ Some n → ⊥
    none_is n h = cc

before_all : (s : ℕ) (bs : List ℕ) → None ≡ position (λ b. eqb b s) bs → Before s bs (length bs)
before_all s bs e k lt = none_passes (λ b. eqb b s) bs k 0 e lt

split_free : (s : ℕ) (bs : List ℕ) → Before s bs (length bs) → split s ([] ∷ []) bs ≡ bs ∷ []
split_free s [] before = refl
split_free s (b ∷ bs) before =
    cond-false _ _ _ (before 0 (omega arith)) ∙ ap (onto b) (split_free s bs (λ k lt. before (suc k) (omega arith)))

pub split_none : (s : ℕ) (bs : List ℕ) → None ≡ position (λ b. eqb b s) bs → split s ([] ∷ []) bs ≡ bs ∷ []
split_none s bs e = split_free s bs (before_all s bs e)

line_free : (s : ℕ) (bs : List ℕ) → 0 < length bs → Before s bs (length bs) → split s [] bs ≡ bs ∷ []
line_free s [] some before = absurd (omega arith)
line_free s (b ∷ []) some before = cond-false _ _ _ (before 0 (omega arith))
line_free s (b ∷ c ∷ bs) some before =
    cond-false _ _ _ (before 0 (omega arith)) ∙ ap (onto b) (line_free s (c ∷ bs) (omega arith) (λ k lt. before (suc k) (omega arith)))

module _ (s : ℕ) (bs : List ℕ) (p : ℕ) where
  pub line_some : (n : ℕ) → Some n ≡ position (λ b. eqb b s) (drop p bs) → split s [] (drop p bs) ≡ between p (p + n) bs ∷ split s [] (drop (p + n + 1) bs)
  line_some n e =
      let long : p + n - p ≡ n = omega arith in
      let after : p + n + 1 ≡ p + (n + 1) = omega arith in
      rw (long, after, ← drop-drop (n + 1) p bs) (split_some s [] (drop p bs) n e)

  pub line_none : 0 < length (drop p bs) → None ≡ position (λ b. eqb b s) (drop p bs) → split s [] (drop p bs) ≡ between p (length bs) bs ∷ split s [] (drop (length bs) bs)
  line_none some e =
      let rest = length-drop p bs in
      rw (drop_all (length bs) bs (omega arith), take_all (length bs - p) (drop p bs) (omega arith)) (line_free s (drop p bs) some (before_all s (drop p bs) e))
