-- Values whose type holds a fact are equal where their numbers are. Assumes nothing.
use Rattle.std.proofs.Common.{◌≡◌, ℕ, ◌≤◌, min, leb, List, [], ◌∷◌, get_or, Ok, sym, ap, ◌∙◌, subst, ⊎_elim, arith}
use native.Mathlib.Bridge.{le_prop}
use native.Mathlib.Nat.{min-eq_right}
use Rattle.std.proofs.lemmas.Bool.{cases_Bool, cond-true, cond-false, leb-true}
use Rattle.kinds.specs.Budget.{making, made_of}
use Rattle.kinds.specs.declared.Budget.{Budget}
use Rattle.forms.specs.Values.{budget_of}

-- the same numbers, with any two proofs of the fact
same_made : {A B : Type 0} (P : A → Type 0) → ((a : A) → IsProp (P a)) → (make : (a : A) → P a → B) → (a b : A) → a ≡ b → (p : P a) (q : P b) → make a p ≡ make b q
same_made {A} {B} P one make a b e p q = subst (λ c. (r : P c) → make a p ≡ make c r) e (λ r. ap (make a) (one a p r)) q

pub same_budget : (b c : Budget) → b.allowance ≡ c.allowance → b.limit ≡ c.limit → b ≡ c
same_budget b c e f =
    same_made {A = ℕ × ℕ} (λ a. a.0 ≤ 8) (λ a. le_prop) (λ a p. record { allowance = a.0; limit = a.1; few = p }) (b.allowance, b.limit) (c.allowance, c.limit) (λ i. (e i, f i)) b.few c.few

-- a number that fits is not cut
pub uncut : (top n : ℕ) → n ≤ top → n ≡ min top n
uncut top n small = sym (min-eq_right small)

-- a budget that was made is the one of its numbers
pub budget-made : (b : Budget) (allowance limit : ℕ) → made_of (Ok b) ≡ making allowance limit → Ok b ≡ budget_of allowance limit
budget-made b allowance limit told =
    ⊎_elim
    (λ t.
    let same : (0, b.allowance ∷ b.limit ∷ []) ≡ (0, allowance ∷ limit ∷ []) = told ∙ cond-true _ _ _ t in
    let is-allowance : b.allowance ≡ allowance = ap (λ (p : ℕ × List ℕ). get_or p.1 0 0) same in
    let is-limit : b.limit ≡ limit = ap (λ (p : ℕ × List ℕ). get_or p.1 1 0) same in
    ap (λ x. Ok x) (same_budget b _ (is-allowance ∙ uncut 8 allowance (leb-true allowance 8 t)) is-limit) ∙ sym (cond-true _ _ _ t))
    (λ t. absurd (let z : 0 ≡ 2 = ap (λ (p : ℕ × List ℕ). p.0) (told ∙ cond-false _ _ _ t) in omega arith))
    (cases_Bool (leb allowance 8))
