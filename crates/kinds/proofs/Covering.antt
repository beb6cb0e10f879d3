-- The first numbers of two budget states, compared place by place. Assumes nothing.
use Rattle.std.proofs.Common.{◌≡◌, ℕ, zero, suc, ◌+◌, ◌<◌, ◌&&◌, List, [], ◌∷◌, length, get_or, take, sym, refl, ap, ◌∙◌, ap₂, add-one, arith, nat_le}
use Rattle.std.specs.List.{list_all, zip}
use Rattle.std.proofs.Math.Bool.{and_comm}
use Rattle.std.proofs.lemmas.List.Folds.{list_all_more}
use Rattle.std.proofs.lemmas.Slice.Zip.{get_or-zip, length-zip}
use Rattle.kinds.specs.Budget.{budget_model, up_to}
use Rattle.kinds.specs.declared.budget.Budget.{Budget}
use Rattle.kinds.specs.declared.budget.BudgetState.{BudgetState}

take_zip : {X Y : Type 0} (n : ℕ) (xs : List X) (ys : List Y) → take n (zip xs ys) ≡ zip (take n xs) (take n ys)
take_zip zero xs ys = refl
take_zip (suc n) [] ys = refl
take_zip (suc n) (x ∷ xs) [] = refl
take_zip (suc n) (x ∷ xs) (y ∷ ys) = ap (λ l. (x, y) ∷ l) (take_zip n xs ys)

module _ (a b : List ℕ) where
  each_below : (g : ℕ) → g < length a → g < length b → list_all (λ p. nat_le p.0 p.1) (take (g + 1) (zip a b)) ≡ up_to g (λ i. nat_le (get_or a i 0) (get_or b i 0))
  each_below zero la lb =
      list_all_more (λ p. nat_le p.0 p.1) (zip a b) 0 (0, 0) (omega (arith, length-zip a b))
      ∙ ap (λ p. nat_le p.0 p.1) (get_or-zip a b 0 (0, 0) la lb)
  each_below (suc g) la lb =
      list_all_more (λ p. nat_le p.0 p.1) (zip a b) (suc g) (0, 0) (omega (arith, length-zip a b))
      ∙ ap₂ (λ l p. list_all (λ q. nat_le q.0 q.1) l && nat_le p.0 p.1) (ap (λ n. take n (zip a b)) (sym (add-one g))) (get_or-zip a b (suc g) (0, 0) la lb)
      ∙ ap (λ t. t && nat_le (get_or a (suc g) 0) (get_or b (suc g) 0)) (each_below g (omega arith) (omega arith))
      ∙ and_comm (up_to g (λ i. nat_le (get_or a i 0) (get_or b i 0))) (nat_le (get_or a (suc g) 0) (get_or b (suc g) 0))

pub covers_all : (k : Budget) (a b : BudgetState) → length a.worst ≡ 9 → length b.worst ≡ 9 → list_all (λ p. nat_le p.0 p.1) (zip (take (k.allowance + 1) a.worst) (take (k.allowance + 1) b.worst)) ≡ budget_model.covers k a b
covers_all k a b la lb =
    ap (list_all (λ p. nat_le p.0 p.1)) (sym (take_zip (k.allowance + 1) a.worst b.worst))
    ∙ each_below a.worst b.worst k.allowance (omega (arith, k.few)) (omega (arith, k.few))
