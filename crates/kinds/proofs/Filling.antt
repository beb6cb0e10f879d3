-- What lies in an array made from a function of the index. Assumes nothing.
use Rattle.std.proofs.Common.{◌≡◌, ℕ, suc, zero, ◌+◌, ◌<◌, ◌≤◌, List, get_or, map, refl, ◌∙◌, subst, ⊎_elim, arith}
use Rattle.std.specs.Array.{IsFromFnResult, IsFromFnResultFrom}
use Rattle.std.specs.Fn.{Called, Mut}
use Rattle.std.specs.List.{range_with_len}
use Rattle.std.proofs.lemmas.List.FromFn.{fill_by_all}
use Rattle.std.proofs.lemmas.Bool.{cases_lt}

module _ {F B : Type 0} (g : Mut F (ℕ × Unit {0}) B) (f : F) (h : ℕ → B) (ys : List B) (calls : (i : ℕ) (y : B) (q : F) → Called g f (i, tt) y q → (q ≡ f) × (y ≡ h i)) where
  each_from : (n i : ℕ) (p : F) → p ≡ f → IsFromFnResultFrom g p ys i n → (j : ℕ) (d : B) → i ≤ j → j < i + n → get_or ys j d ≡ h j
  each_from zero i p e made j d le lt = absurd (omega arith)
  each_from (suc n) i p e (q, y, read, called, rest) j d le lt =
      let told = calls i y q (subst (λ x. Called g x (i, tt) y q) e called) in
      ⊎_elim
      (λ later. each_from n (i + 1) q told.0 rest j d (omega arith) (omega arith))
      (λ here. let same : i ≡ j = omega arith in subst (λ k. get_or ys k d ≡ h k) same (read.1 d ∙ told.1))
      (cases_lt i j)

  pub filled_by : (n : ℕ) → B → IsFromFnResult g f ys n → ys ≡ map h (range_with_len 0 n)
  filled_by n d made = fill_by_all h ys n d made.long (λ k lt. each_from n 0 f refl made.each k d (omega arith) (omega arith))
