-- A budget keeps the laws. Assumes nothing.
use Rattle.std.specs.Prelude.{◌≡◌, ℕ, zero, suc, ◌+◌, ◌<◌, ◌≤◌, Bool, true, false, cond, List, length, nat_le, slice_index}
use Rattle.std.proofs.Common.{subst, ◌∙◌, ⊎_elim, le_refl, le_trans, zero-add, arith}
use Rattle.std.proofs.lemmas.List.FromFn.{get_or-map-range_with_len, fill_by_all}
use Rattle.std.proofs.lemmas.Bool.{and_from, and_parts, both_ways, cond-true, cond_both, le-leb, leb-true, leb-false, cases_lt, cases_Bool}
use Rattle.kinds.specs.Kinds.{Laws}
use Rattle.kinds.specs.Budget.{worst_at, raised, up_to, budget_model}
use Rattle.kinds.specs.declared.budget.Budget.{Budget}
use Rattle.kinds.specs.declared.budget.BudgetState.{BudgetState}
use Rattle.kinds.specs.declared.budget.BudgetUse.{BudgetUse}

pub up_to_each : (g : ℕ) (p : ℕ → Bool) → up_to g p ≡ true → (i : ℕ) → i ≤ g → p i ≡ true
up_to_each zero p h i le = let e : 0 ≡ i = omega arith in subst (λ j. p j ≡ true) e h
up_to_each (suc g) p h i le =
    let parts = and_parts _ _ h in
    ⊎_elim
    (λ (lt : i < suc g). up_to_each g p parts.1 i (omega arith))
    (λ ge. let e : suc g ≡ i = omega arith in subst (λ j. p j ≡ true) e parts.0)
    (cases_lt i (suc g))

pub up_to_from : (g : ℕ) (p : ℕ → Bool) → ((i : ℕ) → i ≤ g → p i ≡ true) → up_to g p ≡ true
up_to_from zero p h = h 0 (omega arith)
up_to_from (suc g) p h = and_from _ _ (h (suc g) (le_refl _)) (up_to_from g p (λ i le. h i (omega arith)))

pub up_to_fails : (g : ℕ) (p : ℕ → Bool) (i : ℕ) → i ≤ g → p i ≡ false → up_to g p ≡ false
up_to_fails g p i le fails =
    ⊎_elim (λ all. absurd (both_ways (p i) fails (up_to_each g p all i le))) (λ e. e) (cases_Bool (up_to g p))

-- each number of a is at most that of b
Below : ℕ → BudgetState → BudgetState → Type 0
Below g a b = (i : ℕ) → i ≤ g → worst_at a i ≤ worst_at b i

module _ (k : Budget) where
  covers_each : (a b : BudgetState) → budget_model.covers k a b ≡ true → Below k.allowance a b
  unfolding Below
  covers_each a b h i le = leb-true _ _ (up_to_each k.allowance _ h i le)

  covers_from : (a b : BudgetState) → Below k.allowance a b → budget_model.covers k a b ≡ true
  unfolding Below
  covers_from a b h = up_to_from k.allowance _ (λ i le. le-leb _ _ (h i le))

  pub extended_at : (s : BudgetState) (u : BudgetUse) (g : ℕ) → g ≤ k.allowance → worst_at (budget_model.extended k s u) g ≡ raised s u g
  extended_at s u g le =
      get_or-map-range_with_len (λ i. cond (nat_le i k.allowance) (raised s u i) 0) 0 9 g g 0 (omega (arith, k.few)) (zero-add g)
      ∙ cond-true _ _ _ (le-leb _ _ le)

  pub filled : (s : BudgetState) (u : BudgetUse) (xs : List ℕ) → length xs ≡ 9 → ((i : ℕ) → i < k.allowance + 1 → slice_index xs i ≡ raised s u i) → ((i : ℕ) → k.allowance + 1 ≤ i → slice_index xs i ≡ 0) → xs ≡ (budget_model.extended k s u).worst
  filled s u xs long below above =
      fill_by_all (λ i. cond (nat_le i k.allowance) (raised s u i) 0) xs 9 0 long
      (λ i lt.
      cond_both (nat_le i k.allowance) (raised s u i) 0 (λ w. slice_index xs i ≡ w)
      (λ e. below i (omega (arith, leb-true _ _ e)))
      (λ e. above i (omega (arith, leb-false _ _ e))))

raised_below : (a b : BudgetState) (u : BudgetUse) (g : ℕ) → Below g a b → raised a u g ≤ raised b u g
unfolding Below
raised_below a b u zero h = let l = h 0 (le_refl _) in omega arith
raised_below a b u (suc g) h = let l = h g (omega arith) in let r = h (suc g) (le_refl _) in omega arith

raised_grows : (s : BudgetState) (u : BudgetUse) (g : ℕ) → worst_at s g ≤ raised s u g
raised_grows s u zero = omega arith
raised_grows s u (suc g) = omega arith

pub budget_laws : Laws budget_model
unfolding Below
budget_laws = record {
  itself = λ k a. covers_from k a a (λ i le. le_refl _);
  chain = λ k a b c p q. covers_from k a c (λ i le. le_trans (covers_each k a b p i le) (covers_each k b c q i le));
  extends = λ k a b u p. covers_from k (budget_model.extended k a u) (budget_model.extended k b u) (λ i le.
      rw (extended_at k a u i le, extended_at k b u i le) (raised_below a b u i (λ j lj. covers_each k a b p j (omega arith))));
  keeps = λ k a b p q. le-leb _ _ (le_trans (covers_each k a b p k.allowance (le_refl _)) (leb-true _ _ q));
  grows = λ k a u. covers_from k a (budget_model.extended k a u) (λ i le. rw (extended_at k a u i le) (raised_grows a u i));
  ranks = λ k a b p. covers_each k a b p k.allowance (le_refl _);
}
