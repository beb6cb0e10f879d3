-- What a budget means: the worst over every choice of links. Assumes nothing.
use Rattle.std.specs.Prelude.{◌≡◌, ℕ, ◌+◌, ◌≤◌, min, Bool, cond, List, [], ◌∷◌, length, Decides, count_by}
use Rattle.kinds.specs.Budget.{budget_model, worst_at}
use Rattle.kinds.specs.Kinds.{along}
use Rattle.kinds.specs.Stopped.{top}
use Rattle.kinds.specs.declared.budget.Budget.{Budget}
use Rattle.kinds.specs.declared.budget.BudgetState.{BudgetState}
use Rattle.kinds.specs.declared.budget.BudgetUse.{BudgetUse}

-- how many links are chosen
abbrev pub chosen : List Bool → ℕ
chosen flags = count_by (λ flag. flag) flags

-- a choice of at most g links of a route: a flag for each link, true where the link is at its worst
abbrev pub Choice : ℕ → List BudgetUse → List Bool → Type 0
Choice g us flags = (length flags ≡ length us) × (chosen flags ≤ g)

-- all nominals, and the extras of the chosen
abbrev pub sum_under : List BudgetUse → List Bool → ℕ
sum_under [] flags = 0
sum_under (u ∷ us) [] = u.nominal + sum_under us []
sum_under (u ∷ us) (flag ∷ flags) = u.nominal + cond flag u.extra 0 + sum_under us flags

-- x is the largest sum over every choice of at most g links
pub record Largest (us : List BudgetUse) (g x : ℕ) : Type 0 where
  pub bounds : (flags : List Bool) → Choice g us flags → sum_under us flags ≤ x
  pub attained : (flags : List Bool) × Choice g us flags × (sum_under us flags ≡ x)

-- what the state s of a budget says of the route
pub record WorstCase (k : Budget) (us : List BudgetUse) (s : BudgetState) : Type 0 where
  pub state : s ≡ along budget_model k us
  -- w(g) is the largest sum over every choice of at most g links, cut at the top
  pub worst : (g : ℕ) → g ≤ k.allowance → (x : ℕ) × Largest us g x × (worst_at s g ≡ min x top)
  -- sixteen links never reach the top
  pub uncut : length us ≤ 16 → (g : ℕ) → g ≤ k.allowance → Largest us g (worst_at s g)
  -- within: every choice of at most the allowance stays at or below the limit
  pub within : Decides (budget_model.within k s) ((flags : List Bool) → Choice k.allowance us flags → min (sum_under us flags) top ≤ k.limit)
  pub within_uncut : length us ≤ 16 → Decides (budget_model.within k s) ((flags : List Bool) → Choice k.allowance us flags → sum_under us flags ≤ k.limit)
