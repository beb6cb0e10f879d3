-- The budgets that are parts of a pair. Assumes nothing.
use Rattle.std.specs.Prelude.{◌≡◌}
use Rattle.kinds.specs.Budget.{budget_model}
use Rattle.kinds.specs.Kinds.{Model}
use Rattle.kinds.specs.Pair.{pair_model}
use Rattle.kinds.specs.Views.{BudgetPart}
use Rattle.kinds.specs.declared.budget.Budget.{Budget}
use Rattle.kinds.specs.declared.budget.BudgetUse.{BudgetUse}

-- a budget is a part of itself
abbrev pub PartOfItself : Type 0
PartOfItself = (w : BudgetPart budget_model) × (((k : Budget) → w.budget k ≡ k) × ((u : BudgetUse) → w.use_of u ≡ u))

-- a budget that is a part of either of two kinds is a part of their pair, with the same values and uses
pub record PartsOfPair {J K S T U V : Type 0} (m : Model J S U) (n : Model K T V) : Type 0 where
  pub first : (v : BudgetPart m) → (w : BudgetPart (pair_model m n)) × (((k : _) → w.budget k ≡ v.budget k.first) × ((u : _) → w.use_of u ≡ v.use_of u.first))
  pub second : (v : BudgetPart n) → (w : BudgetPart (pair_model m n)) × (((k : _) → w.budget k ≡ v.budget k.second) × ((u : _) → w.use_of u ≡ v.use_of u.second))
