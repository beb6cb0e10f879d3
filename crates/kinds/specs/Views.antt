-- A budget as a part of a kind, through any pairs. Assumes nothing.
use Rattle.std.specs.Prelude.{◌≡◌, true, refl}
use Rattle.std.proofs.lemmas.Bool.{and_parts}
use Rattle.kinds.specs.Budget.{budget_model}
use Rattle.kinds.specs.Kinds.{Model}
use Rattle.kinds.specs.Pair.{pair_model}
use Rattle.kinds.specs.declared.budget.Budget.{Budget}
use Rattle.kinds.specs.declared.budget.BudgetState.{BudgetState}
use Rattle.kinds.specs.declared.budget.BudgetUse.{BudgetUse}

-- the kind has a budget as a part: its states and uses can be seen as the budget's
pub record BudgetPart {K S U : Type 0} (m : Model K S U) : Type 0 where
  pub budget : K → Budget
  pub state : S → BudgetState
  pub use_of : U → BudgetUse
  pub starts : (k : K) → state (m.start k) ≡ budget_model.start (budget k)
  pub extends : (k : K) (s : S) (u : U) → state (m.extended k s u) ≡ budget_model.extended (budget k) (state s) (use_of u)
  pub keeps_within : (k : K) (s : S) → m.within k s ≡ true → budget_model.within (budget k) (state s) ≡ true

-- a budget is a part of itself
abbrev pub itself : BudgetPart budget_model
itself = record {
  budget = λ k. k;
  state = λ s. s;
  use_of = λ u. u;
  starts = λ k. refl;
  extends = λ k s u. refl;
  keeps_within = λ k s w. w;
}

module _ {J K S T U V : Type 0} (m : Model J S U) (n : Model K T V) where
  -- a budget that is a part of either of two kinds is a part of their pair
  abbrev pub of_first : BudgetPart m → BudgetPart (pair_model m n)
  of_first v = record {
    budget = λ k. v.budget k.first;
    state = λ s. v.state s.first;
    use_of = λ u. v.use_of u.first;
    starts = λ k. v.starts k.first;
    extends = λ k s u. v.extends k.first s.first u.first;
    keeps_within = λ k s w. v.keeps_within k.first s.first (and_parts _ _ w).0;
  }

  abbrev pub of_second : BudgetPart n → BudgetPart (pair_model m n)
  of_second v = record {
    budget = λ k. v.budget k.second;
    state = λ s. v.state s.second;
    use_of = λ u. v.use_of u.second;
    starts = λ k. v.starts k.second;
    extends = λ k s u. v.extends k.second s.second u.second;
    keeps_within = λ k s w. v.keeps_within k.second s.second (and_parts _ _ w).1;
  }
