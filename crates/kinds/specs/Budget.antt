-- What a budget computes, and what making one answers. Assumes nothing.
use Rattle.std.specs.Prelude.{ℕ, zero, suc, ◌+◌, max, Bool, cond, ◌&&◌, List, [], ◌∷◌, map, replicate, Ok, Err, Result, nat_le, slice_index}
use Rattle.std.specs.List.{range_with_len}
use Rattle.kinds.specs.Kinds.{Model}
use Rattle.kinds.specs.Stopped.{stopped}
use Rattle.kinds.specs.declared.budget.Budget.{Budget}
use Rattle.kinds.specs.declared.budget.BudgetFault.{BudgetFault}
use Rattle.kinds.specs.declared.budget.BudgetFault.TheVariants.{AllowanceAboveEight}
use Rattle.kinds.specs.declared.budget.BudgetState.{BudgetState}
use Rattle.kinds.specs.declared.budget.BudgetUse.{BudgetUse}

-- w(g): what the route comes to with at most g links at their worst
abbrev pub worst_at : BudgetState → ℕ → ℕ
worst_at s g = slice_index s.worst g

-- w(g) over one link more: that link is at its worst and at most g - 1 others are, or it is not
abbrev pub raised : BudgetState → BudgetUse → ℕ → ℕ
raised s u zero = stopped (worst_at s 0) u.nominal
raised s u (suc g) = max (stopped (worst_at s g) (u.nominal + u.extra)) (stopped (worst_at s (suc g)) u.nominal)

-- a test passes at each number from 0 to g
abbrev pub up_to : ℕ → (ℕ → Bool) → Bool
up_to zero p = p 0
up_to (suc g) p = p (suc g) && up_to g p

abbrev pub budget_model : Model Budget BudgetState BudgetUse
budget_model = record {
  start = λ k. record { worst = replicate 9 0 };
  extended = λ k s u. record { worst = map (λ g. cond (nat_le g k.allowance) (raised s u g) 0) (range_with_len 0 9) };
  within = λ k s. nat_le (worst_at s k.allowance) k.limit;
  covers = λ k a b. up_to k.allowance (λ g. nat_le (worst_at a g) (worst_at b g));
  figure = λ k s. worst_at s k.allowance;
}

abbrev pub fault_number : BudgetFault → ℕ
fault_number AllowanceAboveEight = 2

-- the answer to making a budget: 0 and its values, or the number of the refusal
abbrev pub making : ℕ → ℕ → ℕ × List ℕ
making allowance limit = cond (nat_le allowance 8) (0, allowance ∷ limit ∷ []) (2, [])

abbrev pub made_of : Result Budget BudgetFault → ℕ × List ℕ
made_of (Ok b) = (0, b.allowance ∷ b.limit ∷ [])
made_of (Err f) = (fault_number f, [])
