-- Worked examples of the kinds, as one list of rows. Assumes nothing.
use Rattle.std.specs.Prelude.{◌≡◌, ℕ, ◌+◌, Bool, true, false, T, List, [], ◌∷◌, ◌++◌, map, take, replicate, nat_le, nat_lt}
use Rattle.std.proofs.Common.{lit≤, lit<}
use Rattle.kinds.specs.Budget.{budget_model}
use Rattle.kinds.specs.Clock.{clock_model}
use Rattle.kinds.specs.Ducts.{ducts_model}
use Rattle.kinds.specs.Kinds.{along}
use Rattle.kinds.specs.declared.budget.Budget.{Budget}
use Rattle.kinds.specs.declared.budget.BudgetState.{BudgetState}
use Rattle.kinds.specs.declared.budget.BudgetUse.{BudgetUse}
use Rattle.kinds.specs.declared.clock.Clock.{Clock}
use Rattle.kinds.specs.declared.clock.ClockState.{ClockState}
use Rattle.kinds.specs.declared.clock.ClockUse.{ClockUse}

-- a row gives what goes in and, last, what comes out
pub data Row : Type 0 where
  -- a budget, a route's uses, and the numbers w(0) to w(G)
  numbers : Budget → List BudgetUse → List ℕ → Row
  -- a budget, a state's numbers, and whether it is within
  within : Budget → List ℕ → Bool → Row
  -- a budget, the numbers of two states, and whether the first covers the second
  covers : Budget → List ℕ → List ℕ → Bool → Row
  -- a clock, a link, and the state after it
  arrives : Clock → ClockUse → ClockState → Row
  -- the ducts of a route, how many it passes, and whether one comes twice
  passes : List ℕ → ℕ → Bool → Row

abbrev pub budget : (allowance limit : ℕ) → T (nat_le allowance 8) → Budget
budget allowance limit few = record { allowance = allowance; limit = limit; few = lit≤ few }

abbrev pub link : (nominal extra : ℕ) → T (nat_lt nominal 65536) → T (nat_lt extra 65536) → BudgetUse
link nominal extra n e = record { nominal = nominal; extra = extra; narrow = (lit< n, lit< e) }

abbrev pub state : List ℕ → BudgetState
state ws = record { worst = take 9 (ws ++ replicate 9 0) }

abbrev pub clock : (start : ℕ) → T (nat_lt start 65536) → Clock
clock start s = record { start = start; narrow = lit< s }

abbrev pub gate : (travel opens closes : ℕ) → T (nat_lt travel 65536) → T (nat_lt opens 65536) → T (nat_lt closes 65536) → ClockUse
gate travel opens closes t o c = record { travel = travel; opens = opens; closes = closes; narrow = (lit< t, lit< o, lit< c) }

abbrev pub Holds : Row → Type 0
Holds (numbers k us ws) = take (k.allowance + 1) (along budget_model k us).worst ≡ ws
Holds (within k ws b) = budget_model.within k (state ws) ≡ b
Holds (covers k vs ws b) = budget_model.covers k (state vs) (state ws) ≡ b
Holds (arrives k u s) = along clock_model k (u ∷ []) ≡ s
Holds (passes ds n b) =
    let end = along ducts_model (record {}) (map (λ d. record { duct = d }) ds) in
    (ducts_model.figure (record {}) end ≡ n) × (end.doubled ≡ b)

abbrev pub rows : List Row
rows =
    numbers (budget 1 11 tt) (link 3 5 tt tt ∷ link 3 4 tt tt ∷ []) (6 ∷ 11 ∷ [])
    ∷ numbers (budget 2 11 tt) (link 3 5 tt tt ∷ link 3 4 tt tt ∷ []) (6 ∷ 11 ∷ 15 ∷ [])
    ∷ numbers (budget 0 11 tt) (link 3 5 tt tt ∷ link 3 4 tt tt ∷ []) (6 ∷ [])
    ∷ numbers (budget 2 11 tt) (link 3 5 tt tt ∷ []) (3 ∷ 8 ∷ 8 ∷ [])
    ∷ within (budget 1 11 tt) (6 ∷ 11 ∷ []) true
    ∷ within (budget 1 10 tt) (6 ∷ 11 ∷ []) false
    ∷ covers (budget 1 11 tt) (6 ∷ 11 ∷ []) (8 ∷ 9 ∷ []) false
    ∷ covers (budget 1 11 tt) (8 ∷ 9 ∷ []) (6 ∷ 11 ∷ []) false
    ∷ arrives (clock 5 tt) (gate 4 12 12 tt tt tt) (record { time = 12; shut = false })
    ∷ arrives (clock 5 tt) (gate 4 12 11 tt tt tt) (record { time = 12; shut = true })
    ∷ passes (3 ∷ 63 ∷ 64 ∷ []) 2 false
    ∷ passes (3 ∷ 63 ∷ 64 ∷ 3 ∷ []) 2 true
    ∷ []
