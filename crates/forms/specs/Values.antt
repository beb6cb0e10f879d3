-- The values of links and bookings, from the numbers of a line. Assumes nothing.
use Rattle.std.specs.Prelude.{ℕ, ◌^◌, ◌<◌, min, cond, List, Ok, Err, Result, nat_le, slice_index}
use Rattle.std.proofs.Math.Nat.{min-le_left}
use Rattle.std.proofs.Common.{arith}
use Rattle.kinds.specs.declared.Budget.{Budget}
use Rattle.kinds.specs.declared.BudgetUse.{BudgetUse}
use Rattle.kinds.specs.declared.Clock.{Clock}
use Rattle.kinds.specs.declared.ClockUse.{ClockUse}
use Rattle.kinds.specs.declared.DuctUse.{DuctUse}
use Rattle.kinds.specs.declared.Ducts.{Ducts}
use Rattle.kinds.specs.declared.Pair.{Pair}
use Rattle.kinds.specs.declared.PairUse.{PairUse}
use Rattle.net.specs.declared.Request.{Request}
use Rattle.reader.specs.Numbers.{then}
use Rattle.search.specs.declared.Link.{Link}
use Rattle.forms.specs.Faults.{Blame}

-- the largest numbers of 16 and of 32 bits
abbrev pub top16 : ℕ
top16 = 65535

abbrev pub top32 : ℕ
top32 = 4294967295

-- number i of a line, counted from 0
abbrev pub at : List ℕ → ℕ → ℕ
at ns i = slice_index ns i

-- a number of 16 bits; a good field of that width has no larger one
abbrev pub narrow : ℕ → ℕ
narrow n = min top16 n

pub narrow_small : (n : ℕ) → narrow n < 2 ^ 16
narrow_small n = omega (arith, min-le_left top16 n)

abbrev pub budget_use : (nominal extra : ℕ) → BudgetUse
budget_use nominal extra = record { nominal = narrow nominal; extra = narrow extra; narrow = (narrow_small nominal, narrow_small extra) }

abbrev pub clock_use : (travel opens closes : ℕ) → ClockUse
clock_use travel opens closes = record {
  travel = narrow travel;
  opens = narrow opens;
  closes = narrow closes;
  narrow = (narrow_small travel, narrow_small opens, narrow_small closes);
}

abbrev pub clock_of : (start : ℕ) → Clock
clock_of start = record { start = narrow start; narrow = narrow_small start }

-- after tail, head and capacity: price, price extra, delay, delay extra
abbrev pub plain_use : List ℕ → PairUse BudgetUse BudgetUse
plain_use ns = record { first = budget_use (at ns 3) (at ns 4); second = budget_use (at ns 5) (at ns 6) }

-- after tail, head and capacity: price, price extra, travel, opens, closes, duct
abbrev pub gated_use : List ℕ → PairUse BudgetUse (PairUse ClockUse DuctUse)
gated_use ns = record {
  first = budget_use (at ns 3) (at ns 4);
  second = record { first = clock_use (at ns 5) (at ns 6) (at ns 7); second = record { duct = at ns 8 } };
}

-- a budget, or 2 where the allowance is above 8
abbrev pub budget_of : (allowance limit : ℕ) → Result Budget Blame
budget_of allowance limit = cond (nat_le allowance 8) (Ok (record { allowance = min 8 allowance; limit = limit; few = min-le_left 8 allowance })) (Err (2, 0))

-- tail, head, capacity, and what the link takes
abbrev pub linked : {U : Type 0} → List ℕ → U → Link U
linked ns taken = record { tail = at ns 0; head = at ns 1; capacity = at ns 2; taken = taken }

-- stream, source, target, rate, hops
abbrev pub request_of : List ℕ → Request
request_of ns = record { stream = at ns 0; source = at ns 1; target = at ns 2; rate = at ns 3; hop_limit = at ns 4 }

-- a price budget of the largest limit and a delay budget; the price budget is made first
abbrev pub plain_limits : (price_allowance delay_allowance delay_limit : ℕ) → Result (Pair Budget Budget) Blame
plain_limits price_allowance delay_allowance delay_limit =
    then (budget_of price_allowance top32) (λ price. then (budget_of delay_allowance delay_limit) (λ delay. Ok (record { first = price; second = delay })))

-- that price budget, and a clock and a duct set
abbrev pub gated_limits : (price_allowance start : ℕ) → Result (Pair Budget (Pair Clock Ducts)) Blame
gated_limits price_allowance start =
    then (budget_of price_allowance top32) (λ price. Ok (record { first = price; second = record { first = clock_of start; second = record {} } }))

-- after hops: price allowance, delay allowance, delay limit
abbrev pub plain_kind : List ℕ → Result (Pair Budget Budget) Blame
plain_kind ns = plain_limits (at ns 5) (at ns 6) (at ns 7)

-- after hops: price allowance, start time
abbrev pub gated_kind : List ℕ → Result (Pair Budget (Pair Clock Ducts)) Blame
gated_kind ns = gated_limits (at ns 5) (at ns 6)
