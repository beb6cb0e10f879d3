-- The answers to a file, and the laws over whole files. Assumes nothing.
use Rattle.std.specs.Prelude.{◌≡◌, ℕ, ◌+◌, ◌<◌, ◌≤◌, Bool, cond, List, [], ◌∷◌, ◌++◌, map, length, take, codes, decimal, nat_le, slice_index_or}
use Rattle.std.specs.List.{AllByRecursion}
use Rattle.kinds.specs.Arrivals.{Late}
use Rattle.kinds.specs.Choices.{Choice, sum_under}
use Rattle.kinds.specs.Passes.{ducts_of, Twice}
use Rattle.kinds.specs.declared.Budget.{Budget}
use Rattle.kinds.specs.declared.BudgetUse.{BudgetUse}
use Rattle.kinds.specs.declared.Clock.{Clock}
use Rattle.kinds.specs.declared.ClockUse.{ClockUse}
use Rattle.kinds.specs.declared.DuctUse.{DuctUse}
use Rattle.kinds.specs.declared.Ducts.{Ducts}
use Rattle.kinds.specs.declared.Pair.{Pair}
use Rattle.kinds.specs.declared.PairUse.{PairUse}
use Rattle.net.specs.Laws.{PromiseOfRun, uses_of}
use Rattle.net.specs.Ledger.{Entry, Ledger, after}
use Rattle.reader.specs.Laws.{with_feeds}
use Rattle.reader.specs.Split.{lines}
use Rattle.orders.specs.Desk.{Desk, no_net, plain_net, gated_net, plain_model, gated_model, supplied, replies, desk_after}
use Rattle.orders.specs.Lines.{numbered}

-- the largest file
abbrev pub most : ℕ
most = 60000

-- the answer to a longer file
abbrev pub too_long : List ℕ
too_long = codes "0,refused,20,0" ++ 10 ∷ []

-- an answer line for each line
abbrev pub answers_of : List ℕ → List ℕ
answers_of text = cond (nat_le (length text) most) (with_feeds (numbered 1 (replies no_net (lines text)))) too_long

-- where a file leaves the net and its calls; nothing is done for a longer file
abbrev pub left_by : List ℕ → Desk
left_by text = cond (nat_le (length text) most) (desk_after no_net (lines text)) no_net

-- the delays of a standing stream's links on a plain site
abbrev pub delays : ℕ → Ledger (Pair Budget Budget) (PairUse BudgetUse BudgetUse) → Entry (Pair Budget Budget) → List BudgetUse
delays nodes s e = map (λ u. u.second) (uses_of plain_model (supplied nodes) s e)

-- a standing stream is in time, whichever links are late, no more of them than its allowance
abbrev pub InTime : ℕ → Ledger (Pair Budget Budget) (PairUse BudgetUse BudgetUse) → Entry (Pair Budget Budget) → Type 0
InTime nodes s e =
    (flags : List Bool) → Choice e.kind.second.allowance (delays nodes s e) flags → sum_under (delays nodes s e) flags ≤ e.kind.second.limit

-- the gates and the ducts of a standing stream's links on a gated site
abbrev pub gates : ℕ → Ledger (Pair Budget (Pair Clock Ducts)) (PairUse BudgetUse (PairUse ClockUse DuctUse)) → Entry (Pair Budget (Pair Clock Ducts)) → List (PairUse ClockUse DuctUse)
gates nodes s e = map (λ u. u.second) (uses_of gated_model (supplied nodes) s e)

abbrev pub clock_uses : List (PairUse ClockUse DuctUse) → List ClockUse
clock_uses us = map (λ u. u.first) us

abbrev pub duct_uses : List (PairUse ClockUse DuctUse) → List DuctUse
duct_uses us = map (λ u. u.second) us

-- a standing stream reaches no gate after it has closed, and passes no duct twice
pub record Passing (clock : Clock) (us : List (PairUse ClockUse DuctUse)) : Type 0 where
  pub gates_open : (i : ℕ) → i < length (clock_uses us) → Late clock (clock_uses us) i → ⊥
  pub ducts_once : Twice (ducts_of (duct_uses us)) → ⊥

-- the laws of the calls that were made: limits, cheapest routes, loads; on a plain site every stream is in time, and on a
-- gated site its gates are open and no duct is passed twice
abbrev pub Promised : Desk → Type 0
Promised no_net = Unit {0}
Promised (plain_net nodes calls) = PromiseOfRun plain_model (supplied nodes) calls × AllByRecursion (InTime nodes (after plain_model (supplied nodes) calls)) (after plain_model (supplied nodes) calls).streams
Promised (gated_net nodes calls) = PromiseOfRun gated_model (supplied nodes) calls × AllByRecursion (λ e. Passing e.kind.second.first (gates nodes (after gated_model (supplied nodes) calls) e)) (after gated_model (supplied nodes) calls).streams

-- the line begins with the number and a comma
abbrev pub Begins : ℕ → List ℕ → Type 0
Begins n line = (rest : List ℕ) × (line ≡ decimal n ++ 44 ∷ rest)

pub record LawsOfFile (text : List ℕ) : Type 0 where
  -- as many answer lines as lines
  pub counted : length text ≤ most → length (lines (answers_of text)) ≡ length (lines text)
  -- in order, numbered from 1
  pub ordered : length text ≤ most → (i : ℕ) → i < length (lines text) → Begins (i + 1) (slice_index_or (lines (answers_of text)) i [])
  -- the answers to the first k lines are the first k answers
  pub fronts : length text ≤ most → (front : List ℕ) (k : ℕ) → length front ≤ most → lines front ≡ take k (lines text) → lines (answers_of front) ≡ take k (lines (answers_of text))
  -- what stands after the file
  pub promised : Promised (left_by text)
