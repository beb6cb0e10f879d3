-- What an audit says of a route. Assumes nothing.
use Rattle.std.specs.Prelude.{◌≡◌, ℕ, ◌+◌, ◌<◌, ◌≤◌, Bool, true, false, List, map, length, take, Ok, Err, vec_items, Decides, Option, Result, MatchOption, nat_lt, slice_index_or}
use Rattle.kinds.specs.Arrivals.{Arrives, Late}
use Rattle.kinds.specs.Budget.{budget_model}
use Rattle.kinds.specs.Choices.{Choice, sum_under, WorstCase}
use Rattle.kinds.specs.Clock.{clock_model}
use Rattle.kinds.specs.Ducts.{ducts_model}
use Rattle.kinds.specs.Kinds.{along}
use Rattle.kinds.specs.Pair.{pair_model, Parts}
use Rattle.kinds.specs.Passes.{ducts_of, Twice, Passes}
use Rattle.kinds.specs.declared.Budget.{Budget}
use Rattle.kinds.specs.declared.BudgetState.{BudgetState}
use Rattle.kinds.specs.declared.BudgetUse.{BudgetUse}
use Rattle.kinds.specs.declared.Clock.{Clock}
use Rattle.kinds.specs.declared.ClockState.{ClockState}
use Rattle.kinds.specs.declared.ClockUse.{ClockUse}
use Rattle.kinds.specs.declared.DuctState.{DuctState}
use Rattle.kinds.specs.declared.DuctUse.{DuctUse}
use Rattle.kinds.specs.declared.Ducts.{Ducts}
use Rattle.kinds.specs.declared.Pair.{Pair}
use Rattle.kinds.specs.declared.PairState.{PairState}
use Rattle.kinds.specs.declared.PairUse.{PairUse}
use Rattle.sheet.specs.Figures.{budget_figures, gate_figures}
use Rattle.sheet.specs.Sheet.{budget, gated, sheet_of}
use Rattle.sheet.specs.Told.{Blames}
use Rattle.sheet.specs.declared.audits.Audit.{Audit}
use Rattle.sheet.specs.declared.audits.Audit.TheVariants as audits
use Rattle.sheet.specs.declared.audits.BudgetAudit.{BudgetAudit}
use Rattle.sheet.specs.declared.audits.GatedAudit.{GatedAudit}
use Rattle.sheet.specs.declared.audits.Verdict.{Verdict}
use Rattle.sheet.specs.declared.audits.Margin.{Margin}
use Rattle.sheet.specs.declared.audits.Margin.TheVariants.{Spare, Over}
use Rattle.sheet.specs.declared.fault.Fault.{Fault}

-- how far a total stays below its limit, or passes it
abbrev pub MarginOf : (total limit : ℕ) → Margin → Type 0
MarginOf total limit (Spare n) = total + n ≡ limit
MarginOf total limit (Over n) = (total ≡ limit + n) × (0 < n)

abbrev pub spares : Margin → Bool
spares (Spare n) = true
spares (Over n) = false

-- the numbers of a budget's audit are the worst over every choice of links
pub record BudgetFacts (k : Budget) (us : List BudgetUse) (s : BudgetState) (m : Margin) : Type 0 where
  pub worst : WorstCase k us s
  pub margin : MarginOf (budget_model.figure k s) k.limit m
  -- there is something to spare just where every choice of at most the allowance stays at or below the limit
  pub within : Decides (spares m) ((flags : List Bool) → Choice k.allowance us flags → sum_under us flags ≤ k.limit)

abbrev pub Gate : Type 0
Gate = PairUse ClockUse DuctUse

abbrev pub Stop : Type 0
Stop = PairState ClockState DuctState

abbrev pub clock_uses : List Gate → List ClockUse
clock_uses us = map (λ u. u.first) us

abbrev pub duct_uses : List Gate → List DuctUse
duct_uses us = map (λ u. u.second) us

-- the state after link i is that of the route up to it
abbrev pub StopsOf : Pair Clock Ducts → List Gate → List Stop → Type 0
StopsOf k us ss = (length ss ≡ length us) × ((i : ℕ) (d : Stop) → i < length us → slice_index_or ss i d ≡ along (pair_model clock_model ducts_model) k (take (i + 1) us))

-- whether a link's end is reached after its gate has closed
abbrev pub late : Gate × Stop → Bool
late (u, s) = nat_lt u.first.closes s.first.time

-- what the audit says of the route up to link i
pub record StopFacts (k : Pair Clock Ducts) (us : List Gate) (i : ℕ) (s : Stop) : Type 0 where
  pub arrives : Arrives k.first (take (i + 1) (clock_uses us)) s.first
  pub passes : Passes k.second (take (i + 1) (duct_uses us)) s.second

-- the gates that the route misses
abbrev pub Missed : Clock → List ClockUse → Type 0
Missed k us = (i : ℕ) × (i < length us) × Late k us i

-- the first gate that the route misses
abbrev pub FirstMissed : Clock → List ClockUse → Option ℕ → Type 0
FirstMissed k us r = MatchOption r (Missed k us → ⊥) (λ i. (i < length us) × Late k us i × ((j : ℕ) → j < i → Late k us j → ⊥))

-- what the audit of a gated route says of it
pub record GatedFacts (k : Pair Clock Ducts) (us : List Gate) (ss : List Stop) (v : Verdict) : Type 0 where
  pub parts : Parts clock_model ducts_model k us v.state
  pub arrives : Arrives k.first (clock_uses us) v.state.first
  pub passes : Passes k.second (duct_uses us) v.state.second
  pub count : length ss ≡ length us
  pub stops : (i : ℕ) (d : Stop) → i < length us → StopFacts k us i (slice_index_or ss i d)
  pub missed : FirstMissed k.first (clock_uses us) v.missed
  -- within: no gate is missed, and no duct below 64 is passed twice
  pub within : Decides v.within ((Missed k.first (clock_uses us) → ⊥) × (Twice (ducts_of (duct_uses us)) → ⊥))

-- a budget's audit has the numbers of its sheet
pub record BudgetAudited (text : List ℕ) (a : BudgetAudit) : Type 0 where
  pub sheet : sheet_of text ≡ Ok (record { heading = budget a.budget.allowance a.budget.limit; links = map budget_figures (vec_items a.links) })
  pub some : 1 ≤ length (vec_items a.links)
  pub few : length (vec_items a.links) ≤ 16
  pub facts : BudgetFacts a.budget (vec_items a.links) a.state a.margin

-- a gated audit has the numbers of its sheet
pub record GatedAudited (text : List ℕ) (a : GatedAudit) : Type 0 where
  pub sheet : sheet_of text ≡ Ok (record { heading = gated a.kind.first.start; links = map gate_figures (vec_items a.links) })
  pub some : 1 ≤ length (vec_items a.links)
  pub few : length (vec_items a.links) ≤ 16
  pub facts : GatedFacts a.kind (vec_items a.links) (vec_items a.stops) a.verdict

-- the answer to the bytes of a sheet
abbrev pub Audited : List ℕ → Result Audit Fault → Type 0
Audited text (Ok (audits.Budget a)) = BudgetAudited text a
Audited text (Ok (audits.Gated a)) = GatedAudited text a
Audited text (Err f) = Blames f (sheet_of text)
