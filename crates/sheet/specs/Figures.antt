-- The numbers of a link, in the order of its line. Assumes nothing.
use Rattle.std.specs.Prelude.{ℕ, List, [], ◌∷◌}
use Rattle.kinds.specs.declared.BudgetUse.{BudgetUse}
use Rattle.kinds.specs.declared.ClockUse.{ClockUse}
use Rattle.kinds.specs.declared.DuctUse.{DuctUse}
use Rattle.kinds.specs.declared.PairUse.{PairUse}

abbrev pub budget_figures : BudgetUse → List ℕ
budget_figures u = u.nominal ∷ u.extra ∷ []

abbrev pub gate_figures : PairUse ClockUse DuctUse → List ℕ
gate_figures u = u.first.travel ∷ u.first.opens ∷ u.first.closes ∷ u.second.duct ∷ []
