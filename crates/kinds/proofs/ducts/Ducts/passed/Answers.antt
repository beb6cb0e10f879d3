use Rattle.std.proofs.Common.{sym, subst}
use Rattle.kinds.specs.Passes.{Passes}
use Rattle.kinds.proofs.Passes.{passes}
use Rattle.kinds.proofs.ducts.Ducts.passed.Goals as goal

pub returns : goal.returns
returns c = subst (Passes _ _) (sym c.state_along.ensures) (passes c.args.self.now c.args.uses.now)
