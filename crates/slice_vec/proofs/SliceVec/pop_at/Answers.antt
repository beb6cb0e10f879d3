use Rattle.std.proofs.Common.{◌∙◌, ap, arith}
use Rattle.slice_vec.specs.Tables.{popped}
use Rattle.slice_vec.proofs.Tables.{pop_left, moved_down}
use Rattle.slice_vec.proofs.SliceVec.pop_at.Goals as goal

pub returns-clause-left : goal.returns-clause-left
returns-clause-left g c =
    pop_left g.row.CAP c.self.inside.count c.args.at c.self.inside.places.now c.copy_within.new.self (omega arith) c.self.invariant
    (moved_down c.args.at c.self.inside.count c.self.inside.places.now c.copy_within.new.self (omega arith) (omega (arith, c.self.invariant)) c.copy_within.ensures.len c.copy_within.ensures.by_index.1 c.copy_within.ensures.by_index.0 c.copy_within.ensures.by_index.2)
    ∙ ap (popped g.row.CAP c.args.at) c.self.view_is
