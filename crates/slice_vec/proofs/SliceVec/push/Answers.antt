use Rattle.std.proofs.Common.{◌∙◌, ap, arith}
use Rattle.slice_vec.specs.Tables.{pushed}
use Rattle.slice_vec.proofs.Tables.{push_left}
use Rattle.slice_vec.proofs.SliceVec.push.Goals as goal

pub returns-clause-left : goal.returns-clause-left
returns-clause-left g c =
    push_left g.row.CAP c.self.inside.count c.self.inside.places.now c.args.item (omega arith) (omega arith)
    ∙ ap (pushed g.row.CAP c.args.item) c.self.view_is
