use Rattle.std.proofs.Common.{map, length, vec_items}
use Rattle.reader.specs.Steps.{lines_left, line_number}
use Rattle.sheet.proofs.LinkLines.{Sofar}
use Rattle.sheet.proofs.links.links.Given as goal

abbrev pub invariant-loop-line : goal.invariant-loop-line
invariant-loop-line g l =
    Sofar g.L.Link.width (lines_left l.initial.reader) (map g.L.Link.figures (vec_items l.links)) (lines_left l.reader) (line_number l.reader)

abbrev pub decreases-loop-line : goal.decreases-loop-line
decreases-loop-line g l = length (lines_left l.reader)
