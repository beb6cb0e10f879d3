use Rattle.std.proofs.Common.{map, length, vec_items}
use Rattle.reader.specs.Steps.{lines_left, line_number}
use Rattle.orders.specs.Passes.{entry_of}
use Rattle.orders.proofs.Passes.{Sofar}
use Rattle.orders.proofs.lines.read_orders.Given as goal

abbrev pub invariant-loop-number : goal.invariant-loop-number
invariant-loop-number g l =
    Sofar g.K.SiteKind.form (lines_left l.initial.reader) (line_number l.initial.reader) (vec_items l.orders.calls) (map entry_of (vec_items l.orders.lines)) l.serving l.reader

abbrev pub decreases-loop-number : goal.decreases-loop-number
decreases-loop-number g l = length (lines_left l.reader)
