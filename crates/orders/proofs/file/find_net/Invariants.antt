use Rattle.std.proofs.Common.{length, string_bytes}
use Rattle.reader.specs.Steps.{lines_left, line_number}
use Rattle.orders.proofs.Finds.{Sofar}
use Rattle.orders.proofs.file.find_net.Given as goal

abbrev pub invariant-loop-line : goal.invariant-loop-line
invariant-loop-line l =
    Sofar (line_number l.initial.reader) (lines_left l.initial.reader) (string_bytes l.initial.out) l.reader (string_bytes l.out)

abbrev pub decreases-loop-line : goal.decreases-loop-line
decreases-loop-line l = length (lines_left l.reader)
