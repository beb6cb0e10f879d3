use Rattle.reader.specs.Steps.{SameLine, fields_left}
use Rattle.reader.proofs.LineNumbers.{Sofar}
use Rattle.reader.proofs.Reader.next_numbers.Given as goal

abbrev pub invariant-loop-i : goal.invariant-loop-i
invariant-loop-i g l = record {
  read : Sofar g.row.N l.limit-items (fields_left l.initial.self) l.i l.found l.bad (fields_left l.self);
  line : SameLine l.initial.self l.self;
}
