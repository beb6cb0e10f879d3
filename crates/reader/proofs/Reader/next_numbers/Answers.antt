use Rattle.std.proofs.Common.{get_or, sym, ap, ◌∙◌, rules}
use Rattle.reader.specs.Numbers.{ranged}
use Rattle.reader.specs.Steps.{OverField}
use Rattle.reader.proofs.LineNumbers.{one_more, one_bad}
use Rattle.reader.proofs.Reader.next_numbers.Goals as goal
use Rattle.reader.proofs.Reader.next_numbers.Goals.{in-Some, in-None}

pub loop-i-preserved : goal.loop-i-preserved
loop-i-preserved g c =
    let h = c.loop-i.invariant in
    let over : OverField c.loop-i.self c.in_ok-field.field c.next_field.new.self = search rules in
    let read = ap (ranged (get_or c.args.most c.loop-i.i 0)) over.reads in
    record {
      read =
          elim c.match-number_up_to.branch [
            | in-Some w ↦ one_more _ _ _ _ _ _ _ _ _ h.read c.loop-i-test.true over.was _ _ _ w.found-is w.bad-is (sym read ∙ sym w.in-Some.ensures)
            | in-None w ↦ one_bad _ _ _ _ _ _ _ _ _ h.read c.loop-i-test.true over.was _ _ w.found-is (w.bad-is ∙ w.or-bad.ensures) (sym read ∙ sym w.in-None.ensures)
          ];
      line = search rules;
    }
