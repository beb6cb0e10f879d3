use Rattle.std.proofs.Common.{arith, length-drop}
use Rattle.std.proofs.lemmas.List.{take_rest}
use Rattle.reader.proofs.Splits.{line_some, line_none}
use Rattle.reader.proofs.cut.ends.Goals as goal

pub returns-in-Some-clause-parted : goal.returns-in-Some-clause-parted
returns-in-Some-clause-parted c = line_some _ _ _ _ (simp take_rest at c.in-Some.ensures)

pub returns-in-None-clause-parted : goal.returns-in-None-clause-parted
returns-in-None-clause-parted c =
    let rest = length-drop c.args.place c.args.text.now in
    line_none c.args.byte c.args.text.now c.args.place (omega arith) (simp take_rest at c.in-None.ensures)
