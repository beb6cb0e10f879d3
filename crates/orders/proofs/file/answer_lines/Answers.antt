use Rattle.std.proofs.Common.{[], string_bytes, rules}
use Rattle.reader.specs.Split.{lines}
use Rattle.orders.specs.Desk.{no_net}
use Rattle.orders.specs.Finds.{Served}
use Rattle.orders.proofs.Files.{laws_served}
use Rattle.orders.proofs.file.answer_lines.Goals as goal

pub returns-clause-laws : goal.returns-clause-laws
returns-clause-laws c =
    let served : Served no_net 0 (lines c.args.text.now) [] (string_bytes c.match-branch-2.out) = search rules in
    laws_served c.args.text.now _ c.requires served
