use Rattle.std.proofs.Common.{refl}
use Rattle.sheet.proofs.rows.worked_sheets.Goals as goal

pub returns-clause-hold : goal.returns-clause-hold
returns-clause-hold c =
    (refl, (refl, (refl, (refl, (refl, (refl, (refl, (refl, (refl, (refl, (refl, (refl, (refl, (refl, (refl, tt)))))))))))))))
