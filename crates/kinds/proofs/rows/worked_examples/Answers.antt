use Rattle.kinds.proofs.RowsHold.{rows_hold}
use Rattle.kinds.proofs.rows.worked_examples.Goals as goal

pub returns-clause-hold : goal.returns-clause-hold
returns-clause-hold c = rows_hold
