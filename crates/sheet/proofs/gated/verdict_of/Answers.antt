use Rattle.sheet.proofs.Stops.{facts}
use Rattle.sheet.proofs.gated.verdict_of.Goals as goal

pub returns : goal.returns
returns c = facts _ _ _ c.requires.few c.requires.stops _ c.both_along-state.ensures c.first_missed.ensures c.within.ensures
