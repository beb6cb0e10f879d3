use Rattle.forms.proofs.Facts.{budget-made}
use Rattle.forms.proofs.site.budget.Goals as goal

pub returns : goal.returns
returns c = budget-made _ _ _ c.in_ok-new.ensures
