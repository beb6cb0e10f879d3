use Rattle.std.proofs.Common.{sym, refl}
use Rattle.std.proofs.lemmas.Bool.{leb-false}
use Rattle.search.proofs.Storing.{push_one}
use Rattle.search.proofs.label.Labels.push.Goals as goal

pub returns : goal.returns
returns g c =
    push_one c.args.self.now _ c.args.label (leb-false _ _ (sym c.if-is_full.ensures)) refl refl refl
