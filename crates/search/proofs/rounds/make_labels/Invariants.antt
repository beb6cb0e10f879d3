use Rattle.std.proofs.Common.{Ok}
use Rattle.search.specs.Labels.{Stores}
use Rattle.search.specs.Rule.{after}
use Rattle.search.proofs.Making.{bare}
use Rattle.search.proofs.rounds.make_labels.Given as goal

abbrev pub invariant-loop-number : goal.invariant-loop-number
invariant-loop-number g l =
    Stores (after g.K.Kind.model l.query l.number) (bare l.initial.labels l.fn.places) (Ok tt) l.labels
