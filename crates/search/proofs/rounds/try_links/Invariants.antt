use Rattle.search.proofs.Trying.{Trying}
use Rattle.search.proofs.rounds.try_links.Given as goal

abbrev pub invariant-loop-i : goal.invariant-loop-i
invariant-loop-i g l =
    Trying g.K.Kind.model l.query.kind l.query.flags l.query.links l.taken.number l.taken.label l.initial.labels l.i l.labels
