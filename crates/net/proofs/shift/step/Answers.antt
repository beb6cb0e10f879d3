use Rattle.std.proofs.Common.{subst}
use Rattle.net.specs.Ledger.{after}
use Rattle.net.specs.Matching.{Matches}
use Rattle.net.specs.Performed.{is_serving, nodes_of, links_of}
use Rattle.net.proofs.shift.step.Goals as goal

pub returns-in-Laid-clause-ledger : goal.returns-in-Laid-clause-ledger
returns-in-Laid-clause-ledger g c =
    let b = c.args.book.now.streams in
    λ site calls h room.
    c.lay.ensures b site calls (subst (λ n. Matches site (after g.K.Kind.model site calls) (is_serving n) (nodes_of n) (links_of n) b) c.in-Laid.is h)

pub returns-in-Serving-clause-ledger : goal.returns-in-Serving-clause-ledger
returns-in-Serving-clause-ledger g c =
    let b = c.args.book.now.streams in
    λ site calls h room.
    c.serve.ensures.ledger site calls (subst (λ n. Matches site (after g.K.Kind.model site calls) (is_serving n) (nodes_of n) (links_of n) b) c.in-Serving.is h) room
