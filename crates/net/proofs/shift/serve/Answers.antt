use Rattle.std.proofs.Common.{true}
use Rattle.net.specs.Ledger.{after}
use Rattle.net.proofs.Taken.{not_taken, not_served}
use Rattle.net.proofs.shift.serve.Goals as goal

pub returns-in_default-clause-ledger : goal.returns-in_default-clause-ledger
returns-in_default-clause-ledger g c =
    let net = c.args.net in
    let n = c.in_default in
    λ site calls h room.
    let s = after g.K.Kind.model site calls in
    not_taken g.K.Kind.model site calls c.args.call.now true net.nodes net.links c.args.book.now.streams h
    (not_served g.K.Kind.model site s h.serving_is c.args.call.now n.not-Book n.not-Release n.not-Show n.not-Load n.not-Close)
