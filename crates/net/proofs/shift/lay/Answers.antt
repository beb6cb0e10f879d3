use Rattle.std.proofs.Common.{false, refl}
use Rattle.net.specs.Questions.{one_value}
use Rattle.net.specs.declared.types.Answer.TheVariants.{Added}
use Rattle.net.specs.declared.types.Call.TheVariants.{Add, Withdraw}
use Rattle.net.proofs.Replies.{told_mapped}
use Rattle.net.proofs.Taken.{follows_as}
use Rattle.net.proofs.shift.lay.Goals as goal

pub returns-in-Add : goal.returns-in-Add
returns-in-Add g c =
    let net = c.add.new.self in
    λ b site calls h.
    follows_as g.K.Kind.model site calls (Add c.in-Add.link) false _ net.nodes net.links b (c.add.ensures.ledger b site calls h) c.args.call.now _ c.in-Add.is
    (told_mapped one_value Added (λ n. refl) c.add.result c.map-answer.result c.map_err.result c.map-answer.ensures.cases c.map_err.ensures.cases)

pub returns-in-Withdraw : goal.returns-in-Withdraw
returns-in-Withdraw g c =
    let net = c.withdraw.new.self in
    λ b site calls h.
    follows_as g.K.Kind.model site calls (Withdraw c.in-Withdraw.link) false _ net.nodes net.links b (c.withdraw.ensures.ledger b site calls h) c.args.call.now _ c.in-Withdraw.is c.done-answer.ensures
