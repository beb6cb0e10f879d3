use Rattle.std.proofs.Common.{◌≡◌, length, subst, rules}
use Rattle.net.specs.Laws.{PromiseOfRun}
use Rattle.net.specs.Ledger.{Site}
use Rattle.net.specs.Performed.{site_of}
use Rattle.orders.specs.Desk.{supplied}
use Rattle.orders.proofs.serve.perform_all.Goals as goal

pub returns-clause-laws : goal.returns-clause-laws
returns-clause-laws g c =
    let Promise : Site → Type 0 = λ site. PromiseOfRun g.K.Kind.model site c.args.calls.now in
    let site = site_of c.args.nodes (length c.deref_mut.result.now) (length c.deref_mut-2.result.now) (length c.deref_mut-3.result.now) in
    let same : site ≡ supplied c.args.nodes = search rules in
    let promised : Promise site = record { laws = c.perform.ensures.laws; chosen = c.perform.ensures.chosen } in
    subst Promise same promised
