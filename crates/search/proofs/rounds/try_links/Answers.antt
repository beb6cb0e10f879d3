use Rattle.std.proofs.Common.{◌<◌, ◌≤◌, length, get_or, ap, ◌∙◌, subst}
use Rattle.std.proofs.lemmas.Result.{err_from_is_err_and}
use Rattle.search.proofs.Trying.{trying_more, trying_full, trying_all}
use Rattle.search.proofs.rounds.try_links.Goals as goal

pub returns-in_err-try_link : goal.returns-in_err-try_link
returns-in_err-try_link g c =
    let q = c.args.query.now in
    let taken = c.args.taken.now in
    let p = err_from_is_err_and c.from_residual.result c.from_residual.ensures.1 in
    rw (p.1, p.2)
    (trying_full g.K.Kind.model q.kind q.flags q.links taken.number taken.label c.args.labels.now c.loop-i.i c.loop-i.labels c.loop-i.invariant c.link-item.result
    (subst (λ x. c.loop-i.i < length x.links) c.query.view_is c.loop-i-test.true)
    (c.link-item.is ∙ ap (λ x. get_or x.links c.loop-i.i c.link-item.result) c.query.view_is)
    c.try_link.new.labels _ c.in_err-try_link.ensures)

pub loop-i-preserved : goal.loop-i-preserved
loop-i-preserved g c =
    let q = c.args.query.now in
    let taken = c.args.taken.now in
    trying_more g.K.Kind.model q.kind q.flags q.links taken.number taken.label c.args.labels.now c.loop-i.i c.loop-i.labels c.loop-i.invariant c.link-item.result
    (subst (λ x. c.loop-i.i < length x.links) c.query.view_is c.loop-i-test.true)
    (c.link-item.is ∙ ap (λ x. get_or x.links c.loop-i.i c.link-item.result) c.query.view_is)
    c.try_link.new.labels c.in_ok-try_link.ensures

pub returns : goal.returns
returns g c =
    let q = c.args.query.now in
    let taken = c.args.taken.now in
    trying_all g.K.Kind.model q.kind q.flags q.links taken.number taken.label c.args.labels.now c.loop-i.i c.loop-i.labels c.loop-i.invariant
    (subst (λ x. length x.links ≤ c.loop-i.i) c.query.view_is c.loop-i-test.false)
