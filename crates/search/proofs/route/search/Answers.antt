use Rattle.std.proofs.Common.{length, take, ap, ◌∙◌}
use Rattle.std.proofs.lemmas.Result.{err_from_is_err_and}
use Rattle.search.specs.Answers.{answer_of, best}
use Rattle.search.specs.Rule.{made}
use Rattle.search.proofs.Promised.{promised_full, promised_fits}
use Rattle.search.proofs.Storing.{fits_if_counted, full_if_not, counted_front}
use Rattle.search.proofs.route.search.Goals as goal

pub returns-in_err-count-clause-promise : goal.returns-in_err-count-clause-promise
returns-in_err-count-clause-promise g c =
    let m = g.K.Kind.model in
    let q = c.args.query.now in
    let p = err_from_is_err_and c.from_residual.result c.from_residual.ensures.1 in
    let over = full_if_not c.args.labels.now (made m q) _ c.in_err-count.ensures.count in
    rw (p.1, p.2, over.1) (promised_full m g.met.K.Kind.laws q c.args.labels.now _ over.0)

pub returns-clause-promise : goal.returns-clause-promise
returns-clause-promise g c =
    let m = g.K.Kind.model in
    let q = c.args.query.now in
    let labels = c.args.labels.now in
    let told = c.in_ok-count.ensures in
    let front = ap (take c.in_ok-count.count) told.left ∙ counted_front labels (made m q) c.in_ok-count.count told.count in
    promised_fits m g.met.K.Kind.laws q labels _ (fits_if_counted labels (made m q) c.in_ok-count.count told.count).0 told.left c.pick.result
    (c.pick.ensures ∙ ap (λ ls. answer_of (best m q.kind q.target ls) (length ls)) front)
