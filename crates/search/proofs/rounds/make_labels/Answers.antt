use Rattle.std.proofs.Common.{◌++◌, length, refl, ap, arith, rules}
use Rattle.std.proofs.lemmas.Result.{err_from_is_err_and}
use Rattle.search.specs.Labels.{held}
use Rattle.search.specs.Rule.{first, after}
use Rattle.search.proofs.Making.{first_none, first_full, making_more, making_full, making_all, made_full, made_fits, bare, stores_bare}
use Rattle.search.proofs.Storing.{length-stored}
use Rattle.search.proofs.rounds.make_labels.Goals as goal

pub returns-in_err-make_first-clause-count : goal.returns-in_err-make_first-clause-count
returns-in_err-make_first-clause-count g c =
    let m = g.K.Kind.model in
    let q = c.args.query.now in
    let p = err_from_is_err_and c.from_residual.result c.from_residual.ensures.1 in
    rw (p.1, p.2)
    (made_full m q c.new-labels.result c.args.places.now c.new-labels.ensures.places c.make_first.new.labels _
    (first_full m q c.new-labels.result c.new-labels.ensures.count c.make_first.new.labels _ c.in_err-make_first.ensures)).0

pub loop-number-init : goal.loop-number-init
loop-number-init g c =
    let m = g.K.Kind.model in
    let q = c.args.query.now in
    stores_bare (after m q 0) c.new-labels.result c.make_first.new.labels c.args.places.now c.new-labels.ensures.places
    (first_none m q c.new-labels.result c.new-labels.ensures.count c.make_first.new.labels c.in_ok-make_first.ensures)

pub returns-in_err-take_label : goal.returns-in_err-take_label
returns-in_err-take_label g c =
    let m = g.K.Kind.model in
    let q = c.args.query.now in
    let start = bare c.make_first.new.labels c.args.places.now in
    let p = err_from_is_err_and c.from_residual-in_err-take_label.result c.from_residual-in_err-take_label.ensures.1 in
    let made = made_full m q start c.args.places.now refl c.take_label.new.labels _
    (making_full m q start c.loop-number.number c.loop-number.labels c.loop-number.invariant c.take_label.new.labels _ c.in_err-take_label.ensures) in
    record { count = rw (p.1, p.2) made.0; left = search (rules, made.1) }

pub loop-number-preserved : goal.loop-number-preserved
loop-number-preserved g c =
    making_more g.K.Kind.model c.args.query.now (bare c.make_first.new.labels c.args.places.now) c.loop-number.number c.loop-number.labels c.loop-number.invariant c.take_label.new.labels c.in_ok-take_label.ensures

pub returns : goal.returns
returns g c =
    let m = g.K.Kind.model in
    let q = c.args.query.now in
    let start = bare c.make_first.new.labels c.args.places.now in
    let made = made_fits m q start c.args.places.now refl c.loop-number.labels
    (making_all m q start c.loop-number.number c.loop-number.labels c.loop-number.invariant
    (omega (arith, ap length c.in_ok-make_first.ensures.places_are, length-stored c.new-labels.result.places.now (held c.new-labels.result ++ first m q), ap length c.new-labels.ensures.places, c.loop-number-test.false))) in
    record { count = made.0; left = search (rules, made.1) }
