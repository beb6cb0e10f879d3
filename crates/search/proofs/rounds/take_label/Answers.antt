use Rattle.std.proofs.Common.{◌<◌, ◌≤◌, length, get_or, sym, ap, ◌∙◌, subst}
use Rattle.search.specs.Rule.{label0}
use Rattle.search.proofs.Storing.{stores_at, stores_none}
use Rattle.search.proofs.Turns.{turn_at_target, turn_at_limit, turn_on}
use Rattle.search.proofs.rounds.take_label.Goals as goal
use Rattle.search.proofs.rounds.take_label.Goals.{then-label-query-via-then-label-query, then-label-query-via-else-label-query+then-label-query-2}

pub returns-then-label-query : goal.returns-then-label-query
returns-then-label-query g c =
    let q = c.args.query.now in
    let l = c.in-Some.field-0.now in
    let there = c.in-Some.ensures.lookup.3 in
    let inside = subst (λ ls. c.args.number < length ls) c.as_slice.ensures there.0 in
    let read = there.1 (label0 g.K.Kind.model q) ∙ ap (λ ls. get_or ls c.args.number (label0 g.K.Kind.model q)) c.as_slice.ensures in
    elim c.then-label-query.branch [
      | then-label-query-via-then-label-query w ↦ stores_at (turn_at_target g.K.Kind.model q c.args.number _ l inside read (w.if-label-query.true ∙ ap (λ x. x.target) c.query.view_is)) (stores_none c.args.labels.now)
      | then-label-query-via-else-label-query+then-label-query-2 w ↦ stores_at (turn_at_limit g.K.Kind.model q c.args.number _ l inside read (subst (λ x. x.hop_limit ≤ l.hops) c.query.view_is w.if-label-query-2.true)) (stores_none c.args.labels.now)
    ]

pub returns : goal.returns
returns g c =
    let q = c.args.query.now in
    let l = c.in-Some.field-0.now in
    let there = c.in-Some.ensures.lookup.3 in
    let inside = subst (λ ls. c.args.number < length ls) c.as_slice.ensures there.0 in
    let read = there.1 (label0 g.K.Kind.model q) ∙ ap (λ ls. get_or ls c.args.number (label0 g.K.Kind.model q)) c.as_slice.ensures in
    stores_at
    (turn_on g.K.Kind.model q c.args.number _ l inside read (λ e. c.if-label-query.false (e ∙ sym (ap (λ x. x.target) c.query.view_is))) (subst (λ x. l.hops < x.hop_limit) c.query.view_is c.if-label-query-2.false))
    c.try_links.ensures
