use Rattle.std.proofs.Common.{◌≡◌, ◌+◌, [], ◌∷◌, ◌++◌, take, vec_items, sym, ap, ◌∙◌, subst, arith, take_all}
use Rattle.std.proofs.lemmas.List.{take_more}
use Rattle.net.specs.Labels.{labels_next, labels_after}
use Rattle.net.specs.Ledger.{after, begun}
use Rattle.net.specs.Performed.{Sofar}
use Rattle.net.proofs.Labels.{labels_push}
use Rattle.net.proofs.Ran.{ran_more}
use Rattle.net.proofs.shift.run.Goals as goal

pub loop-call-preserved : goal.loop-call-preserved
loop-call-preserved g c =
    let l = c.loop-call in
    let inv = l.invariant in
    let done = c.step-next.ensures in
    let calls = c.args.calls.now in
    let call = c.call-item.result in
    let more : take (l.call-index + 1) calls ≡ take l.call-index calls ++ call ∷ [] = take_more calls l.call-index call (omega (arith, c.loop-call-test.true)) ∙ ap (λ x. take l.call-index calls ++ x ∷ []) (sym c.call-item.is) in
    let pushed = c.push_reserved.ensures in
    record {
      long = omega (arith, pushed.len, inv.long);
      enough = omega (arith, pushed.capacity, inv.enough);
      room = done.room ∙ inv.room;
      ran = λ site h room.
          let before = inv.ran site h room in
          ran_more g.K.Kind.model site (take l.call-index calls) (take (l.call-index + 1) calls) call more l.net l.book.streams (vec_items l.answers) before
          c.step-next.result.0 c.step-next.new.book.streams c.step-next.result.1 (vec_items c.push_reserved.new.self) pushed.items
          (done.ledger site (take l.call-index calls) before.matches (room ∙ sym inv.room));
      labels = λ site h room.
          let m = g.K.Kind.model in
          done.labels site (take l.call-index calls) (inv.ran site h room).matches
          ∙ ap (labels_next m site (after m site (take l.call-index calls)) call) (inv.labels site h room)
          ∙ sym (labels_push m site begun (take l.call-index calls) call c.args.labels.now)
          ∙ ap (λ cs. labels_after m site begun cs c.args.labels.now) (sym more);
    }

pub returns : goal.returns
returns g c =
    let l = c.loop-call in
    let all = take_all l.call-index c.args.calls.now (omega (arith, l.auto.call-index-end)) in
    record {
      ran = λ site h room. subst (λ cs. Sofar g.K.Kind.model site cs l.net l.book.streams (vec_items l.answers)) all (l.invariant.ran site h room);
      room = l.invariant.room;
      labels = λ site h room. l.invariant.labels site h room ∙ ap (λ cs. labels_after g.K.Kind.model site begun cs c.args.labels.now) all;
    }
