use Rattle.std.proofs.Common.{◌-◌, true, ◌++◌, drop, sym, refl, ap, ap₂, ◌∙◌, arith, length-append, length-drop}
use Rattle.std.proofs.lemmas.List.{length-take}
use Rattle.net.specs.Questions.{told, three_values}
use Rattle.net.specs.declared.types.Call.TheVariants.{Book}
use Rattle.net.proofs.Labels.{labels_within}
use Rattle.net.proofs.Taken.{follows_as}
use Rattle.net.proofs.shift.book_within.Goals as goal

pub returns-in_err-figure-clause-labels : goal.returns-in_err-figure-clause-labels
returns-in_err-figure-clause-labels g c =
    let net = c.args.net.now in
    let labels = c.args.labels.now in
    let n = c.min-places.result in
    λ site calls h.
    ap₂ (λ l j. l ++ drop j labels) c.book.ensures.labels (omega arith)
    ∙ labels_within g.K.Kind.model site g.met.K.Kind.laws calls net.nodes net.links c.args.book.now.streams h c.args.kind.now c.args.request.now c.args.places n labels (omega (arith, c.min-places.ensures))

pub returns : goal.returns
returns g c =
    let net = c.args.net.now in
    let book = c.book.new.book in
    let labels = c.args.labels.now in
    let n = c.min-places.result in
    record {
      ledger = λ site calls h room.
          follows_as g.K.Kind.model site calls (Book c.args.request.now c.args.kind.now c.args.places) true _ net.nodes net.links book.streams
          (c.book.ensures.ledger c.args.places site calls h (omega (arith, length-take n labels, c.min-places.ensures, room))) _ _ refl (sym (ap (told three_values) c.in_ok-figure.was));
      room = omega (arith, length-append c.book.new.labels (drop (n - 0) labels), c.book.auto.labels, length-take n labels, length-drop (n - 0) labels, c.min-places.ensures);
      labels = λ site calls h.
          ap₂ (λ l j. l ++ drop j labels) c.book.ensures.labels (omega arith)
          ∙ labels_within g.K.Kind.model site g.met.K.Kind.laws calls net.nodes net.links c.args.book.now.streams h c.args.kind.now c.args.request.now c.args.places n labels (omega (arith, c.min-places.ensures));
    }
