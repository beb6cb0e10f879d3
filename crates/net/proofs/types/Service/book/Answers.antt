use Rattle.std.proofs.Common.{Err, [], sym, ap, ◌∙◌, subst}
use Rattle.std.proofs.lemmas.Result.{err_from_is_err_and}
use Rattle.slice_vec.specs.Tables.{listed, room, pushed}
use Rattle.net.specs.Calls.{Books, numbers_of}
use Rattle.net.specs.Questions.{book_refusal}
use Rattle.net.proofs.Booking.{books_refused, books_unfound, books_found}
use Rattle.net.proofs.Steps.{book_steps}
use Rattle.net.proofs.Tabled.{unless_accepted}
use Rattle.net.proofs.types.Service.book.Goals as goal

pub returns-in_err-check_request : goal.returns-in_err-check_request
returns-in_err-check_request g c =
    let m = g.K.Kind.model in
    let laws = g.met.K.Kind.laws in
    let net = c.args.self.now in
    let b = c.args.book.now.streams in
    let k = c.args.kind.now in
    let r = c.args.request.now in
    let labels = c.args.labels.now in
    let p = err_from_is_err_and c.from_residual.result c.from_residual.ensures.1 in
    let h = subst (λ x. Books m net.nodes net.links b k r labels x b labels) (sym (p.1 ∙ ap Err p.2)) (books_refused m laws net.nodes net.links b k r labels _ c.in_err-check_request.ensures) in
    record { answer = h.answer_is; left = h.left_is; labels = h.labels_are; ledger = book_steps m net.nodes net.links b _ laws k r labels b h.answer_is h.left_is }

pub returns-in_err-found : goal.returns-in_err-found
returns-in_err-found g c =
    let m = g.K.Kind.model in
    let laws = g.met.K.Kind.laws in
    let net = c.args.self.now in
    let b = c.args.book.now.streams in
    let k = c.args.kind.now in
    let r = c.args.request.now in
    let labels = c.args.labels.now in
    let p = err_from_is_err_and c.from_residual-in_err-found.result c.from_residual-in_err-found.ensures.1 in
    let zero_is = (unless_accepted (book_refusal net.nodes (room 64 b) (numbers_of (listed 64 b)) r) [] [] c.in_ok-check_request.ensures).0 in
    let h = subst (λ x. Books m net.nodes net.links b k r labels x b c.find.new.labels) (sym (p.1 ∙ ap Err p.2))
    (books_unfound m laws net.nodes net.links b k r labels zero_is c.in_err-found.field-0.0 c.find.new.labels
    c.in_err-found.ensures.answer c.in_err-found.ensures.table) in
    record { answer = h.answer_is; left = h.left_is; labels = h.labels_are; ledger = book_steps m net.nodes net.links b _ laws k r labels b h.answer_is h.left_is }

pub returns : goal.returns
returns g c =
    let m = g.K.Kind.model in
    let laws = g.met.K.Kind.laws in
    let net = c.args.self.now in
    let b = c.args.book.now.streams in
    let k = c.args.kind.now in
    let r = c.args.request.now in
    let labels = c.args.labels.now in
    let zero_is = (unless_accepted (book_refusal net.nodes (room 64 b) (numbers_of (listed 64 b)) r) [] [] c.in_ok-check_request.ensures).0 in
    let h = books_found m laws net.nodes net.links b k r labels zero_is c.in_ok-found.found c.find.new.labels c.push.new.self
    c.in_ok-found.ensures.answer c.in_ok-found.ensures.table
    c.push.ensures.within
    (c.push.ensures.left ∙ ap (λ s. pushed 64 s b) c.record_of.ensures) in
    record { answer = h.answer_is; left = h.left_is; labels = h.labels_are; ledger = book_steps m net.nodes net.links b _ laws k r labels c.push.new.self h.answer_is h.left_is }
