use Rattle.std.proofs.Common.{◌≡◌, ◌+◌, false, [], map, vec_items, string_bytes, ap, ◌∙◌, subst, ap₂}
use Rattle.net.specs.Ledger.{answers, begun}
use Rattle.net.specs.Performed.{told_of}
use Rattle.reader.specs.Steps.{lines_left, line_number}
use Rattle.orders.specs.Desk.{supplied}
use Rattle.orders.specs.Lines.{Written}
use Rattle.orders.specs.Passes.{entry_of, reads, calls_in, entry_texts}
use Rattle.orders.proofs.Sites.{site_texts}
use Rattle.orders.proofs.serve.serve.Goals as goal

pub returns-clause-written : goal.returns-clause-written
returns-clause-written g c =
    let m = g.K.Kind.model in
    let form = g.K.SiteKind.form in
    let site = supplied c.args.nodes in
    let ls = lines_left c.args.reader.now in
    let orders = c.in_ok-orders.ensures in
    let calls : c.deref.result.now ≡ calls_in (reads form false ls) = c.deref.ensures.value ∙ orders.calls in
    let told : map told_of (vec_items c.in_ok-answers.answers) ≡ answers m site begun c.deref.result.now = c.in_ok-answers.ensures.answered in
    let text =
    ap₂ entry_texts (ap (map entry_of) c.deref-2.ensures.value ∙ orders.lines) (ap (map told_of) c.deref-3.ensures.value ∙ told ∙ ap (answers m site begun) calls)
    ∙ site_texts m site form ls (line_number c.args.reader.now + 1) [] in
    subst (λ l. Written (string_bytes c.args.out.now) l c.write_lines.result (string_bytes c.write_lines.new.out)) text c.write_lines.ensures
