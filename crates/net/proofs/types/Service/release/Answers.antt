use Rattle.std.proofs.Common.{eqb, [], sym, ap, ◌∙◌}
use Rattle.std.specs.List.{position}
use Rattle.std.proofs.lemmas.Result.{err_from_is_err_and}
use Rattle.slice_vec.specs.Tables.{listed}
use Rattle.net.specs.Questions.{no_values}
use Rattle.net.specs.declared.types.NetFault.TheVariants.{NoStream}
use Rattle.net.proofs.Scans.{missing, there, told_err, unknown, known, popped_stream}
use Rattle.net.proofs.Steps.{release_steps}
use Rattle.net.proofs.Tabled.{unless_none, unless_refused, leave_refused}
use Rattle.net.proofs.types.Service.release.Goals as goal

pub returns-in_err-at : goal.returns-in_err-at
returns-in_err-at g c =
    let net = c.args.self.now in
    let b = c.args.book.now.streams in
    let n = c.args.stream in
    let p = err_from_is_err_and c.from_residual.result c.from_residual.ensures.1 in
    let none = missing c.place_of.result _ _ (sym c.ok_or.ensures.value ∙ c.in_err-at.was) in
    let refused = unknown n (listed 64 b) (ap (position (λ s. eqb s.number n)) (sym c.as_slice.ensures.items) ∙ sym c.place_of.ensures ∙ none.0) in
    let answer = told_err no_values c.from_residual.result p.0 NoStream p.1 (p.2 ∙ none.1) ∙ sym (unless_refused _ 17 [] refused) in
    let left = sym (leave_refused b _ 17 _ refused) in
    record { answer = answer; left = left; ledger = release_steps g.K.Kind.model net.nodes net.links b _ n b answer left }

pub returns : goal.returns
returns g c =
    let net = c.args.self.now in
    let b = c.args.book.now.streams in
    let n = c.args.stream in
    let found = ap (position (λ s. eqb s.number n)) (sym c.as_slice.ensures.items) ∙ sym c.place_of.ensures ∙ there c.place_of.result _ _ (sym c.ok_or.ensures.value ∙ c.in_ok-at.was) in
    let answer = sym (unless_none _ [] (known n (listed 64 b) c.in_ok-at.at found)) in
    let left = c.pop_at.ensures.left ∙ popped_stream b n c.in_ok-at.at found in
    record { answer = answer; left = left; ledger = release_steps g.K.Kind.model net.nodes net.links b _ n c.pop_at.new.self answer left }
