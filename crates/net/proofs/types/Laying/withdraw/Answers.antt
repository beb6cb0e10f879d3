use Rattle.std.proofs.Common.{refl, sym, ap, ◌∙◌}
use Rattle.std.specs.List.{slice_get}
use Rattle.std.proofs.lemmas.Result.{err_from_is_err_and}
use Rattle.slice_vec.specs.Tables.{listed, popped}
use Rattle.net.specs.Questions.{no_values}
use Rattle.net.specs.declared.types.NetFault.TheVariants.{NoLink}
use Rattle.net.proofs.Scans.{missing, there, told_err, popped_link, no_link, a_link}
use Rattle.net.proofs.Steps.{withdraw_steps}
use Rattle.net.proofs.types.Laying.withdraw.Goals as goal

pub returns-in_err-ok_or-clause-ledger : goal.returns-in_err-ok_or-clause-ledger
returns-in_err-ok_or-clause-ledger g c =
    λ b.
    let net = c.args.self.now in
    let p = err_from_is_err_and c.from_residual.result c.from_residual.ensures.1 in
    let none = missing c.pop_at.result _ _ (sym c.ok_or.ensures.value ∙ c.in_err-ok_or.was) in
    let at = ap (slice_get (listed 512 net.links)) (sym c.from.ensures) ∙ sym c.pop_at.ensures.item ∙ none.0 in
    withdraw_steps g.K.Kind.model net.nodes net.links b _ c.args.link net.nodes c.pop_at.new.self
    (told_err no_values c.from_residual.result p.0 NoLink p.1 (p.2 ∙ none.1) ∙ sym (no_link (listed 512 net.links) c.args.link at))
    refl
    (c.pop_at.ensures.left ∙ ap (λ i. popped 512 i net.links) c.from.ensures ∙ popped_link net.links c.args.link)

pub returns : goal.returns
returns g c =
    let net = c.args.self.now in
    let at = ap (slice_get (listed 512 net.links)) (sym c.from.ensures) ∙ sym c.pop_at.ensures.item ∙ there c.pop_at.result _ _ (sym c.ok_or.ensures.value ∙ c.in_ok-ok_or.was) in
    let answer = sym (a_link (listed 512 net.links) c.args.link c.in_ok-ok_or.field-0 at) in
    let left = c.pop_at.ensures.left ∙ ap (λ i. popped 512 i net.links) c.from.ensures ∙ popped_link net.links c.args.link in
    record {
      answer = answer;
      left = left;
      nodes = refl;
      ledger = λ b. withdraw_steps g.K.Kind.model net.nodes net.links b _ c.args.link net.nodes c.pop_at.new.self answer refl left;
    }
