use Rattle.std.proofs.Common.{eqb, length, sym, ap, ◌∙◌}
use Rattle.std.specs.List.{position}
use Rattle.std.proofs.lemmas.Result.{err_from_is_err_and}
use Rattle.slice_vec.specs.Tables.{listed}
use Rattle.net.specs.Calls.{show_told_of, show_list_of, bearing}
use Rattle.net.specs.Questions.{told, three_values}
use Rattle.net.specs.declared.types.NetFault.TheVariants.{NoStream}
use Rattle.net.proofs.Following.{shows_whole, shows_within}
use Rattle.net.proofs.Scans.{missing, there, told_err, found_none, found_some, bearing_none, bearing_at, told_shown}
use Rattle.net.proofs.types.Service.show.Goals as goal

pub returns-in_err-at : goal.returns-in_err-at
returns-in_err-at g c =
    let m = g.K.Kind.model in
    let laws = g.met.K.Kind.laws in
    let net = c.args.self.now in
    let b = c.args.book.now.streams in
    let n = c.args.stream in
    let places = c.args.places.now in
    let p = err_from_is_err_and c.from_residual.result c.from_residual.ensures.1 in
    let none = missing c.place_of.result _ _ (sym c.ok_or.ensures.value ∙ c.in_err-at.was) in
    let unborne = bearing_none n (listed 64 b) (found_none n (listed 64 b) (ap (position (λ s. eqb s.number n)) (sym c.as_slice-streams.ensures.items) ∙ sym c.place_of.ensures ∙ none.0)) in
    let answer = told_err three_values c.from_residual.result p.0 NoStream p.1 (p.2 ∙ none.1) ∙ sym (ap (λ ss. show_told_of ss (length places)) unborne) in
    let list = sym (ap (λ ss. show_list_of ss places) unborne) in
    record {
      answer = answer;
      list = list;
      ledger = λ enough site calls h. shows_whole m laws site calls n net.nodes net.links b h _ places places answer list enough;
      within = λ site calls h. shows_within m laws site calls n net.nodes net.links b h _ places places answer list;
    }

pub returns : goal.returns
returns g c =
    let m = g.K.Kind.model in
    let laws = g.met.K.Kind.laws in
    let net = c.args.self.now in
    let b = c.args.book.now.streams in
    let n = c.args.stream in
    let at = c.in_ok-at.at in
    let places = c.args.places.now in
    let streams = c.as_slice-streams.result.now in
    let found = found_some n streams at (sym c.place_of.ensures ∙ there c.place_of.result _ _ (sym c.ok_or.ensures.value ∙ c.in_ok-at.was)) in
    let borne = ap (bearing n) (sym c.as_slice-streams.ensures.items) ∙ bearing_at n streams at _ found.0 found.1 in
    let answer = ap (told three_values) c.ok_or-2.ensures.value ∙ told_shown c.write_links.result ∙ c.write_links.ensures.answer ∙ sym (ap (λ ss. show_told_of ss (length places)) borne) in
    let list = c.write_links.ensures.list ∙ sym (ap (λ ss. show_list_of ss places) borne) in
    record {
      answer = answer;
      list = list;
      ledger = λ enough site calls h. shows_whole m laws site calls n net.nodes net.links b h _ places c.write_links.new.places answer list enough;
      within = λ site calls h. shows_within m laws site calls n net.nodes net.links b h _ places c.write_links.new.places answer list;
    }
