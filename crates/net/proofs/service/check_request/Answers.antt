use Rattle.std.proofs.Common.{eqb, [], sym, ap, ◌∙◌}
use Rattle.std.specs.List.{position}
use Rattle.std.specs.Option.{is_some}
use Rattle.std.proofs.lemmas.Bool.{cond-true, cond-false, ne_eqb}
use Rattle.slice_vec.specs.Tables.{listed}
use Rattle.net.specs.Questions.{unless}
use Rattle.net.proofs.Scans.{taken_is, full_is}
use Rattle.net.proofs.Tabled.{unless_refused}
use Rattle.net.proofs.service.check_request.Goals as goal

pub returns-then-is_some : goal.returns-then-is_some
returns-then-is_some c =
    let r = c.args.request.now in
    let ss = listed 64 c.args.book.now.streams in
    let taken = taken_is r.stream ss ∙ ap (λ xs. is_some (position (λ s. eqb s.number r.stream) xs)) (sym c.as_slice.ensures.items) ∙ ap is_some (sym c.place_of.ensures) ∙ sym c.is_some.ensures ∙ c.if-is_some.true in
    sym (unless_refused _ 8 _ (cond-false _ _ _ (ne_eqb _ _ c.if-request-eq0.false) ∙ cond-true _ _ _ taken))

pub returns-then-is_full : goal.returns-then-is_full
returns-then-is_full c =
    let r = c.args.request.now in
    let b = c.args.book.now.streams in
    let ss = listed 64 b in
    let free = taken_is r.stream ss ∙ ap (λ xs. is_some (position (λ s. eqb s.number r.stream) xs)) (sym c.as_slice.ensures.items) ∙ ap is_some (sym c.place_of.ensures) ∙ sym c.is_some.ensures ∙ c.if-is_some.false in
    let full = full_is b c.is_full.ensures.within ∙ sym c.is_full.ensures.full ∙ c.if-is_full.true in
    sym (unless_refused _ 9 _ (cond-false _ _ _ (ne_eqb _ _ c.if-request-eq0.false) ∙ cond-false _ _ _ free ∙ cond-true _ _ _ full))

pub returns : goal.returns
returns c =
    let r = c.args.request.now in
    let b = c.args.book.now.streams in
    let ss = listed 64 b in
    let free = taken_is r.stream ss ∙ ap (λ xs. is_some (position (λ s. eqb s.number r.stream) xs)) (sym c.as_slice.ensures.items) ∙ ap is_some (sym c.place_of.ensures) ∙ sym c.is_some.ensures ∙ c.if-is_some.false in
    let room-left = full_is b c.is_full.ensures.within ∙ sym c.is_full.ensures.full ∙ c.if-is_full.false in
    c.check_route.ensures ∙ ap (λ n. unless n []) (sym (cond-false _ _ _ (ne_eqb _ _ c.if-request-eq0.false) ∙ cond-false _ _ _ free ∙ cond-false _ _ _ room-left))
