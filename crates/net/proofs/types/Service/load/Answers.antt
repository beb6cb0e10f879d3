use Rattle.std.proofs.Common.{◌<◌, [], ◌∷◌, length, sym, ap, ◌∙◌, arith}
use Rattle.std.proofs.lemmas.Bool.{cond-false, lt-leb}
use Rattle.slice_vec.specs.Tables.{listed}
use Rattle.net.specs.Tables.{load}
use Rattle.net.proofs.Steps.{load_steps}
use Rattle.net.proofs.Tabled.{unless_none}
use Rattle.net.proofs.types.Service.load.Goals as goal

pub returns : goal.returns
returns g c =
    let net = c.args.self.now in
    let b = c.args.book.now.streams in
    let i = c.args.link in
    let inside : i < length (listed 512 net.links) = omega (arith, c.from.ensures, c.if-from-as_slice.false, ap length c.as_slice.ensures.items) in
    let answer = ap (λ n. (0, n ∷ [])) c.load_on.ensures ∙ sym (unless_none _ (load (listed 64 b) i ∷ []) (cond-false _ _ _ (lt-leb _ _ inside))) in
    record { answer = answer; ledger = load_steps g.K.Kind.model net.nodes net.links b _ g.met.K.Kind.laws i answer }
