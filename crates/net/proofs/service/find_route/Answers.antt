use Rattle.std.proofs.Common.{◌≡◌, Bool, false, List, length, take, replicate, ap, ◌∙◌, arith}
use lib.ListN.{length-replicate}
use Rattle.search.specs.Answers.{answer}
use Rattle.search.specs.Rule.{asked, made}
use Rattle.slice_vec.specs.Tables.{stored}
use Rattle.net.specs.Tables.{load, flags_for}
use Rattle.net.proofs.Flags.{flags_stored}
use Rattle.net.proofs.service.find_route.Goals as goal

pub returns : goal.returns
returns g c =
    let m = g.K.Kind.model in
    let k = c.args.kind.now in
    let links = c.args.links.now in
    let r = c.args.request.now in
    let ld = load c.args.streams.now in
    let is : take (length links) c.mark_open.new.flags ≡ flags_for ld r.rate links = flags_stored ld r.rate links (replicate 512 false) c.mark_open.new.flags (omega (arith, length-replicate 512 false)) c.mark_open.ensures in
    record {
      answer = c.search.ensures.answer ∙ ap (λ (flags : List Bool). answer m (asked k links flags r.source r.target r.hop_limit) (length c.args.labels.now)) is;
      table = c.search.ensures.table ∙ ap (λ (flags : List Bool). stored (made m (asked k links flags r.source r.target r.hop_limit)) c.args.labels.now) is;
    }
