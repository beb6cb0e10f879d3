use Rattle.std.proofs.Common.{sym, ap, ◌∙◌, arith}
use Rattle.net.specs.Tables.{is_open_to, load, flags_for}
use Rattle.net.proofs.Flags.{flag_of, length-flags_for}
use Rattle.net.proofs.Written.{written_none, written_more, written_all}
use Rattle.net.proofs.streams.mark_open.Goals as goal

pub loop-i-init : goal.loop-i-init
loop-i-init g c = written_none _ c.args.flags.now

pub loop-i-preserved : goal.loop-i-preserved
loop-i-preserved g c =
    let ld = load c.args.streams.now in
    let link = c.index-links-i.result in
    written_more (flags_for ld c.args.rate c.args.links.now) c.loop-i.i c.args.flags.now c.loop-i.flags c.has_room.result (omega arith)
    (λ d.
    c.has_room.ensures
    ∙ ap (λ x. is_open_to link.capacity x c.args.rate) c.load_of.ensures
    ∙ ap (λ x. is_open_to x.capacity (ld c.loop-i.i) c.args.rate) c.index-links-i.is
    ∙ sym (flag_of ld c.args.rate c.args.links.now c.loop-i.i d link c.loop-i-test.true))
    c.loop-i.invariant

pub returns : goal.returns
returns g c =
    let ld = load c.args.streams.now in
    let long = length-flags_for ld c.args.rate c.args.links.now in
    written_all (flags_for ld c.args.rate c.args.links.now) c.loop-i.i c.args.flags.now c.loop-i.flags (omega (arith, c.loop-i.auto.i-end)) (omega arith) c.loop-i.invariant
