use Rattle.sheet.proofs.Stops.{state_more, one_more}
use Rattle.sheet.proofs.gated.stops_of.Goals as goal

pub loop-link-preserved : goal.loop-link-preserved
loop-link-preserved c =
    let state = state_more c.args.kind.now c.args.links.now _ _ _ _ c.loop-link-test.true c.link-item.is c.loop-link.invariant.state c.extend-state.ensures in
    record {
      stops = one_more c.args.kind.now c.args.links.now _ _ _ _ c.loop-link.invariant.stops c.in_ok-push.ensures.items state;
      state = state;
    }
