use Rattle.std.proofs.Common.{◌≡◌, take, vec_items}
use Rattle.sheet.proofs.Stops.{Sofar, state_of}
use Rattle.sheet.proofs.gated.stops_of.Given as goal

abbrev pub invariant-loop-link : goal.invariant-loop-link
invariant-loop-link l = record {
  stops : Sofar l.kind l.links (vec_items l.stops) l.link-index;
  state : l.state ≡ state_of l.kind (take l.link-index l.links);
}
