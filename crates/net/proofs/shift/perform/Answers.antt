use Rattle.std.proofs.Common.{length, refl}
use Rattle.net.specs.Performed.{site_of}
use Rattle.net.proofs.Ran.{new_matches, ran_as}
use Rattle.net.proofs.Runs.{laws_of_run, chosen_in_run}
use Rattle.net.proofs.shift.perform.Goals as goal

pub returns-in_err-answers-clause-laws : goal.returns-in_err-answers-clause-laws
returns-in_err-answers-clause-laws g c = laws_of_run g.K.Kind.model _ g.met.K.Kind.laws _

pub returns-in_err-answers-clause-chosen : goal.returns-in_err-answers-clause-chosen
returns-in_err-answers-clause-chosen g c = chosen_in_run g.K.Kind.model (site_of c.args.nodes (length c.args.links.now) (length c.args.streams.now) (length c.args.labels.now)) g.met.K.Kind.laws c.args.calls.now

pub returns : goal.returns
returns g c =
    let links = c.args.links.now in
    let streams = c.args.streams.now in
    let site = site_of c.args.nodes (length links) (length streams) (length c.args.labels.now) in
    let new = new_matches site c.new.result.nodes c.new.result.links c.new-book.result.streams links streams c.new.ensures.nodes c.new.ensures.table c.new-book.ensures refl refl in
    record {
      ran = ran_as g.K.Kind.model site _ _ _ _ (c.run-net.ensures.ran site new refl) _ _ _ _ c.into_parts-serving.ensures.serving c.into_parts-serving.ensures.links refl refl;
      laws = laws_of_run g.K.Kind.model _ g.met.K.Kind.laws _;
      chosen = chosen_in_run g.K.Kind.model site g.met.K.Kind.laws c.args.calls.now;
      room = c.run-net.ensures.room;
      labels = c.run-net.ensures.labels site new refl;
    }
