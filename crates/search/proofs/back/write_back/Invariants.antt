use Rattle.std.proofs.Common.{◌≡◌, ◌++◌, drop}
use Rattle.search.specs.Routes.{way}
use Rattle.search.proofs.back.write_back.Given as goal

abbrev pub invariant-loop-place : goal.invariant-loop-place
invariant-loop-place g l =
    way l.place l.labels l.at ++ drop l.place l.places ≡ way l.hops l.labels l.n ++ drop l.hops l.initial.places
