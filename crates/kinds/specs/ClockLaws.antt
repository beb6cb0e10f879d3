-- A clock keeps the laws. Assumes nothing.
use Rattle.std.proofs.Common.{rules}
use Rattle.kinds.specs.Clock.{clock_model}
use Rattle.kinds.specs.Kinds.{Laws}

pub clock_laws : Laws clock_model
clock_laws = search rules
