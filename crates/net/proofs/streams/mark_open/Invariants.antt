use Rattle.net.specs.Tables.{load, flags_for}
use Rattle.net.proofs.Written.{Written}
use Rattle.net.proofs.streams.mark_open.Given as goal

abbrev pub invariant-loop-i : goal.invariant-loop-i
invariant-loop-i g l = Written (flags_for (load l.streams) l.rate l.links) l.i l.initial.flags l.flags
