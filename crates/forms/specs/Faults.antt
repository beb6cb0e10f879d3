-- What is wrong with a line, by its number and the field to blame. Assumes nothing.
use Rattle.std.specs.Prelude.{ℕ, Ok, Err, Result}
use Rattle.kinds.specs.Budget.{fault_number}
use Rattle.net.specs.Questions.{net_fault_number}
use Rattle.forms.specs.declared.fault.LineFault.{LineFault}
use Rattle.forms.specs.declared.fault.LineFault.TheVariants.{UnknownOrder, NotAllowed, FieldCount, BadField, Budget, Net}

-- a refusal: its number, and the field to blame, or else 0
abbrev pub Blame : Type 0
Blame = ℕ × ℕ

abbrev pub blame_of : LineFault → Blame
blame_of UnknownOrder = (21, 0)
blame_of NotAllowed = (22, 0)
blame_of FieldCount = (23, 0)
blame_of (BadField field) = (24, field)
blame_of (Budget f) = (fault_number f, 0)
blame_of (Net f) = (net_fault_number f, 0)

-- what a line was read as
abbrev pub read_as : {A : Type 0} → Result A LineFault → Result A Blame
read_as (Ok x) = Ok x
read_as (Err f) = Err (blame_of f)
