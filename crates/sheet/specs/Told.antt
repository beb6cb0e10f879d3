-- What an answer says against a definition, by the numbers that it holds. Assumes nothing.
use Rattle.std.specs.Prelude.{◌≡◌, Ok, Err, Result}
use Rattle.sheet.specs.declared.fault.Fault.{Fault}
use Rattle.sheet.specs.declared.fault.Fault.TheVariants.{At, NoMemory}

-- the fault is the one that is to be told; memory may be wanting at any sheet
abbrev pub Blames : {B : Type 0} → Fault → Result B Fault → Type 0
Blames (At line field cause) told = told ≡ Err (At line field cause)
Blames NoMemory told = Unit {0}

-- the answer has the numbers, or the fault, that are to be told
abbrev pub Tells : {A B : Type 0} → (A → B) → Result A Fault → Result B Fault → Type 0
Tells numbers (Ok x) told = told ≡ Ok (numbers x)
Tells numbers (Err f) told = Blames f told
