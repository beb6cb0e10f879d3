-- What the fields of one line say, or the first thing that is wrong with them. Assumes nothing.
use Rattle.std.specs.Prelude.{ℕ, ◌+◌, cond, List, [], ◌∷◌, length, Some, None, Ok, Err, Option, Result, nat_lt}
use Rattle.reader.specs.Numbers.{onto, ranged}
use Rattle.reader.specs.Reading.{reading}
use Rattle.sheet.specs.declared.fault.Cause.{Cause}
use Rattle.sheet.specs.declared.fault.Cause.TheVariants.{MissingField, SurplusField, NotANumber}
use Rattle.sheet.specs.declared.fault.Fault.{Fault}
use Rattle.sheet.specs.declared.fault.Fault.TheVariants.{At}

abbrev pub fault : {A : Type 0} → (line field : ℕ) → Cause → Result A Fault
fault line field cause = Err (At line field cause)

-- a number before those that follow it, or the fault of a field that is none
abbrev pub placed : (line field most : ℕ) → Option ℕ → Result (List ℕ) Fault → Result (List ℕ) Fault
placed line field most None rest = fault line field (NotANumber most)
placed line field most (Some n) rest = onto n rest

-- the numbers of the fields, from the place `field` on, each within its range
abbrev pub numbers_from : (line field : ℕ) → (ranges : List ℕ) → List (List ℕ) → Result (List ℕ) Fault
numbers_from line field [] fs = Ok []
numbers_from line field (m ∷ ms) [] = Ok []
numbers_from line field (m ∷ ms) (f ∷ fs) = placed line field m (ranged m (reading f)) (numbers_from line (field + 1) ms fs)

-- the numbers after a line's first field: first that none is missing and none too many, then that each is in its range
abbrev pub numbers_of : (line : ℕ) → (ranges : List ℕ) → List (List ℕ) → Result (List ℕ) Fault
numbers_of line ranges fs =
    cond (nat_lt (length fs) (length ranges)) (fault line (length fs + 2) MissingField)
    (cond (nat_lt (length ranges) (length fs)) (fault line (length ranges + 2) SurplusField)
    (numbers_from line 2 ranges fs))
