-- The numbers that the fields of a line are, or why they are not those asked for.
use Rattle.std.specs.Prelude.{ℕ, ◌+◌, ◌<◌, cond, List, [], ◌∷◌, length, Some, None, Ok, Err, Option, Result, nat_le, nat_lt}
use Rattle.reader.specs.Reading.{Reading, word, number, bad, reading}
use Rattle.reader.specs.declared.numbers.NumbersFault.{NumbersFault}
use Rattle.reader.specs.declared.numbers.NumbersFault.TheVariants.{Missing, Surplus, Bad}

-- x in front of a list that was read
abbrev pub onto : {A E : Type 0} → A → Result (List A) E → Result (List A) E
onto x (Ok xs) = Ok (x ∷ xs)
onto x (Err e) = Err e

-- what follows from what was read, or the fault
abbrev pub then : {A B E : Type 0} → Result A E → (A → Result B E) → Result B E
then (Ok x) f = f x
then (Err e) f = Err e

-- the value of a field that is a number of at most `most`
abbrev pub ranged : (most : ℕ) → Reading → Option ℕ
ranged most (word bs) = None
ranged most (number bs n) = cond (nat_le n most) (Some n) None
ranged most (bad bs) = None

-- a number in front of those that follow it, or the fault of a field that is none
abbrev pub number_onto : (place : ℕ) → Option ℕ → Result (List ℕ) NumbersFault → Result (List ℕ) NumbersFault
number_onto place None rest = Err (Bad place)
number_onto place (Some n) rest = onto n rest

-- the numbers of the fields, the first of them at `place`, each within its range
abbrev pub numbers_from : (place : ℕ) (ranges : List ℕ) → List (List ℕ) → Result (List ℕ) NumbersFault
numbers_from place [] fs = Ok []
numbers_from place (m ∷ ms) [] = Ok []
numbers_from place (m ∷ ms) (f ∷ fs) = number_onto place (ranged m (reading f)) (numbers_from (place + 1) ms fs)

-- the numbers of the fields: first that none is missing and none too many, then that each is in its range
abbrev pub numbers_of : (ranges : List ℕ) → List (List ℕ) → Result (List ℕ) NumbersFault
numbers_of ranges fs =
    cond (nat_lt (length fs) (length ranges)) (Err (Missing (length fs)))
    (cond (nat_lt (length ranges) (length fs)) (Err Surplus)
    (numbers_from 0 ranges fs))

-- the place that a fault names is one of n
abbrev pub Placed : {A : Type 0} → (n : ℕ) → Result A NumbersFault → Type 0
Placed n (Ok x) = Unit {0}
Placed n (Err (Missing i)) = i < n
Placed n (Err Surplus) = Unit {0}
Placed n (Err (Bad i)) = i < n
