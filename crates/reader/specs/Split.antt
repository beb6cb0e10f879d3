-- How a text is parted into lines, and a line into fields.
use Rattle.std.specs.Prelude.{ℕ, cond, List, [], ◌∷◌, Some, None, Option, ◌==◌}
use Rattle.std.specs.Borrow.{Bor}

-- b in front of the first piece
abbrev pub onto : ℕ → List (List ℕ) → List (List ℕ)
onto b [] = (b ∷ []) ∷ []
onto b (p ∷ ps) = (b ∷ p) ∷ ps

-- the bytes parted at each s, with the pieces `last` where they end
abbrev pub split : ℕ → List (List ℕ) → List ℕ → List (List ℕ)
split s last [] = last
split s last (b ∷ bs) = cond (b == s) ([] ∷ split s last bs) (onto b (split s last bs))

-- a line feed ends a line, and the empty rest after the last one is no line
abbrev pub lines : List ℕ → List (List ℕ)
lines = split 10 []

-- a comma parts two fields, and the empty rest after the last one is a field
abbrev pub fields : List ℕ → List (List ℕ)
fields = split 44 ([] ∷ [])

-- the pieces of bytes that may be there
abbrev pub split_some : ℕ → Option (Bor (List ℕ)) → List (List ℕ)
split_some s None = []
split_some s (Some bs) = split s ([] ∷ []) bs.now

-- the first field of a line
abbrev pub first_of : List (List ℕ) → List ℕ
first_of [] = []
first_of (f ∷ fs) = f

-- the fields after the first
abbrev pub after_first : List (List ℕ) → List (List ℕ)
after_first [] = []
after_first (f ∷ fs) = fs
