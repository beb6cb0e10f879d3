-- Lists in lent tables. Assumes nothing.
use Rattle.std.specs.Prelude.{ℕ, min, cond, List, [], ◌∷◌, ◌++◌, length, take, drop, Bool, Some, None, Option, nat_lt}
use Rattle.std.specs.List.{remove}

-- a lent table, and how many of its places are in use
pub record Table (X : Type 0) : Type 0 where
  pub count : ℕ
  pub places : List X

abbrev pub table : {X : Type 0} → ℕ → List X → Table X
table count places = record { count = count; places = places }

-- how many places may be used, at most cap
abbrev pub room : {X : Type 0} → ℕ → Table X → ℕ
room cap t = min cap (length t.places)

-- what lies in the places in use
abbrev pub listed : {X : Type 0} → ℕ → Table X → List X
listed cap t = take (min t.count (room cap t)) t.places

-- a table that holds the first items of ls, as many as there are places, and is otherwise as it was
abbrev pub stored : {X : Type 0} → List X → List X → List X
stored ls table = take (length table) ls ++ drop (length ls) table

-- the table when xs lie in it from its start, the other places as they were
abbrev pub put : {X : Type 0} → List X → Table X → Table X
put xs t = record { count = length xs; places = stored xs t.places }

-- whether one of the places that may be used is free
abbrev pub has_place : {X : Type 0} → ℕ → Table X → Bool
has_place cap t = nat_lt t.count (room cap t)

-- the place that a pushed item gets, and the table then
abbrev pub pushed_at : {X : Type 0} → ℕ → Table X → Option ℕ
pushed_at cap t = cond (has_place cap t) (Some t.count) None

abbrev pub pushed : {X : Type 0} → ℕ → X → Table X → Table X
pushed cap x t = cond (has_place cap t) (put (listed cap t ++ x ∷ []) t) t

-- the table without the item at a place, each later one a place further down; as it was where no item is there
abbrev pub popped : {X : Type 0} → ℕ → ℕ → Table X → Table X
popped cap at t = cond (nat_lt at (length (listed cap t))) (put (remove (listed cap t) at) t) t
