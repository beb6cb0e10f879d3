-- What a duct set means: the ducts that a route passes, and one that comes twice. Assumes nothing.
use Rattle.std.specs.Prelude.{◌≡◌, ℕ, ◌<◌, Bool, false, ◌||◌, List, [], ◌∷◌, map, length, Decides, count_by, ◌==◌, slice_index}
use Rattle.std.specs.List.{range_with_len}
use Rattle.kinds.specs.Ducts.{ducts_model}
use Rattle.kinds.specs.Kinds.{along}
use Rattle.kinds.specs.declared.ducts.DuctState.{DuctState}
use Rattle.kinds.specs.declared.ducts.DuctUse.{DuctUse}
use Rattle.kinds.specs.declared.ducts.Ducts.{Ducts}

abbrev pub ducts_of : List DuctUse → List ℕ
ducts_of us = map (λ u. u.duct) us

-- d stands among the numbers
abbrev pub among : ℕ → List ℕ → Bool
among d [] = false
among d (e ∷ es) = e == d || among d es

-- how many of the ducts 0 to 63 stand among the numbers
abbrev pub distinct : List ℕ → ℕ
distinct ds = count_by (λ d. among d ds) (range_with_len 0 64)

-- a duct below 64 comes twice
abbrev pub Twice : List ℕ → Type 0
Twice ds = (i : ℕ) × (j : ℕ) × (i < j) × (j < length ds) × (slice_index ds i < 64) × (slice_index ds i ≡ slice_index ds j)

-- what the state s of a duct set says of the route
pub record Passes (k : Ducts) (us : List DuctUse) (s : DuctState) : Type 0 where
  pub state : s ≡ along ducts_model k us
  pub figure : ducts_model.figure k s ≡ distinct (ducts_of us)
  pub doubled : Decides s.doubled (Twice (ducts_of us))
