-- Worked examples, all in one list of rows. Assumes nothing.
use Rattle.std.specs.Prelude.{◌≡◌, ℕ, Bool, true, false, List, [], ◌∷◌, ◌++◌, map}
use Rattle.kinds.specs.Rows.{Row as KindRow, Holds as KindHolds, rows as kind_rows}
use Rattle.net.specs.Tables.{is_open_to}

pub data Row : Type 0 where
  of_kind : KindRow → Row
  -- a link's capacity and load, the rate of a booking, and whether the link is open to it
  opens : ℕ → ℕ → ℕ → Bool → Row

abbrev pub Holds : Row → Type 0
Holds (of_kind r) = KindHolds r
Holds (opens capacity load rate b) = is_open_to capacity load rate ≡ b

abbrev pub rows : List Row
rows = map of_kind kind_rows ++ opens 100 60 40 true ∷ opens 100 60 41 false ∷ []
