-- What a clock means: the time of arrival, and gates that were reached too late. Assumes nothing.
use Rattle.std.specs.Prelude.{◌≡◌, ℕ, ◌+◌, ◌<◌, ◌≤◌, min, max, List, [], ◌∷◌, map, length, take, Decides, fold, sum_by, slice_index}
use Rattle.kinds.specs.Clock.{clock_model}
use Rattle.kinds.specs.Kinds.{along}
use Rattle.kinds.specs.Stopped.{top}
use Rattle.kinds.specs.declared.clock.Clock.{Clock}
use Rattle.kinds.specs.declared.clock.ClockState.{ClockState}
use Rattle.kinds.specs.declared.clock.ClockUse.{ClockUse}

abbrev pub travel : List ClockUse → ℕ
travel us = sum_by (λ u. u.travel) us

-- each opening time plus the travel after it
abbrev pub openings : List ClockUse → List ℕ
openings [] = []
openings (u ∷ us) = (u.opens + travel us) ∷ openings us

abbrev pub largest : List ℕ → ℕ
largest ns = fold max 0 ns

-- the largest of the start plus all travel and of each opening time plus the travel after it
abbrev pub arrival : Clock → List ClockUse → ℕ
arrival k us = largest ((k.start + travel us) ∷ openings us)

-- link i was reached after it had closed
abbrev pub Late : Clock → List ClockUse → ℕ → Type 0
Late k us i = slice_index (map (λ u. u.closes) us) i < arrival k (take (i + 1) us)

-- what the state s of a clock says of the route
pub record Arrives (k : Clock) (us : List ClockUse) (s : ClockState) : Type 0 where
  pub state : s ≡ along clock_model k us
  pub time : s.time ≡ min (arrival k us) top
  -- sixteen links never reach the top
  pub uncut : length us ≤ 16 → s.time ≡ arrival k us
  pub shut : Decides s.shut ((i : ℕ) × (i < length us) × Late k us i)
