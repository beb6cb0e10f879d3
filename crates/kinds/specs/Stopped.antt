-- Sums that stop at the largest number of 32 bits. Assumes nothing.
use Rattle.std.specs.Prelude.{ℕ, ◌+◌, min, max}

abbrev pub top : ℕ
top = 4294967295

-- the sum of two numbers, stopped at the top. A first number past the top, which no 32 bits hold, stays as it is
abbrev pub stopped : ℕ → ℕ → ℕ
stopped a n = max a (min (a + n) top)
