-- What a duct set computes. Assumes nothing.
use Rattle.std.specs.Prelude.{ℕ, ◌^◌, Bool, false, cond, not, ◌&&◌, ◌||◌, ◌==◌, bit_and, bit_or, count_ones, nat_lt}
use Rattle.kinds.specs.Kinds.{Model}
use Rattle.kinds.specs.declared.ducts.DuctState.{DuctState}
use Rattle.kinds.specs.declared.ducts.DuctUse.{DuctUse}
use Rattle.kinds.specs.declared.ducts.Ducts.{Ducts}

-- the set of one duct
abbrev pub mask : ℕ → ℕ
mask d = 2 ^ d

-- a set has a duct
abbrev pub has_duct : ℕ → ℕ → Bool
has_duct set d = not ((bit_and set (mask d)) == 0)

-- a set is a part of another
abbrev pub part_of : ℕ → ℕ → Bool
part_of a b = bit_and a b == a

abbrev pub pass : DuctState → ℕ → DuctState
pass s d = record { set = bit_or s.set (mask d); doubled = s.doubled || has_duct s.set d }

abbrev pub ducts_model : Model Ducts DuctState DuctUse
ducts_model = record {
  start = λ k. record { set = 0; doubled = false };
  extended = λ k s u. cond (nat_lt u.duct 64) (pass s u.duct) s;
  within = λ k s. not s.doubled;
  covers = λ k a b. part_of a.set b.set && (not a.doubled || b.doubled);
  figure = λ k s. count_ones s.set;
}
