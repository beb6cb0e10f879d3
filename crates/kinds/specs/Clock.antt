-- What a clock computes. Assumes nothing.
use Rattle.std.specs.Prelude.{ℕ, max, false, not, ◌&&◌, ◌||◌, nat_le, nat_lt}
use Rattle.kinds.specs.Kinds.{Model}
use Rattle.kinds.specs.Stopped.{stopped}
use Rattle.kinds.specs.declared.clock.Clock.{Clock}
use Rattle.kinds.specs.declared.clock.ClockState.{ClockState}
use Rattle.kinds.specs.declared.clock.ClockUse.{ClockUse}

abbrev pub next_time : ClockState → ClockUse → ℕ
next_time s u = max u.opens (stopped s.time u.travel)

abbrev pub clock_model : Model Clock ClockState ClockUse
clock_model = record {
  start = λ k. record { time = k.start; shut = false };
  extended = λ k s u. record { time = next_time s u; shut = s.shut || nat_lt u.closes (next_time s u) };
  within = λ k s. not s.shut;
  covers = λ k a b. nat_le a.time b.time && (not a.shut || b.shut);
  figure = λ k s. s.time;
}
