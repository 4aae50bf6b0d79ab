-- Which readings are past a threshold of the chip.
use Rattle.std.specs.Prelude.{ℕ, Bool, ℤ, pos, ◌-ℤ◌, neg_ℤ, int_lt}
use Rattle.reading.specs.declared.Measured.{Measured}

-- A discharge strictly above a: a current strictly below -a.
abbrev pub over_current : ℕ → Measured → Bool
over_current a m = int_lt m.cur (neg_ℤ (pos a))

abbrev pub hotter : ℤ → Measured → Bool
hotter t m = int_lt t m.temp

abbrev pub colder : ℤ → Measured → Bool
colder t m = int_lt m.temp t

-- Above 58 degrees a battery is too hot to be charged.
abbrev pub too_hot : Measured → Bool
too_hot m = hotter (pos 58) m

-- A register byte v means 200 - v degrees.
abbrev pub degrees : ℕ → ℤ
degrees v = pos 200 -ℤ pos v
