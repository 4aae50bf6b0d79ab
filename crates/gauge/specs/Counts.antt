-- The count of a charge, and what a write to one of its bytes does.
use Rattle.std.specs.Prelude.{ℕ, suc, ◌+◌, ◌-◌, ◌*◌, ◌/◌, ◌%◌, min, ℤ, pos, negsuc}
use Rattle.gauge.specs.declared.CountByte.{CountByte}
use Rattle.gauge.specs.declared.CountByte.TheVariants.{Ccntd3, Ccntd2, Ccntd1, Ccntd0}

-- The largest charge that is kept, in mA × ticks.
abbrev pub fullest : ℕ
fullest = 163839999999

-- A current adds its flow to the charge, which stops at the top of the counter's range; a discharge takes it away,
-- down to 0.
abbrev pub flowing : ℤ → ℕ → ℕ → ℕ
flowing (pos c) ticks q = min (q + c * ticks) fullest
flowing (negsuc c) ticks q = q - suc c * ticks

-- A step of the count is 4, and stands for 78,125 / 32 mA × ticks. A part of a step does not show.
abbrev pub count_of : ℕ → ℕ
count_of q = 4 * (32 * q / 78125)

-- The smallest charge with a count: the steps as charge, rounded up.
abbrev pub least_for : ℕ → ℕ
least_for c = (78125 * (c / 4) + 31) / 32

-- What one unit of a byte weighs in the count.
abbrev pub weight : CountByte → ℕ
weight Ccntd3 = 16777216
weight Ccntd2 = 65536
weight Ccntd1 = 256
weight Ccntd0 = 1

-- A byte of a count.
abbrev pub byte_of : CountByte → ℕ → ℕ
byte_of b c = c / weight b % 256

-- Of a written byte the highest keeps its low four bits, and the lowest drops its low two.
abbrev pub kept_bits : CountByte → ℕ → ℕ
kept_bits Ccntd3 v = v % 16
kept_bits Ccntd2 v = v
kept_bits Ccntd1 v = v
kept_bits Ccntd0 v = v / 4 * 4

-- The count with one byte replaced.
abbrev pub replaced : CountByte → ℕ → ℕ → ℕ
replaced b v c = c - byte_of b c * weight b + kept_bits b v * weight b
