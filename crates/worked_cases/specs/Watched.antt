-- Readings in which one quantity is of note.
use Rattle.std.specs.Prelude.{ℕ, ℤ}
use Rattle.reading.specs.declared.Measured.{Measured}

-- A tick, a current and a temperature, beside voltages that no alarm watches.
abbrev pub of_note : ℕ → ℤ → ℤ → Measured
of_note tick cur temp = record { tick = tick; vbat = 3700; vsys = 3700; dcin = 5000; cur = cur; temp = temp }
