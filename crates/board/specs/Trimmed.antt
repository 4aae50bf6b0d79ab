-- What a trim makes of the meaning of the board below it.
use Rattle.std.specs.Prelude.{map, ℤ, pos, ◌+ℤ◌}
use Rattle.std.specs.Int.{int_max, int_min}
use Rattle.reading.specs.declared.Measured.{Measured}
use Rattle.reading.specs.Limits.{lowest_cur}
use Rattle.board.specs.Meaning.{Conversion, reading, blank, Meaning}

-- A current beyond -16,383 or 16,383 is held there.
abbrev pub held : ℤ → ℤ
held c = int_max lowest_cur (int_min c (pos 16383))

-- The amount goes to the current; all else stays.
abbrev pub shifted : ℤ → Measured → Measured
shifted a m = record {
  tick = m.tick;
  vbat = m.vbat;
  vsys = m.vsys;
  dcin = m.dcin;
  cur = held (m.cur +ℤ a);
  temp = m.temp;
}

abbrev pub trimmed : ℤ → Conversion → Conversion
trimmed a (reading m) = reading (shifted a m)
trimmed a (blank b) = blank b

-- Readings come shifted; blanks, drive and ceiling are those of the board below.
abbrev pub over : ℤ → Meaning → Meaning
over a m = record { waiting = map (trimmed a) m.waiting; drive = m.drive; ceiling = m.ceiling }
