-- The conditions that last from reading to reading: good input and over-voltage.
use Rattle.std.specs.Prelude.{◌-◌, Bool, true, false, cond, ◌||◌, nat_lt}
use Rattle.reading.specs.declared.Measured.{Measured}
use Rattle.charger.specs.Checks.{between}
use Rattle.charger.specs.declared.settings.Draft.{Draft}

-- A reading begins a condition, or ends it; any other reading leaves it as it was.
abbrev pub turned : (Measured → Bool) → (Measured → Bool) → Measured → Bool → Bool
turned begins ends m was = cond (begins m) true (cond (ends m) false was)

-- Input becomes good from 3,800 to 6,349 mV, and is good no more below 3,650 or above 6,500 mV.
abbrev pub input_begins : Measured → Bool
input_begins m = between 3800 6349 m.dcin

abbrev pub input_ends : Measured → Bool
input_ends m = nat_lt m.dcin 3650 || nat_lt 6500 m.dcin

-- Over-voltage begins above the limit, and ends below the limit less 150 mV.
abbrev pub over_begins : Draft → Measured → Bool
over_begins d m = nat_lt d.vbat_ovp.0 m.vbat

abbrev pub over_ends : Draft → Measured → Bool
over_ends d m = nat_lt m.vbat (d.vbat_ovp.0 - 150)
