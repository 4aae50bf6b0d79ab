-- The bench numbers: the kinds of rows, the table, what a row claims, and that every row holds.
use Rattle.std.specs.Prelude.{Bool, true, false, List, [], ◌∷◌, ◌≡◌, ℕ, ◌*◌, codes, ℤ, pos, neg_ℤ, get_or}
use Prim.Native.String.{String}
use Rattle.reading.specs.declared.Cause.{Cause}
use Rattle.reading.specs.declared.Measured.{Measured}
use Rattle.reading.specs.Numbers.{cause_number}
use Rattle.board.specs.Trimmed.{shifted}
use Rattle.tape.specs.Cuts.{fields}
use Rattle.tape.specs.Lines.{missing, conversion}
use Rattle.tape.specs.Names.{place, places_in}
use Rattle.gauge.specs.declared.CountByte.{CountByte}
use Rattle.gauge.specs.declared.CountByte.TheVariants.{Ccntd0}
use Rattle.gauge.specs.declared.Event.{Event}
use Rattle.gauge.specs.declared.Event.TheVariants.{Written}
use Rattle.gauge.specs.Charges.{kept}
use Rattle.gauge.specs.Counts.{count_of}
use Rattle.watch.specs.declared.thresholds.OverCurrent.{OverCurrent}
use Rattle.watch.specs.Histories.{took, after}
use Rattle.watch.specs.Levels.{over_current}
use Rattle.watch.specs.Rule.{made}
use Rattle.charger.specs.Conditions.{turned, input_begins, input_ends}

-- The kinds of rows, and what stands in each from left to right.
pub data Row : Type 0 where
  -- a charge, in mA × ticks, and its count
  counts : (charge count : ℕ) → Row
  -- a byte of the count, the value written to it, the count before, and the charge after
  writes : (byte : CountByte) (value before charge : ℕ) → Row
  -- the byte of an over-current threshold, a discharge in mA, and whether it is past
  passes : (byte discharge : ℕ) (is_past : Bool) → Row
  -- the threshold byte and the duration byte of an over-current alarm, a discharge in mA, the ticks of the first and
  -- the newest reading with it, and the bit
  alarms : (byte duration discharge first newest : ℕ) (bit : Bool) → Row
  -- whether the input was good, its voltage in mV, and whether it then is
  input : (was : Bool) (dcin : ℕ) (is : Bool) → Row
  -- a column of a tape by its name, a field in it, and the number of the cause that its line then has
  spoils : (column field : String) (cause : ℕ) → Row
  -- a current in mA, the amount of a trim, and the current under that trim
  trims : (current amount trimmed : ℤ) → Row

abbrev pub table : List Row
table =
    counts 2441 0
    ∷ counts 2442 4
    ∷ counts 163839999999 0xffffffc
    ∷ writes Ccntd0 4 0 2442
    ∷ passes 0x7d 6250 false
    ∷ passes 0x7d 6251 true
    ∷ alarms 0x7d 0x64 6251 1000 1099 false
    ∷ alarms 0x7d 0x64 6251 1000 1100 true
    ∷ input false 3799 false
    ∷ input false 3800 true
    ∷ input true 3650 true
    ∷ input true 3649 false
    ∷ spoils "cur" "-0" 1
    ∷ spoils "vbat" "007" 1
    ∷ trims (pos 16300) (pos 200) (pos 16383)
    ∷ []

-- The threshold that a byte means: the byte counts steps of 50 mA.
abbrev pub Means : ℕ → OverCurrent → Type 0
Means byte t = t ≡ 50 * byte

-- Which readings are past a threshold.
abbrev pub past : OverCurrent → Measured → Bool
past t m = over_current t m

-- What a row claims. It speaks of every reading that has its numbers, whatever the other numbers are.
abbrev pub Holds : Row → Type 0
-- The charge has the count.
Holds (counts charge count) = count_of charge ≡ count
-- Whatever happened to the gauge: if the count before stood there, the write leaves the charge.
Holds (writes byte value before charge) = (es : List Event) → count_of (kept es) ≡ before → kept (Written byte value ∷ es) ≡ charge
-- The discharge, which is a current below zero, is past the threshold or is not.
Holds (passes byte discharge is_past) =
    (t : OverCurrent) (m : Measured) → Means byte t → m.cur ≡ neg_ℤ (pos discharge) → past t m ≡ is_past
-- A new alarm that has taken two readings with the discharge, one at each tick, has the bit.
Holds (alarms byte duration discharge first newest bit) =
    (t : OverCurrent) (m n : Measured)
    → Means byte t
    → m.cur ≡ neg_ℤ (pos discharge)
    → n.cur ≡ neg_ℤ (pos discharge)
    → m.tick ≡ first
    → n.tick ≡ newest
    → (after past (made t duration) (took n ∷ took m ∷ [])).bit ≡ bit
-- After a reading with the voltage the input is good or is not.
Holds (input was dcin is) = (m : Measured) → m.dcin ≡ dcin → turned input_begins input_ends m was ≡ is
-- Whatever the names line and whatever else stands on a line: with the field in the column it has the cause.
Holds (spoils column field cause) =
    (names line : List ℕ) (n : ℕ)
    → get_or (fields line) (place (codes column) (fields names)) [] ≡ codes field
    → (c : Cause) × (cause_number c ≡ cause) × (conversion (places_in (fields names)) n line ≡ missing c n)
-- Under the trim the current is the trimmed one.
Holds (trims current amount trimmed) = (m : Measured) → m.cur ≡ current → (shifted amount m).cur ≡ trimmed

abbrev pub EachHolds : List Row → Type 0
EachHolds [] = Unit {0}
EachHolds (r ∷ rs) = Holds r × EachHolds rs

-- Every row of the table holds.
abbrev pub TheBenchNumbersHold : Type 0
TheBenchNumbersHold = EachHolds table
