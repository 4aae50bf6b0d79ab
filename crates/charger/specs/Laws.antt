-- What can be relied on of a charger, whatever happened to it.
use Rattle.std.specs.Prelude.{◌≡◌, ℕ, ◌+◌, ◌*◌, ◌<◌, ◌≤◌, min, Bool, true, false, cond, not, ◌&&◌, ◌||◌, ◌⊎◌, List, [], ◌∷◌, ◌++◌, pos, ◌≤ℤ◌, Some, ◌≢◌}
use Rattle.std.specs.List.{AllByRecursion}
use Rattle.reading.specs.declared.Measured.{Measured}
use Rattle.watch.specs.Histories.{Each}
use Rattle.watch.specs.Rule.{span_from}
use Rattle.charger.specs.Codes.{asked, same}
use Rattle.charger.specs.Conditions.{input_begins, input_ends, over_begins, over_ends}
use Rattle.charger.specs.Histories.{Event, took, wrote, hold, release, Moment, after, code_now, hold_out, hot_clock, left_at, readings, reset_bit, story_of}
use Rattle.charger.specs.Rules.{among}
use Rattle.charger.specs.Timing.{starts_pre, starts_fast, starts_top}
use Rattle.charger.specs.declared.Clock.{Clock}
use Rattle.charger.specs.declared.Code.{Code}
use Rattle.charger.specs.declared.Code.TheVariants.{Suspend, TrickleCharge, PreCharge, FastCharge, TopOff, Done, TempErr1, TempErr2, TempErr3, TempErr4, TempErr5, BattAssist1, BattAssist2, BattAssist3, BattError}
use Rattle.charger.specs.declared.settings.Draft.{Draft}

-- A condition lasts: a reading began it, and no later one ended it.
pub record Lasting (begins ends : Measured → Bool) (ms : List Measured) : Type 0 where
  pub newer : List Measured
  pub first : Measured
  pub older : List Measured
  pub order : ms ≡ newer ++ (first ∷ older)
  pub began : begins first ≡ true
  pub unended : Each (λ m. not (ends m)) newer

abbrev pub InputGood : List Measured → Type 0
InputGood = Lasting input_begins input_ends

abbrev pub OverVoltage : Draft → List Measured → Type 0
OverVoltage d = Lasting (over_begins d) (over_ends d)

-- The input is good, and there is over-voltage, exactly while these conditions last.
abbrev pub ConditionsLast : Type 0
ConditionsLast =
    (d : Draft) (es : List Event)
    → ((after d es).input_good ≡ true → InputGood (readings es))
    × (InputGood (readings es) → (after d es).input_good ≡ true)
    × ((after d es).over_voltage ≡ true → OverVoltage d (readings es))
    × (OverVoltage d (readings es) → (after d es).over_voltage ≡ true)

-- Between a reading that begins a condition and one that ends it lie more than 150 mV.
pub record Apart (d : Draft) (m n : Measured) : Type 0 where
  pub input : input_begins m ≡ true → input_ends n ≡ true → (n.dcin + 150 < m.dcin) ⊎ (m.dcin + 150 < n.dcin)
  pub over : over_begins d m ≡ true → over_ends d n ≡ true → n.vbat + 150 < m.vbat

abbrev pub ConditionsEnd150MVAway : Type 0
ConditionsEnd150MVAway = (d : Draft) (m n : Measured) → Apart d m n

-- A moment starts a clock: it is a good reading at which the code made a change that starts the clock.
abbrev pub starts_at : (Code → Code → Bool) → Event → Code → Code → Bool
starts_at starts (took m) old new = starts old new
starts_at starts (wrote b) old new = false
starts_at starts hold old new = false
starts_at starts release old new = false

-- No moment of the newer part of a story starts a clock.
abbrev pub NoStart : (Code → Code → Bool) → List Moment → List Moment → Type 0
NoStart starts [] older = Unit {0}
NoStart starts (m ∷ ms) older = (starts_at starts m.event (code_now (ms ++ older)) m.code ≡ false) × NoStart starts ms older

-- A clock was started at a tick: by a good reading at that tick, and by no later one.
pub record Started (starts : Code → Code → Bool) (story : List Moment) (tick : ℕ) : Type 0 where
  pub newer : List Moment
  pub reading : Measured
  pub code : Code
  pub older : List Moment
  pub order : story ≡ newer ++ (record { event = took reading; code = code } ∷ older)
  pub left : starts (code_now older) code ≡ true
  pub at : reading.tick ≡ tick
  pub latest : NoStart starts newer (record { event = took reading; code = code } ∷ older)

-- A clock counts from a tick exactly where it was started there.
pub record CountsFrom (starts : Code → Code → Bool) (story : List Moment) (clock : Clock) : Type 0 where
  pub told : (tick : ℕ) → clock.since ≡ Some tick → Started starts story tick
  pub kept : (tick : ℕ) → Started starts story tick → clock.since ≡ Some tick

abbrev pub ClocksCountFromTheLatestStart : Type 0
ClocksCountFromTheLatestStart =
    (d : Draft) (es : List Event)
    → CountsFrom starts_pre (story_of d es) (after d es).clocks.pre
    × CountsFrom starts_fast (story_of d es) (after d es).clocks.fast
    × CountsFrom starts_top (story_of d es) (after d es).clocks.top

-- No way on from a detour starts a clock, be it out of cold, heat or battery assist; nor does the way on from trickle
-- charging or from topping off.
abbrev pub NoDetourStartsAClock : Type 0
NoDetourStartsAClock =
    AllByRecursion (λ c. (new : Code) → (starts_pre c new ≡ false) × (starts_fast c new ≡ false) × (starts_top c new ≡ false))
    (TempErr1 ∷ TempErr2 ∷ TempErr3 ∷ TempErr4 ∷ TempErr5 ∷ BattAssist1 ∷ BattAssist2 ∷ BattAssist3 ∷ TrickleCharge ∷ TopOff ∷ [])

-- A battery error is a good reading that leads from another code to 7Fh. Whether one came after the latest charger
-- reset, or else since the start.
abbrev pub erred_by : Event → Code → Code → Bool → Bool
erred_by (took m) old new before = (same new BattError && not (same old BattError)) || before
erred_by (wrote b) old new before = cond b false before
erred_by hold old new before = before
erred_by release old new before = before

abbrev pub erred : List Moment → Bool
erred [] = false
erred (m ∷ ms) = erred_by m.event (code_now ms) m.code (erred ms)

-- The code is 7Fh exactly where a battery error came and no charger reset after it; a charger reset leaves it at once,
-- and nothing else does.
pub record Waiting (d : Draft) (es : List Event) : Type 0 where
  pub stands : same (after d es).code BattError ≡ erred (story_of d es)
  pub left : (after d (wrote true ∷ es)).code ≡ Suspend
  pub kept : (e : Event) → (after d es).code ≡ BattError → ((after d (e ∷ es)).code ≡ BattError) ⊎ (e ≡ wrote true)

abbrev pub ABatteryErrorWaitsForAReset : Type 0
ABatteryErrorWaitsForAReset = (d : Draft) (es : List Event) → Waiting d es

-- The codes in which the charger charges.
abbrev pub charges : Code → Bool
charges = among (TrickleCharge ∷ PreCharge ∷ FastCharge ∷ TopOff ∷ [])

-- What has to be so where a current is driven: the code is one that charges, the newest reading was taken with good
-- input, without over-voltage and at 2 to 58 degrees, nobody holds the charger, the reset bit is zero, and no battery
-- error came after the latest charger reset.
pub record Safe (d : Draft) (es : List Event) (code : Code) : Type 0 where
  pub charging : charges code ≡ true
  pub newest : Measured
  pub older : List Measured
  pub taken : readings es ≡ newest ∷ older
  pub input : InputGood (newest ∷ older)
  pub no_over_voltage : OverVoltage d (newest ∷ older) → ⊥
  pub warm : pos 2 ≤ℤ newest.temp
  pub cool : newest.temp ≤ℤ pos 58
  pub no_hold : hold_out es ≡ false
  pub no_reset : reset_bit es ≡ false
  pub no_error : erred (story_of d es) ≡ false

abbrev pub ItDrivesOnlyWhereItIsSafe : Type 0
ItDrivesOnlyWhereItIsSafe =
    (d : Draft) (es : List Event) (ceiling : ℕ)
    → 0 < min (asked d (after d es).code) ceiling
    → Safe d es (after d es).code

-- Nothing stands in the way of charging at a reading after some events.
pub record MayCharge (d : Draft) (es : List Event) (m : Measured) : Type 0 where
  pub input : InputGood (m ∷ readings es)
  pub no_over_voltage : OverVoltage d (m ∷ readings es) → ⊥
  pub warm : pos 2 ≤ℤ m.temp
  pub cool : m.temp ≤ℤ pos 58

-- A suspended charger that is neither reset nor held charges after two readings with nothing in the way.
abbrev pub ItChargesWhereItMay : Type 0
ItChargesWhereItMay =
    (d : Draft) (es : List Event) (m n : Measured)
    → (after d es).code ≡ Suspend
    → reset_bit es ≡ false
    → hold_out es ≡ false
    → MayCharge d es m
    → MayCharge d (took m ∷ es) n
    → charges (after d (took n ∷ took m ∷ es)).code ≡ true

-- A second has 4,000 ticks.
abbrev pub minutes : ℕ → ℕ
minutes n = n * 60 * 4000

-- No code outlasts its clock: trickle and pre-charging go on for less than 129 minutes, fast charging for less than 641,
-- topping off for less than 15 seconds, and a battery is too hot in a temperature code for less than 129 minutes, at
-- every reading that keeps the charger there.
pub record InTime (d : Draft) (es : List Event) (m : Measured) (old new : Code) : Type 0 where
  pub pre : among (TrickleCharge ∷ PreCharge ∷ []) old ≡ true → charges new ≡ true → span_from (left_at starts_pre (story_of d es)) m.tick < minutes 129
  pub fast : old ≡ FastCharge → charges new ≡ true → span_from (left_at starts_fast (story_of d es)) m.tick < minutes 641
  pub top : old ≡ TopOff → new ≡ TopOff → span_from (left_at starts_top (story_of d es)) m.tick < 15 * 4000
  pub hot : among (TempErr1 ∷ TempErr2 ∷ TempErr5 ∷ []) old ≡ true → new ≡ old → hot_clock (m ∷ readings es) < minutes 129

-- Nothing comes before its clock: a reading leads to a battery error only where a clock has met its limit in a code that
-- has one, and from topping off to the full battery only after 15 seconds.
pub record OnTime (d : Draft) (es : List Event) (m : Measured) (old new : Code) : Type 0 where
  pub pre : among (TrickleCharge ∷ PreCharge ∷ []) old ≡ true → new ≡ BattError → minutes 129 ≤ span_from (left_at starts_pre (story_of d es)) m.tick
  pub fast : old ≡ FastCharge → new ≡ BattError → minutes 641 ≤ span_from (left_at starts_fast (story_of d es)) m.tick
  pub top : old ≡ TopOff → new ≡ Done → 15 * 4000 ≤ span_from (left_at starts_top (story_of d es)) m.tick
  pub hot : among (TempErr1 ∷ TempErr2 ∷ TempErr5 ∷ []) old ≡ true → new ≡ BattError → minutes 129 ≤ hot_clock (m ∷ readings es)
  pub others : among (TrickleCharge ∷ PreCharge ∷ FastCharge ∷ TempErr1 ∷ TempErr2 ∷ TempErr5 ∷ BattError ∷ []) old ≡ false → new ≢ BattError

abbrev pub NothingComesBeforeItsClock : Type 0
NothingComesBeforeItsClock =
    (d : Draft) (es : List Event) (m : Measured) → OnTime d es m (after d es).code (after d (took m ∷ es)).code

abbrev pub NoCodeOutlastsItsClock : Type 0
NoCodeOutlastsItsClock =
    (d : Draft) (es : List Event) (m : Measured) → InTime d es m (after d es).code (after d (took m ∷ es)).code
