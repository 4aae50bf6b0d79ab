-- A charger over its whole history, told in the words of what happened.
use Rattle.std.specs.Prelude.{◌≡◌, ℕ, Bool, true, false, cond, List, [], ◌∷◌, Some, None, Option}
use Rattle.reading.specs.declared.Measured.{Measured}
use Rattle.watch.specs.Histories.{first_tick, run_of, spanned}
use Rattle.watch.specs.Levels.{too_hot}
use Rattle.watch.specs.Rule.{span_from, span_of}
use Rattle.charger.specs.Chargers.{made, taking, resetting, suspended, holding_on, letting_go}
use Rattle.charger.specs.Conditions.{turned, input_begins, input_ends, over_begins, over_ends}
use Rattle.charger.specs.Rules.{Facts, next}
use Rattle.charger.specs.Timing.{starts_pre, starts_fast, starts_top}
use Rattle.charger.specs.declared.Charger.{Charger}
use Rattle.charger.specs.declared.Code.{Code}
use Rattle.charger.specs.declared.Code.TheVariants.{Suspend}
use Rattle.charger.specs.declared.settings.Draft.{Draft}

-- What happens to a charger: a good reading, a write of the reset bit, a hold, a release.
pub data Event : Type 0 where
  took : Measured → Event
  wrote : Bool → Event
  hold : Event
  release : Event

-- All lists here have the newest in front.

-- What the program keeps after some events.
abbrev pub after : Draft → List Event → Charger
after d [] = made d
after d (took m ∷ es) = taking m (after d es)
after d (wrote b ∷ es) = resetting b (after d es)
after d (hold ∷ es) = holding_on (after d es)
after d (release ∷ es) = letting_go (after d es)

-- The good readings.
abbrev pub readings : List Event → List Measured
readings [] = []
readings (took m ∷ es) = m ∷ readings es
readings (wrote b ∷ es) = readings es
readings (hold ∷ es) = readings es
readings (release ∷ es) = readings es

-- The reset bit as it was written last.
abbrev pub reset_bit : List Event → Bool
reset_bit [] = false
reset_bit (took m ∷ es) = reset_bit es
reset_bit (wrote b ∷ es) = b
reset_bit (hold ∷ es) = reset_bit es
reset_bit (release ∷ es) = reset_bit es

-- A hold is out from a hold to the next release.
abbrev pub hold_out : List Event → Bool
hold_out [] = false
hold_out (took m ∷ es) = hold_out es
hold_out (wrote b ∷ es) = hold_out es
hold_out (hold ∷ es) = true
hold_out (release ∷ es) = false

-- Whether a condition lasts: the latest reading that begins or ends it decides.
abbrev pub lasts : (Measured → Bool) → (Measured → Bool) → List Measured → Bool
lasts begins ends [] = false
lasts begins ends (m ∷ ms) = turned begins ends m (lasts begins ends ms)

abbrev pub input_good : List Measured → Bool
input_good = lasts input_begins input_ends

abbrev pub over_voltage : Draft → List Measured → Bool
over_voltage d = lasts (over_begins d) (over_ends d)

-- The hot clock: the span of the longest run above 58 degrees that ends now.
abbrev pub hot_clock : List Measured → ℕ
hot_clock ms = spanned (run_of too_hot ms)

-- The tick of the newest reading, 0 without one.
abbrev pub newest_tick : List Measured → ℕ
newest_tick [] = 0
newest_tick (m ∷ ms) = m.tick

-- A moment: what happened, and the code afterwards. A story is a list of moments.
pub record Moment : Type 0 where
  pub event : Event
  pub code : Code

-- At first the charger is suspended.
abbrev pub code_now : List Moment → Code
code_now [] = Suspend
code_now (m ∷ ms) = m.code

-- The tick of the latest good reading at which the code left one code for another, for a pair that starts a clock.
abbrev pub left_by : (Code → Code → Bool) → Event → Code → Code → Option ℕ → Option ℕ
left_by starts (took m) old new before = cond (starts old new) (Some m.tick) before
left_by starts (wrote b) old new before = before
left_by starts hold old new before = before
left_by starts release old new before = before

abbrev pub left_at : (Code → Code → Bool) → List Moment → Option ℕ
left_at starts [] = None
left_at starts (m ∷ ms) = left_by starts m.event (code_now ms) m.code (left_at starts ms)

-- What the rules look at when a reading is taken, told by what happened before it: each clock counts the ticks since
-- the latest reading that started it, and is 0 where there was none.
abbrev pub facts_at : Draft → Measured → List Event → List Moment → Facts
facts_at d m es story = record {
  reset = reset_bit es;
  held = hold_out es;
  input_good = input_good (m ∷ readings es);
  over_voltage = over_voltage d (m ∷ readings es);
  hot_clock = hot_clock (m ∷ readings es);
  pre_clock = span_from (left_at starts_pre story) m.tick;
  fast_clock = span_from (left_at starts_fast story) m.tick;
  top_clock = span_from (left_at starts_top story) m.tick;
  reading = m;
}

-- The code that an event leads to: a reading by the rules, a reset and a hold to the suspended charger (a hold leaves
-- a battery error), and nothing else anywhere.
abbrev pub leads : Draft → Event → List Event → List Moment → Code
leads d (took m) es story = next d (facts_at d m es story) (code_now story)
leads d (wrote b) es story = cond b Suspend (code_now story)
leads d hold es story = suspended (code_now story)
leads d release es story = code_now story

-- The story that follows from the settings and from what happened alone.
abbrev pub story_of : Draft → List Event → List Moment
story_of d [] = []
story_of d (e ∷ es) = record { event = e; code = leads d e es (story_of d es) } ∷ story_of d es

-- What the program keeps is what the story tells, whatever happened.
pub record Follows (d : Draft) (es : List Event) (c : Charger) : Type 0 where
  pub settings : c.settings ≡ d
  pub code : c.code ≡ code_now (story_of d es)
  pub reset : c.reset ≡ reset_bit es
  pub held : c.held ≡ hold_out es
  pub input : c.input_good ≡ input_good (readings es)
  pub over : c.over_voltage ≡ over_voltage d (readings es)
  pub heat : c.hot.first ≡ first_tick (run_of too_hot (readings es))
  pub newest : c.hot.last ≡ newest_tick (readings es)
  pub hot : span_of c.hot ≡ hot_clock (readings es)
  pub pre : c.clocks.pre.since ≡ left_at starts_pre (story_of d es)
  pub fast : c.clocks.fast.since ≡ left_at starts_fast (story_of d es)
  pub top : c.clocks.top.since ≡ left_at starts_top (story_of d es)

abbrev pub TheChargerFollowsItsHistory : Type 0
TheChargerFollowsItsHistory = (d : Draft) (es : List Event) → Follows d es (after d es)
