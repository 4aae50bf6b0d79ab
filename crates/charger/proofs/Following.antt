-- What the program keeps is what the story tells.
use Rattle.std.proofs.Common.{◌≡◌, ℕ, Bool, true, false, cond, List, [], ◌∷◌, Some, None, Option, unwrap_or, refl, ap, ◌∙◌}
use Rattle.reading.specs.declared.Measured.{Measured}
use Rattle.watch.proofs.Longest.{first_more, span_of_lem}
use Rattle.watch.specs.Histories.{first_tick, run_of}
use Rattle.watch.specs.Levels.{too_hot}
use Rattle.watch.specs.Rule.{span_from, span_of}
use Rattle.charger.specs.Chargers.{sensed, facts_of, ordered_by, taking, suspended}
use Rattle.charger.specs.Conditions.{turned, input_begins, input_ends, over_begins, over_ends}
use Rattle.charger.specs.Histories.{Event, took, wrote, hold, release, Follows, after, code_now, facts_at, hot_clock, input_good, over_voltage, readings, story_of, TheChargerFollowsItsHistory}
use Rattle.charger.specs.Rules.{next}
use Rattle.charger.specs.Timing.{restarted, starts_pre, starts_fast, starts_top}
use Rattle.charger.specs.declared.Charger.{Charger}
use Rattle.charger.specs.declared.Clock.{Clock}
use Rattle.charger.specs.declared.Code.{Code}
use Rattle.charger.specs.declared.Code.TheVariants.{Suspend}
use Rattle.charger.specs.declared.settings.Draft.{Draft}

-- a clock that a change of code may start anew
moved : (starts : Code → Code → Bool) (old new old2 new2 : Code) (tick : ℕ) (clock : Clock) (o : Option ℕ) → old ≡ old2 → new ≡ new2 → clock.since ≡ o → (restarted starts old new tick clock).since ≡ cond (starts old2 new2) (Some tick) o
moved starts old new old2 new2 tick clock o p q r =
    (λ i. (restarted starts (p i) (q i) tick clock).since)
    ∙ elim (starts old2 new2) as (λ b. (cond b (record { since = Some tick }) clock).since ≡ cond b (Some tick) o) [ true ↦ refl | false ↦ r ]

module _ (d : Draft) (m : Measured) (es : List Event) (c : Charger) (k : Follows d es c) where
  input_more : (sensed m c).input_good ≡ input_good (m ∷ readings es)
  input_more = ap (turned input_begins input_ends m) k.input

  over_more : (sensed m c).over_voltage ≡ over_voltage d (m ∷ readings es)
  over_more = λ i. turned (over_begins (k.settings i)) (over_ends (k.settings i)) m (k.over i)

  heat_more : (sensed m c).hot.first ≡ first_tick (run_of too_hot (m ∷ readings es))
  heat_more = ap (λ o. cond (too_hot m) (Some (unwrap_or o m.tick)) None) k.heat ∙ first_more too_hot m (readings es)

  hot_more : span_of (sensed m c).hot ≡ hot_clock (m ∷ readings es)
  hot_more = ap (λ o. span_from o m.tick) heat_more ∙ span_of_lem too_hot m (readings es)

  facts_more : facts_of (sensed m c) m ≡ facts_at d m es (story_of d es)
  facts_more = rw (k.reset, k.held, input_more, over_more, hot_more, k.pre, k.fast, k.top) refl

  code_more : ordered_by m c ≡ code_now (story_of d (took m ∷ es))
  code_more = λ i. next (k.settings i) (facts_more i) (k.code i)

  more : Follows d (took m ∷ es) (taking m c)
  more = record {
    settings = k.settings;
    code = code_more;
    reset = k.reset;
    held = k.held;
    input = input_more;
    over = over_more;
    heat = heat_more;
    newest = refl;
    hot = hot_more;
    pre = moved starts_pre _ _ _ _ m.tick c.clocks.pre _ k.code code_more k.pre;
    fast = moved starts_fast _ _ _ _ m.tick c.clocks.fast _ k.code code_more k.fast;
    top = moved starts_top _ _ _ _ m.tick c.clocks.top _ k.code code_more k.top;
  }

-- the other events leave all but the code, the reset bit and the hold
pub follows : TheChargerFollowsItsHistory
follows d [] = record { settings = refl; code = refl; reset = refl; held = refl; input = refl; over = refl; heat = refl; newest = refl; hot = refl; pre = refl; fast = refl; top = refl }
follows d (took m ∷ es) = more d m es (after d es) (follows d es)
follows d (wrote b ∷ es) =
    let k = follows d es in
    record { settings = k.settings; code = ap (cond b Suspend) k.code; reset = refl; held = k.held; input = k.input; over = k.over; heat = k.heat; newest = k.newest; hot = k.hot; pre = k.pre; fast = k.fast; top = k.top }
follows d (hold ∷ es) =
    let k = follows d es in
    record { settings = k.settings; code = ap suspended k.code; reset = k.reset; held = refl; input = k.input; over = k.over; heat = k.heat; newest = k.newest; hot = k.hot; pre = k.pre; fast = k.fast; top = k.top }
follows d (release ∷ es) =
    let k = follows d es in
    record { settings = k.settings; code = k.code; reset = k.reset; held = refl; input = k.input; over = k.over; heat = k.heat; newest = k.newest; hot = k.hot; pre = k.pre; fast = k.fast; top = k.top }
