-- What a charger keeps, and what a reading, a reset or a hold makes of it.
use Rattle.std.specs.Prelude.{Bool, true, false, cond, List}
use Rattle.reading.specs.declared.Measured.{Measured}
use Rattle.watch.specs.Levels.{too_hot}
use Rattle.watch.specs.Rule.{fresh, seen, span_from, span_of}
use Rattle.charger.specs.Codes.{same}
use Rattle.charger.specs.Conditions.{turned, input_begins, input_ends, over_begins, over_ends}
use Rattle.charger.specs.Rules.{Facts, Rule, first_fit, next}
use Rattle.charger.specs.Timing.{stopped, started}
use Rattle.charger.specs.declared.Charger.{Charger}
use Rattle.charger.specs.declared.Code.{Code}
use Rattle.charger.specs.declared.Code.TheVariants.{Suspend, BattError}
use Rattle.charger.specs.declared.settings.Draft.{Draft}

-- What the rules look at, as the charger keeps it.
abbrev pub facts_of : Charger → Measured → Facts
facts_of c m = record {
  reset = c.reset;
  held = c.held;
  input_good = c.input_good;
  over_voltage = c.over_voltage;
  hot_clock = span_of c.hot;
  pre_clock = span_from c.clocks.pre.since m.tick;
  fast_clock = span_from c.clocks.fast.since m.tick;
  top_clock = span_from c.clocks.top.since m.tick;
  reading = m;
}

-- The same charger at another code, with another reset bit or another hold; all else stays.
abbrev pub changed : Code → Bool → Bool → Charger → Charger
changed code reset held c = record {
  settings = c.settings;
  code = code;
  reset = reset;
  held = held;
  input_good = c.input_good;
  over_voltage = c.over_voltage;
  hot = c.hot;
  clocks = c.clocks;
}

-- The same charger where some rules lead it.
abbrev pub led : List Rule → Charger → Charger
led rs c = changed (first_fit rs c.code) c.reset c.held c

-- A charger that has seen nothing.
abbrev pub made : Draft → Charger
made d = record {
  settings = d;
  code = Suspend;
  reset = false;
  held = false;
  input_good = false;
  over_voltage = false;
  hot = fresh (record {});
  clocks = stopped;
}

-- A reading begins or ends the conditions, and the hot clock sees it, before any rule is tried.
abbrev pub sensed : Measured → Charger → Charger
sensed m c = record {
  settings = c.settings;
  code = c.code;
  reset = c.reset;
  held = c.held;
  input_good = turned input_begins input_ends m c.input_good;
  over_voltage = turned (over_begins c.settings) (over_ends c.settings) m c.over_voltage;
  hot = seen (λ t. too_hot) m c.hot;
  clocks = c.clocks;
}

-- The code that the rules order for a reading.
abbrev pub ordered_by : Measured → Charger → Code
ordered_by m c = next c.settings (facts_of (sensed m c) m) c.code

-- One good reading: the conditions, then the rules, then the clocks that the change of code starts.
abbrev pub taking : Measured → Charger → Charger
taking m c = record {
  settings = c.settings;
  code = ordered_by m c;
  reset = c.reset;
  held = c.held;
  input_good = (sensed m c).input_good;
  over_voltage = (sensed m c).over_voltage;
  hot = (sensed m c).hot;
  clocks = started c.code (ordered_by m c) m.tick c.clocks;
}

-- The reset bit is written. Where it is written one, the charger is reset: it suspends at once.
abbrev pub resetting : Bool → Charger → Charger
resetting b c = changed (cond b Suspend c.code) b c.held c

-- A hold suspends the charger, but for a battery error.
abbrev pub suspended : Code → Code
suspended c = cond (same c BattError) c Suspend

abbrev pub holding_on : Charger → Charger
holding_on c = changed (suspended c.code) c.reset true c

-- A release ends the hold and nothing else.
abbrev pub letting_go : Charger → Charger
letting_go c = changed c.code c.reset false c
