-- What one reading, or one write, does to a run and to an alarm.
use Rattle.std.specs.Prelude.{ℕ, ◌-◌, Bool, false, cond, ◌&&◌, is_some, Some, None, Option, nat_le}
use Rattle.std.specs.Option.{unwrap_or}
use Rattle.reading.specs.declared.Measured.{Measured}
use Rattle.watch.specs.declared.Alarm.{Alarm}
use Rattle.watch.specs.declared.Run.{Run}

-- The ticks from a run's first reading to its last, 0 without a run.
abbrev pub span_from : Option ℕ → ℕ → ℕ
span_from None last = 0
span_from (Some first) last = last - first

-- p tells which readings are past a threshold.
module _ {T : Type 0} where
  abbrev pub fresh : T → Run T
  fresh t = record { threshold = t; first = None; last = 0 }

  -- A reading that is past begins a run or carries it on; any other ends it.
  abbrev pub seen : (T → Measured → Bool) → Measured → Run T → Run T
  seen p m r = record {
    threshold = r.threshold;
    first = cond (p r.threshold m) (Some (unwrap_or r.first m.tick)) None;
    last = m.tick;
  }

  abbrev pub span_of : Run T → ℕ
  span_of r = span_from r.first r.last

  abbrev pub made : T → ℕ → Alarm T
  made t d = record { run = fresh t; duration = d; bit = false }

  -- The bit is one if the run that ends now spans at least the duration.
  abbrev pub sensed : (T → Measured → Bool) → Measured → Alarm T → Alarm T
  sensed p m a = record {
    run = seen p m a.run;
    duration = a.duration;
    bit = is_some (seen p m a.run).first && nat_le a.duration (span_of (seen p m a.run));
  }

  abbrev pub rethresholded : T → Alarm T → Alarm T
  rethresholded t a = made t a.duration

  abbrev pub retimed : ℕ → Alarm T → Alarm T
  retimed d a = made a.run.threshold d
