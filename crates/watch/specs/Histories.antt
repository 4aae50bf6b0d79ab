-- An alarm over its whole history, and the law that its bit tells of a run.
use Rattle.std.specs.Prelude.{◌≡◌, ℕ, ◌-◌, ◌<◌, ◌≤◌, Bool, true, cond, List, [], ◌∷◌, ◌++◌, Some, None, Option}
use Rattle.reading.specs.declared.Measured.{Measured}
use Rattle.watch.specs.declared.Alarm.{Alarm}
use Rattle.watch.specs.declared.Run.{Run}
use Rattle.watch.specs.Rule.{fresh, seen, span_of, made, sensed, rethresholded, retimed}

-- What happens to an alarm: a good reading, or a write of its threshold or its duration.
pub data Event (T : Type 0) : Type 0 where
  took : Measured → Event T
  threshold : T → Event T
  duration : ℕ → Event T

-- Histories have the newest event in front.
module _ {T : Type 0} where
  -- The alarm after a history, by the rule.
  abbrev pub after : (T → Measured → Bool) → Alarm T → List (Event T) → Alarm T
  after p a [] = a
  after p a (took m ∷ es) = sensed p m (after p a es)
  after p a (threshold t ∷ es) = rethresholded t (after p a es)
  after p a (duration d ∷ es) = retimed d (after p a es)

  -- A run after readings, the newest in front, by the rule.
  abbrev pub seen_all : (T → Measured → Bool) → T → List Measured → Run T
  seen_all p t [] = fresh t
  seen_all p t (m ∷ ms) = seen p m (seen_all p t ms)

  -- The threshold that was written last, or else the first one.
  abbrev pub threshold_after : T → List (Event T) → T
  threshold_after t [] = t
  threshold_after t (took m ∷ es) = threshold_after t es
  threshold_after t (threshold u ∷ es) = u
  threshold_after t (duration d ∷ es) = threshold_after t es

  -- The duration likewise.
  abbrev pub duration_after : ℕ → List (Event T) → ℕ
  duration_after d [] = d
  duration_after d (took m ∷ es) = duration_after d es
  duration_after d (threshold u ∷ es) = duration_after d es
  duration_after d (duration e ∷ es) = e

  -- The readings since the last write of either, the newest in front.
  abbrev pub since : List (Event T) → List Measured
  since [] = []
  since (took m ∷ es) = m ∷ since es
  since (threshold u ∷ es) = []
  since (duration e ∷ es) = []

-- The ticks do not fall.
abbrev pub InOrder : List Measured → Type 0
InOrder [] = Unit {0}
InOrder (m ∷ []) = Unit {0}
InOrder (m ∷ n ∷ ms) = (n.tick ≤ m.tick) × InOrder (n ∷ ms)

abbrev pub Each : (Measured → Bool) → List Measured → Type 0
Each past [] = Unit {0}
Each past (m ∷ ms) = (past m ≡ true) × Each past ms

-- The first reading of a run with this newest reading and these older ones.
abbrev pub first_of : Measured → List Measured → Measured
first_of m [] = m
first_of m (n ∷ ns) = first_of n ns

-- The longest run that ends now: from the newest reading back to the last one that is not past.
abbrev pub run_of : (Measured → Bool) → List Measured → List Measured
run_of past [] = []
run_of past (m ∷ ms) = cond (past m) (m ∷ run_of past ms) []

-- The tick of a run's first reading.
abbrev pub first_tick : List Measured → Option ℕ
first_tick [] = None
first_tick (m ∷ ms) = Some (first_of m ms).tick

-- The ticks from a run's first reading to its last, 0 without one.
abbrev pub spanned : List Measured → ℕ
spanned [] = 0
spanned (m ∷ ms) = m.tick - (first_of m ms).tick

-- There is an unbroken run of past readings that ends with the newest and spans at least a duration.
pub record LongRun (past : Measured → Bool) (d : ℕ) (readings : List Measured) : Type 0 where
  pub newest : Measured
  pub older : List Measured
  pub before : List Measured
  pub unbroken : readings ≡ newest ∷ (older ++ before)
  pub all_past : Each past (newest ∷ older)
  pub long : d ≤ newest.tick - (first_of newest older).tick

-- An alarm's bit is one if and only if there is such a run among the readings since its last write. p tells which
-- readings are past a threshold.
abbrev pub TheBitTellsOfARun : {T : Type 0} → (T → Measured → Bool) → Type 0
TheBitTellsOfARun {T} p =
    (t : T) (d : ℕ) (es : List (Event T)) → InOrder (since es)
    → ((after p (made t d) es).bit ≡ true → LongRun (p (threshold_after t es)) (duration_after d es) (since es))
    × (LongRun (p (threshold_after t es)) (duration_after d es) (since es) → (after p (made t d) es).bit ≡ true)

-- What a run keeps tells of the longest run that ends now: the tick of its first reading, and its span. Where the span
-- is at least so many ticks, above 0, there is an unbroken run that long; where ticks do not fall, no run is longer.
pub record Longest {T : Type 0} (p : T → Measured → Bool) (t : T) (ms : List Measured) : Type 0 where
  pub first : (seen_all p t ms).first ≡ first_tick (run_of (p t) ms)
  pub span : span_of (seen_all p t ms) ≡ spanned (run_of (p t) ms)
  pub long : (d : ℕ) → 0 < d → d ≤ span_of (seen_all p t ms) → LongRun (p t) d ms
  pub short : (d : ℕ) → InOrder ms → LongRun (p t) d ms → d ≤ span_of (seen_all p t ms)

abbrev pub ARunIsTheLongest : {T : Type 0} → (T → Measured → Bool) → Type 0
ARunIsTheLongest {T} p = (t : T) (ms : List Measured) → Longest p t ms
