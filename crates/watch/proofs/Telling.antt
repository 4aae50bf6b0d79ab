-- What an alarm's bit tells: the longest run of past readings since the last write.
use Rattle.std.proofs.Common.{◌≡◌, ℕ, Bool, List, [], ◌∷◌, sym, refl, ◌∙◌}
use Rattle.reading.specs.declared.Measured.{Measured}
use Rattle.watch.specs.declared.Alarm.{Alarm}
use Rattle.watch.specs.Histories.{Event, took, threshold, duration, after, threshold_after, duration_after, since, first_tick, run_of, TheBitTellsOfARun}
use Rattle.watch.specs.Rule.{made}
use Rattle.watch.proofs.Longest.{long, first_more, span_of_lem, long_run, run_long}

module _ {T : Type 0} (p : T → Measured → Bool) (t : T) (d : ℕ) where
  -- the longest run after a history
  abbrev run_after : List (Event T) → List Measured
  run_after es = run_of (p (threshold_after t es)) (since es)

  -- what an alarm keeps, in the words of its history
  record Keeps (es : List (Event T)) (a : Alarm T) : Type 0 where
    pub limit : a.run.threshold ≡ threshold_after t es
    pub time : a.duration ≡ duration_after d es
    pub start : a.run.first ≡ first_tick (run_after es)
    pub tells : a.bit ≡ long (duration_after d es) (run_after es)

  keeps : (es : List (Event T)) → Keeps es (after p (made t d) es)
  keeps [] = record { limit = refl; time = refl; start = refl; tells = refl }
  keeps (took m ∷ es) =
      let a = after p (made t d) es in
      let k = keeps es in
      let u = threshold_after t es in
      let run = run_of (p u) (m ∷ since es) in
      let start : (after p (made t d) (took m ∷ es)).run.first ≡ first_tick run = rw (k.limit, k.start) (first_more (p u) m (since es)) in
      record {
        limit = k.limit;
        time = k.time;
        start = start;
        tells = rw (start, span_of_lem (p u) m (since es), k.time) refl;
      }
  keeps (threshold u ∷ es) = record { limit = refl; time = (keeps es).time; start = refl; tells = refl }
  keeps (duration e ∷ es) = record { limit = (keeps es).limit; time = refl; start = refl; tells = refl }

pub tells : {T : Type 0} (p : T → Measured → Bool) → TheBitTellsOfARun p
tells p t d es o =
    let k = (keeps p t d es).tells in
    let past = p (threshold_after t es) in
    (λ b. long_run past (duration_after d es) (since es) (sym k ∙ b), λ r. k ∙ run_long past (duration_after d es) (since es) o r)
