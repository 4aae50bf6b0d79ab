-- The longest run that ends now: what a run keeps of it, and that no other is longer.
use Rattle.std.proofs.Common.{◌≡◌, ℕ, ◌-◌, ◌<◌, ◌≤◌, Bool, true, false, cond, ◌&&◌, leb, List, [], ◌∷◌, ◌++◌, is_some, Some, None, unwrap_or, sym, refl, ap, ◌∙◌, subst, arith}
use Rattle.std.proofs.lemmas.Bool.{cond_both, cond-true, le-leb, leb-true}
use Rattle.reading.specs.declared.Measured.{Measured}
use Rattle.watch.specs.Histories.{InOrder, Each, first_of, first_tick, run_of, seen_all, spanned, LongRun, ARunIsTheLongest}
use Rattle.watch.specs.Rule.{span_from, span_of}

-- a run with one reading more
carried : (m : Measured) (run : List Measured) → Some (unwrap_or (first_tick run) m.tick) ≡ first_tick (m ∷ run)
carried m [] = refl
carried m (n ∷ ns) = refl

-- there is a run, and it spans a duration
abbrev pub long : ℕ → List Measured → Bool
long d run = is_some (first_tick run) && leb d (spanned run)

long_span : (d : ℕ) (run : List Measured) → long d run ≡ true → d ≤ spanned run
long_span d [] h = cc
long_span d (m ∷ ms) h = leb-true d _ h

span_long : (d : ℕ) (run : List Measured) → 0 < d → d ≤ spanned run → long d run ≡ true
span_long d [] z h = absurd (omega arith)
span_long d (m ∷ ms) z h = le-leb d _ h

-- where ticks do not fall, a run that goes further back begins no later
early : (m : Measured) (ys zs : List Measured) → InOrder (m ∷ (ys ++ zs)) → (first_of m ys).tick ≤ m.tick
early m [] zs o = omega arith
early m (y ∷ ys) zs o = let h = early y ys zs o.1 in let g = o.0 in omega arith

earlier : (m : Measured) (xs ys zs : List Measured) → InOrder (m ∷ (xs ++ (ys ++ zs))) → (first_of m (xs ++ ys)).tick ≤ (first_of m xs).tick
earlier m [] ys zs o = early m ys zs o
earlier m (x ∷ xs) ys zs o = earlier x xs ys zs o.1

module _ (past : Measured → Bool) where
  -- one reading more carries the longest run on, begins one, or ends it
  pub first_more : (m : Measured) (ms : List Measured) → cond (past m) (Some (unwrap_or (first_tick (run_of past ms)) m.tick)) None ≡ first_tick (run_of past (m ∷ ms))
  first_more m ms =
      elim (past m) as (λ b. cond b (Some (unwrap_or (first_tick (run_of past ms)) m.tick)) None ≡ first_tick (cond b (m ∷ run_of past ms) []))
      [ true ↦ carried m (run_of past ms) | false ↦ refl ]

  -- the span is told from the first tick
  pub span_of_lem : (m : Measured) (ms : List Measured) → span_from (first_tick (run_of past (m ∷ ms))) m.tick ≡ spanned (run_of past (m ∷ ms))
  span_of_lem m ms =
      elim (past m) as (λ b. span_from (first_tick (cond b (m ∷ run_of past ms) [])) m.tick ≡ spanned (cond b (m ∷ run_of past ms) []))
      [ true ↦ refl | false ↦ refl ]

  -- the readings before the longest run
  rest : List Measured → List Measured
  rest [] = []
  rest (m ∷ ms) = cond (past m) (rest ms) (m ∷ ms)

  split : (ms : List Measured) → ms ≡ run_of past ms ++ rest ms
  unfolding rest
  split [] = refl
  split (m ∷ ms) =
      elim (past m) as (λ b. ◌≡◌ {A = List Measured} (m ∷ ms) (cond b (m ∷ run_of past ms) [] ++ cond b (rest ms) (m ∷ ms)))
      [ true ↦ ap (λ l. m ∷ l) (split ms) | false ↦ refl ]

  all : (ms : List Measured) → Each past (run_of past ms)
  all [] = tt
  all (m ∷ ms) = cond_both (past m) (m ∷ run_of past ms) [] (Each past) (λ y. (y, all ms)) (λ n. tt)

  -- past readings in front are part of it
  carries : (xs ys : List Measured) → Each past xs → run_of past (xs ++ ys) ≡ xs ++ run_of past ys
  carries [] ys e = refl
  carries (x ∷ xs) ys e = cond-true _ _ _ e.0 ∙ ap (λ l. x ∷ l) (carries xs ys e.1)

  found : (d : ℕ) (ms run before : List Measured) → ms ≡ run ++ before → Each past run → long d run ≡ true → LongRun past d ms
  found d ms [] before e a h = cc
  found d ms (n ∷ ns) before e a h = record { newest = n; older = ns; before = before; unbroken = e; all_past = a; long = leb-true d _ h }

  pub long_run : (d : ℕ) (ms : List Measured) → long d (run_of past ms) ≡ true → LongRun past d ms
  long_run d ms h = found d ms (run_of past ms) (rest ms) (split ms) (all ms) h

  pub run_long : (d : ℕ) (ms : List Measured) → InOrder ms → LongRun past d ms → long d (run_of past ms) ≡ true
  run_long d ms o r =
      let whole : ms ≡ r.newest ∷ (r.older ++ (run_of past r.before ++ rest r.before)) = r.unbroken ∙ ap (λ l. r.newest ∷ (r.older ++ l)) (split r.before) in
      let low = earlier r.newest r.older (run_of past r.before) (rest r.before) (subst InOrder whole o) in
      let far = r.long in
      let enough : d ≤ r.newest.tick - (first_of r.newest (r.older ++ run_of past r.before)).tick = omega arith in
      ap (λ l. long d (run_of past l)) r.unbroken
      ∙ ap (long d) (carries (r.newest ∷ r.older) r.before r.all_past)
      ∙ le-leb d _ enough

-- what a run keeps after some readings
first_is : {T : Type 0} (p : T → Measured → Bool) (t : T) (ms : List Measured) → ((seen_all p t ms).threshold ≡ t) × ((seen_all p t ms).first ≡ first_tick (run_of (p t) ms))
first_is p t [] = (refl, refl)
first_is p t (m ∷ ms) =
    let before = first_is p t ms in (before.0, rw (before.0, before.1) (first_more (p t) m ms))

span_is : {T : Type 0} (p : T → Measured → Bool) (t : T) (ms : List Measured) → span_of (seen_all p t ms) ≡ spanned (run_of (p t) ms)
span_is p t [] = refl
span_is p t (m ∷ ms) = rw (first_is p t (m ∷ ms)).1 (span_of_lem (p t) m ms)

pub longest : {T : Type 0} (p : T → Measured → Bool) → ARunIsTheLongest p
longest p t ms = record {
  first = (first_is p t ms).1;
  span = span_is p t ms;
  long = λ d z h. long_run (p t) d ms (span_long d _ z (subst (λ n. d ≤ n) (span_is p t ms) h));
  short = λ d o r. subst (λ n. d ≤ n) (sym (span_is p t ms)) (long_span d _ (run_long (p t) d ms o r));
}
