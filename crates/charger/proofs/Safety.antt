-- A battery error waits for a reset, and a current is driven only where it is safe.
use Rattle.std.proofs.Common.{◌≡◌, ℕ, ◌<◌, min, Bool, true, false, cond, not, ◌&&◌, ◌||◌, T, leb, ◌⊎◌, List, [], ◌∷◌, pos, ◌≤ℤ◌, sym, refl, ap, ◌∙◌, subst, inl, inr, ⊎_elim, arith}
use lib.Signed.{lt_z, lt_z_no}
use Rattle.std.proofs.Math.Bool.{and-true, or-false}
use Rattle.std.proofs.lemmas.Bool.{both_ways, cases_Bool, cond-true, not-false, not_from_false, or_parts, or_right, true≢false}
use Rattle.reading.specs.declared.Measured.{Measured}
use Rattle.charger.specs.Chargers.{suspended}
use Rattle.charger.specs.Codes.{asked, same}
use Rattle.charger.specs.Histories.{Event, took, wrote, hold, release, code_now, facts_at, readings, reset_bit, story_of}
use Rattle.charger.specs.Laws.{Safe, charges, erred, ABatteryErrorWaitsForAReset, ItDrivesOnlyWhereItIsSafe}
use Rattle.charger.specs.Rules.{Facts, barred, outside, heat_rules, hot_limit, first_fit, next}
use Rattle.charger.specs.declared.Code.{Code}
use Rattle.charger.specs.declared.Code.TheVariants.{Suspend, TrickleCharge, PreCharge, FastCharge, BatDet, TopOff, Done, TempErr1, TempErr2, TempErr3, TempErr4, TempErr5, BattAssist1, BattAssist2, BattAssist3, BattError}
use Rattle.charger.specs.declared.settings.Draft.{Draft}
use Rattle.charger.proofs.Following.{follows}
use Rattle.charger.proofs.Lasting.{lasting, lasted}
use Rattle.charger.proofs.Ordered.{error_or_not, when_reset, when_error, when_barred, when_outside}

-- only the charging codes ask for a current
asked_charges : (d : Draft) (c : Code) (n : ℕ) → 0 < min (asked d c) n → charges c ≡ true
asked_charges d Suspend n h = absurd (omega arith)
asked_charges d TrickleCharge n h = refl
asked_charges d PreCharge n h = refl
asked_charges d FastCharge n h = refl
asked_charges d BatDet n h = absurd (omega arith)
asked_charges d TopOff n h = refl
asked_charges d Done n h = absurd (omega arith)
asked_charges d TempErr1 n h = absurd (omega arith)
asked_charges d TempErr2 n h = absurd (omega arith)
asked_charges d TempErr3 n h = absurd (omega arith)
asked_charges d TempErr4 n h = absurd (omega arith)
asked_charges d TempErr5 n h = absurd (omega arith)
asked_charges d BattAssist1 n h = absurd (omega arith)
asked_charges d BattAssist2 n h = absurd (omega arith)
asked_charges d BattAssist3 n h = absurd (omega arith)
asked_charges d BattError n h = absurd (omega arith)

-- out of range no code charges
heat_off : (long : Bool) (c : Code) → charges (first_fit (heat_rules true long) c) ≡ false
heat_off long Suspend = refl
heat_off long TrickleCharge = refl
heat_off long PreCharge = refl
heat_off long FastCharge = refl
heat_off long BatDet = refl
heat_off long TopOff = refl
heat_off long Done = refl
heat_off long TempErr1 = elim long as (λ b. charges (cond b BattError TempErr1) ≡ false) [ true ↦ refl | false ↦ refl ]
heat_off long TempErr2 = elim long as (λ b. charges (cond b BattError TempErr2) ≡ false) [ true ↦ refl | false ↦ refl ]
heat_off long TempErr3 = refl
heat_off long TempErr4 = refl
heat_off long TempErr5 = elim long as (λ b. charges (cond b BattError TempErr5) ≡ false) [ true ↦ refl | false ↦ refl ]
heat_off long BattAssist1 = refl
heat_off long BattAssist2 = refl
heat_off long BattAssist3 = refl
heat_off long BattError = refl

-- nor does the battery error, nor a code that a hold left
charges_no_error : (c : Code) → charges c ≡ true → same c BattError ≡ false
charges_no_error c h = ⊎_elim (λ e. absurd (true≢false (sym h ∙ ap charges e))) (λ n. n) (error_or_not c)

suspended_off : (c : Code) → charges (suspended c) ≡ false
suspended_off c = ⊎_elim (λ e. rw e refl) (λ n. rw n refl) (error_or_not c)

suspended_same : (c : Code) → same (suspended c) BattError ≡ same c BattError
suspended_same c = ⊎_elim (λ e. rw e refl) (λ n. rw n refl) (error_or_not c)

-- what a reading says that led to a charging code
pub record Free (f : Facts) : Type 0 where
  pub reset : f.reset ≡ false
  pub bar : barred f ≡ false
  pub range : outside f.reading ≡ false

pub no_charge : {P : Type 0} (c x : Code) → charges c ≡ true → c ≡ x → charges x ≡ false → P
no_charge c x h e n = absurd (true≢false (sym h ∙ ap charges e ∙ n))

module _ (d : Draft) (f : Facts) (c : Code) (h : charges (next d f c) ≡ true) where
  free_of_heat : f.reset ≡ false → (c ≡ BattError → ⊥) → barred f ≡ false → Free f
  free_of_heat r n b =
      ⊎_elim
      (λ o. no_charge _ _ h (when_outside d f c r n b o) (heat_off (leb hot_limit f.hot_clock) c))
      (λ o. record { reset = r; bar = b; range = o })
      (cases_Bool (outside f.reading))

  free_of_bar : f.reset ≡ false → (c ≡ BattError → ⊥) → Free f
  free_of_bar r n = ⊎_elim (λ b. no_charge _ _ h (when_barred d f c r n b) refl) (free_of_heat r n) (cases_Bool (barred f))

  free_of_error : f.reset ≡ false → Free f
  free_of_error r = free_of_bar r (λ e. no_charge _ _ h (when_error d f c r e) refl)

  pub free : Free f
  free = ⊎_elim (λ r. no_charge _ _ h (when_reset d f c r) refl) free_of_error (cases_Bool f.reset)

-- while the reset bit is one, the charger is suspended
reset_suspends : (d : Draft) (es : List Event) → reset_bit es ≡ true → code_now (story_of d es) ≡ Suspend
reset_suspends d [] r = cc
reset_suspends d (took m ∷ es) r = when_reset d (facts_at d m es (story_of d es)) (code_now (story_of d es)) r
reset_suspends d (wrote b ∷ es) r = cond-true _ _ _ r
reset_suspends d (hold ∷ es) r = ap suspended (reset_suspends d es r)
reset_suspends d (release ∷ es) r = reset_suspends d es r

error_unreset : (d : Draft) (es : List Event) → code_now (story_of d es) ≡ BattError → reset_bit es ≡ false
error_unreset d es e = ⊎_elim (λ r. cc (e, reset_suspends d es r)) (λ r. r) (cases_Bool (reset_bit es))

error_stays : (d : Draft) (m : Measured) (es : List Event) → code_now (story_of d es) ≡ BattError → code_now (story_of d (took m ∷ es)) ≡ BattError
error_stays d m es e = when_error d (facts_at d m es (story_of d es)) (code_now (story_of d es)) (error_unreset d es e) e

erred_is : (d : Draft) (es : List Event) → erred (story_of d es) ≡ same (code_now (story_of d es)) BattError
erred_is d [] = refl
erred_is d (took m ∷ es) =
    let old = code_now (story_of d es) in
    let new = code_now (story_of d (took m ∷ es)) in
    ⊎_elim
    (λ e. or_right _ _ (erred_is d es ∙ ap (λ x. same x BattError) e) ∙ sym (ap (λ x. same x BattError) (error_stays d m es e)))
    (λ n. ap (λ x. (same new BattError && not x) || erred (story_of d es)) n ∙ ap (λ x. (same new BattError && true) || x) (erred_is d es ∙ n) ∙ or-false _ ∙ and-true _)
    (error_or_not old)
erred_is d (wrote b ∷ es) = elim b as (λ x. cond x false (erred (story_of d es)) ≡ same (cond x Suspend (code_now (story_of d es))) BattError) [ true ↦ refl | false ↦ erred_is d es ]
erred_is d (hold ∷ es) = erred_is d es ∙ sym (suspended_same (code_now (story_of d es)))
erred_is d (release ∷ es) = erred_is d es

-- an event that is no reset leaves the battery error
error_kept : (d : Draft) (es : List Event) (e : Event) → code_now (story_of d es) ≡ BattError → (code_now (story_of d (e ∷ es)) ≡ BattError) ⊎ (e ≡ wrote true)
error_kept d es (took m) h = inl (error_stays d m es h)
error_kept d es (wrote true) h = inr refl
error_kept d es (wrote false) h = inl h
error_kept d es hold h = inl (ap suspended h)
error_kept d es release h = inl h

pub waits : ABatteryErrorWaitsForAReset
waits d es =
    let code = (follows d es).code in
    record {
      stands = ap (λ c. same c BattError) code ∙ sym (erred_is d es);
      left = refl;
      kept = λ e h. ⊎_elim (λ k. inl ((follows d (e ∷ es)).code ∙ k)) inr (error_kept d es e (sym code ∙ h));
    }

-- the numbers behind the tests on a temperature
at_least : (m : Measured) → lt_z m.temp (pos 2) ≡ false → pos 2 ≤ℤ m.temp
at_least m e = lt_z_no (subst T (sym (not_from_false _ e)) tt)

at_most : (m : Measured) → lt_z (pos 58) m.temp ≡ false → m.temp ≤ℤ pos 58
at_most m e = lt_z_no (subst T (sym (not_from_false _ e)) tt)

safe_reading : (d : Draft) (m : Measured) (es : List Event) → charges (code_now (story_of d (took m ∷ es))) ≡ true → Safe d (took m ∷ es) (code_now (story_of d (took m ∷ es)))
safe_reading d m es h =
    let f = free d (facts_at d m es (story_of d es)) (code_now (story_of d es)) h in
    let bars = or_parts _ _ f.bar in
    let measured = or_parts _ _ bars.0 in
    let range = or_parts _ _ f.range in
    record {
      charging = h;
      newest = m;
      older = readings es;
      taken = refl;
      input = lasting _ _ _ (not-false _ measured.0);
      no_over_voltage = λ l. both_ways _ measured.1 (lasted _ _ _ l);
      warm = at_least m range.0;
      cool = at_most m range.1;
      no_hold = bars.1;
      no_reset = f.reset;
      no_error = erred_is d (took m ∷ es) ∙ charges_no_error _ h;
    }

safe : (d : Draft) (es : List Event) → charges (code_now (story_of d es)) ≡ true → Safe d es (code_now (story_of d es))
safe d [] h = cc
safe d (took m ∷ es) h = safe_reading d m es h
safe d (wrote true ∷ es) h = cc
safe d (wrote false ∷ es) h =
    let s = safe d es h in
    record { charging = h; newest = s.newest; older = s.older; taken = s.taken; input = s.input; no_over_voltage = s.no_over_voltage; warm = s.warm; cool = s.cool; no_hold = s.no_hold; no_reset = refl; no_error = s.no_error }
safe d (hold ∷ es) h = absurd (true≢false (sym h ∙ suspended_off (code_now (story_of d es))))
safe d (release ∷ es) h =
    let s = safe d es h in
    record { charging = h; newest = s.newest; older = s.older; taken = s.taken; input = s.input; no_over_voltage = s.no_over_voltage; warm = s.warm; cool = s.cool; no_hold = refl; no_reset = s.no_reset; no_error = s.no_error }

pub drives : ItDrivesOnlyWhereItIsSafe
drives d es n h =
    let code = (follows d es).code in
    subst (Safe d es) (sym code) (safe d es (sym (ap charges code) ∙ asked_charges d _ n h))
