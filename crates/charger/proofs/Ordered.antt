-- Which group of rules decides.
use Rattle.std.proofs.Common.{◌≡◌, ℕ, true, false, leb, ◌⊎◌, List, [], ◌∷◌, Some, Option, sym, refl, ap, subst, inl, inr, ⊎_elim}
use Rattle.std.proofs.Math.Bool.{and-false}
use Rattle.std.proofs.lemmas.Bool.{cases_Bool, eqb-true}
use Rattle.std.specs.List.{AllByRecursion, find}
use Rattle.std.specs.Prelude.{◌==◌}
use Rattle.charger.specs.Codes.{byte_of, same}
use Rattle.charger.specs.Rules.{Facts, among, barred, outside, heat_rules, hot_limit, range_rules, first_fit, next}
use Rattle.charger.specs.declared.Code.{Code}
use Rattle.charger.specs.declared.Code.TheVariants.{Suspend, TrickleCharge, PreCharge, FastCharge, BatDet, TopOff, Done, TempErr1, TempErr2, TempErr3, TempErr4, TempErr5, BattAssist1, BattAssist2, BattAssist3, BattError}
use Rattle.charger.specs.declared.settings.Draft.{Draft}

-- all codes; each is found by its number
abbrev codes : List Code
codes = Suspend ∷ TrickleCharge ∷ PreCharge ∷ FastCharge ∷ BatDet ∷ TopOff ∷ Done ∷ TempErr1 ∷ TempErr2 ∷ TempErr3 ∷ TempErr4 ∷ TempErr5 ∷ BattAssist1 ∷ BattAssist2 ∷ BattAssist3 ∷ BattError ∷ []

abbrev code_of : ℕ → Option Code
code_of n = find (λ c. byte_of c == n) codes

coded : (c : Code) → code_of (byte_of c) ≡ Some c
coded Suspend = refl
coded TrickleCharge = refl
coded PreCharge = refl
coded FastCharge = refl
coded BatDet = refl
coded TopOff = refl
coded Done = refl
coded TempErr1 = refl
coded TempErr2 = refl
coded TempErr3 = refl
coded TempErr4 = refl
coded TempErr5 = refl
coded BattAssist1 = refl
coded BattAssist2 = refl
coded BattAssist3 = refl
coded BattError = refl

same_is : (x y : Code) → same x y ≡ true → x ≡ y
same_is x y e = let found = ap code_of (eqb-true _ _ e) in cc (coded x, coded y)

-- a code is the battery error, or it is not
pub error_or_not : (c : Code) → (c ≡ BattError) ⊎ (same c BattError ≡ false)
error_or_not c = ⊎_elim (λ y. inl (same_is c BattError y)) inr (cases_Bool (same c BattError))

no_error_lem : (c : Code) → (c ≡ BattError → ⊥) → same c BattError ≡ false
no_error_lem c h = ⊎_elim (λ e. absurd (h e)) (λ n. n) (error_or_not c)

-- what holds of each code in a list holds of a code among them
pub each : (P : Code → Type 0) (cs : List Code) (c : Code) → among cs c ≡ true → AllByRecursion P cs → P c
each P [] c a ps = cc
each P (x ∷ xs) c a ps =
    ⊎_elim
    (λ y. subst P (sym (same_is c x y)) ps.0)
    (λ n. let later : among xs c ≡ true = rw n at a in each P xs c later ps.1)
    (cases_Bool (same c x))

module _ (d : Draft) (f : Facts) (c : Code) where
  pub when_reset : f.reset ≡ true → next d f c ≡ Suspend
  when_reset r = rw r refl

  pub when_error : f.reset ≡ false → c ≡ BattError → next d f c ≡ BattError
  when_error r e = rw (r, e) refl

  pub when_barred : f.reset ≡ false → (c ≡ BattError → ⊥) → barred f ≡ true → next d f c ≡ Suspend
  when_barred r h b = rw (r, no_error_lem c h, b) refl

  -- out of range, the rules on heat decide
  pub when_outside : f.reset ≡ false → (c ≡ BattError → ⊥) → barred f ≡ false → outside f.reading ≡ true → next d f c ≡ first_fit (heat_rules true (leb hot_limit f.hot_clock)) c
  when_outside r h b o = rw (r, no_error_lem c h, b, o) refl

  -- within it, they say nothing
  pub when_inside : f.reset ≡ false → (c ≡ BattError → ⊥) → barred f ≡ false → outside f.reading ≡ false → next d f c ≡ first_fit (range_rules d f) c
  when_inside r h b o = rw (r, no_error_lem c h, b, o) (simp and-false refl)
