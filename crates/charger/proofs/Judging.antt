-- A check tells what is wrong with a draft.
use Rattle.std.proofs.Common.{◌≡◌, Bool, true, false, cond, ◌⊎◌, List, [], ◌∷◌, ◌++◌, Some, None, Ok, Err, Option, Result, sym, refl, ap, ◌∙◌, subst, inl, inr, ⊎_elim}
use Rattle.std.proofs.lemmas.Bool.{cases_Bool, cond-true, cond-false}
use Rattle.std.specs.List.{AllByRecursion}
use Rattle.charger.specs.Checks.{FirstBad, InRanges, in_range, in_order, settings, first_bad, judged, checked, ACheckTellsWhatIsWrong}
use Rattle.charger.specs.declared.settings.Draft.{Draft}
use Rattle.charger.specs.declared.settings.Setting.{Setting}
use Rattle.charger.specs.declared.settings.SettingsFault.{SettingsFault}
use Rattle.charger.specs.declared.settings.SettingsFault.TheVariants.{OutOfRange, OutOfOrder}

module _ (d : Draft) where
  abbrev Good : Setting → Type 0
  Good q = in_range q d ≡ true

  -- either all are within their ranges, or there is a first that is not
  looked : (ss : List Setting) → ((first_bad d ss ≡ None) × AllByRecursion Good ss) ⊎ ((s : Setting) × (first_bad d ss ≡ Some s) × FirstBad d ss s)
  looked [] = inl (refl, tt)
  looked (q ∷ qs) =
      ⊎_elim
      (λ y. ⊎_elim
      (λ a. inl (rw y a.0, (y, a.1)))
      (λ b. inr (b.0, rw y b.1, record { earlier = q ∷ b.2.earlier; later = b.2.later; order = ap (λ l. q ∷ l) b.2.order; good = (y, b.2.good); bad = b.2.bad }))
      (looked qs))
      (λ n. inr (q, rw n refl, record { earlier = []; later = qs; order = refl; good = tt; bad = n }))
      (cases_Bool (in_range q d))

  first_at : (earlier later : List Setting) (s : Setting) → AllByRecursion Good earlier → in_range s d ≡ false → first_bad d (earlier ++ (s ∷ later)) ≡ Some s
  first_at [] later s g b = rw b refl
  first_at (q ∷ qs) later s g b = rw g.0 (first_at qs later s g.1 b)

  none_bad : (ss : List Setting) → AllByRecursion Good ss → first_bad d ss ≡ None
  none_bad [] g = refl
  none_bad (q ∷ qs) g = rw g.0 (none_bad qs g.1)

  -- what a check answers where all settings are within their ranges
  abbrev by_order : Bool → Result Draft SettingsFault
  by_order b = cond b (Ok d) (Err OutOfOrder)

  no_range : (b : Bool) (s : Setting) → by_order b ≡ Err (OutOfRange s) → ⊥
  no_range true s e = cc
  no_range false s e = cc

  is_order : (b : Bool) → by_order b ≡ Err OutOfOrder → b ≡ false
  is_order true e = cc
  is_order false e = refl

  is_good : (b : Bool) → by_order b ≡ Ok d → b ≡ true
  is_good true e = refl
  is_good false e = cc

  -- the answer, by what the search for the first bad setting found
  answer : (o : Option Setting) → first_bad d settings ≡ o → checked d ≡ judged o d
  answer o e = ap (λ x. judged x d) e

  tells_range_lem : (s : Setting) → checked d ≡ Err (OutOfRange s) → FirstBad d settings s
  tells_range_lem s h =
      ⊎_elim
      (λ a. absurd (no_range (in_order d) s (sym (answer None a.0) ∙ h)))
      (λ b. let found = answer (Some b.0) b.1 in let same : b.0 ≡ s = cc in subst (FirstBad d settings) same b.2)
      (looked settings)

  -- any other answer is one where all are within their ranges
  tells_other : (r : Result Draft SettingsFault) → ((s : Setting) → Err (OutOfRange s) ≡ r → ⊥) → checked d ≡ r → InRanges d × (by_order (in_order d) ≡ r)
  tells_other r n h =
      ⊎_elim
      (λ a. (a.1, sym (answer None a.0) ∙ h))
      (λ b. absurd (n b.0 (sym (answer (Some b.0) b.1) ∙ h)))
      (looked settings)

pub judges : ACheckTellsWhatIsWrong
judges d = record {
  numbers = refl;
  tells_range = tells_range_lem d;
  range = λ s f. answer d (Some s) (ap (first_bad d) f.order ∙ first_at d f.earlier f.later s f.good f.bad);
  tells_order = λ h. let t = tells_other d (Err OutOfOrder) (λ s e. cc) h in (t.0, is_order d (in_order d) t.1);
  order = λ g n. answer d None (none_bad d settings g) ∙ cond-false _ _ _ n;
  tells_good = λ h. let t = tells_other d (Ok d) (λ s e. cc) h in (t.0, is_good d (in_order d) t.1);
  good = λ g y. answer d None (none_bad d settings g) ∙ cond-true _ _ _ y;
}
