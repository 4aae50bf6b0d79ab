-- A condition is kept exactly while it lasts.
use Rattle.std.proofs.Common.{◌≡◌, ◌-◌, Bool, true, false, cond, not, List, [], ◌∷◌, ◌++◌, sym, refl, ap, ◌∙◌, inl, inr, ⊎_elim, arith}
use Rattle.std.proofs.lemmas.Bool.{and_parts, cases_Bool, cond-true, cond-false, leb-true, ltb-true, not_from_false, not-true, or_cases, true≢false}
use Rattle.reading.specs.declared.Measured.{Measured}
use Rattle.watch.specs.Histories.{Each}
use Rattle.charger.specs.Conditions.{turned}
use Rattle.charger.specs.Histories.{lasts}
use Rattle.charger.specs.Laws.{Lasting, ConditionsEnd150MVAway, ConditionsLast}
use Rattle.charger.proofs.Following.{follows}

module _ (begins ends : Measured → Bool) where
  -- one reading more that does not end it
  on : (m : Measured) (ms : List Measured) → ends m ≡ false → Lasting begins ends ms → Lasting begins ends (m ∷ ms)
  on m ms n l = record { newer = m ∷ l.newer; first = l.first; older = l.older; order = ap (λ x. m ∷ x) l.order; began = l.began; unended = (not_from_false _ n, l.unended) }

  pub lasting : (ms : List Measured) → lasts begins ends ms ≡ true → Lasting begins ends ms
  lasting [] e = cc
  lasting (m ∷ ms) e =
      ⊎_elim
      (λ b. record { newer = []; first = m; older = ms; order = refl; began = b; unended = tt })
      (λ b. let rest : cond (ends m) false (lasts begins ends ms) ≡ true = sym (cond-false _ _ _ b) ∙ e in
      ⊎_elim
      (λ n. absurd (true≢false (sym rest ∙ cond-true _ _ _ n)))
      (λ n. on m ms n (lasting ms (sym (cond-false _ _ _ n) ∙ rest)))
      (cases_Bool (ends m)))
      (cases_Bool (begins m))

  -- a reading that does not end it keeps it
  keeps : (m : Measured) (was : Bool) → ends m ≡ false → was ≡ true → turned begins ends m was ≡ true
  keeps m was n w = elim (begins m) as (λ b. cond b true (cond (ends m) false was) ≡ true) [ true ↦ refl | false ↦ cond-false _ _ _ n ∙ w ]

  since : (newer : List Measured) (first : Measured) (older : List Measured) → begins first ≡ true → Each (λ m. not (ends m)) newer → lasts begins ends (newer ++ (first ∷ older)) ≡ true
  since [] first older b u = cond-true _ _ _ b
  since (m ∷ ms) first older b u = keeps m _ (not-true _ u.0) (since ms first older b u.1)

  pub lasted : (ms : List Measured) → Lasting begins ends ms → lasts begins ends ms ≡ true
  lasted ms l = ap (lasts begins ends) l.order ∙ since l.newer l.first l.older l.began l.unended

-- both conditions end 150 mV away from where they begin
pub apart : ConditionsEnd150MVAway
apart d m n = record {
  input = λ b e.
      let within = and_parts _ _ b in
      let low = leb-true 3800 m.dcin within.0 in
      let top = leb-true m.dcin 6349 within.1 in
      ⊎_elim
      (λ l. let under = ltb-true n.dcin 3650 l in inl (omega arith))
      (λ h. let over = ltb-true 6500 n.dcin h in inr (omega arith))
      (or_cases _ _ e);
  over = λ b e.
      let begun = ltb-true d.vbat_ovp.0 m.vbat b in
      let ended = ltb-true n.vbat (d.vbat_ovp.0 - 150) e in
      omega arith;
}

pub conditions : ConditionsLast
conditions d es =
    let k = follows d es in
    (λ e. lasting _ _ _ (sym k.input ∙ e), λ l. k.input ∙ lasted _ _ _ l, λ e. lasting _ _ _ (sym k.over ∙ e), λ l. k.over ∙ lasted _ _ _ l)
