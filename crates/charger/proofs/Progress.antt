-- A charger charges where it may, and no code outlasts its clock.
use Rattle.std.proofs.Common.{◌≡◌, ℕ, ◌<◌, ◌≤◌, Bool, true, false, cond, not, ltb, leb, ◌⊎◌, List, [], ◌∷◌, pos, ◌≤ℤ◌, sym, refl, ap, ◌∙◌, inl, inr, ⊎_elim, arith}
use lib.Signed.{lt_z}
use Rattle.std.proofs.lemmas.Int.{ints}
use Rattle.std.proofs.lemmas.Bool.{cases_Bool, cond-true, cond-false, eq-eqb, leb-true, leb-false, not_from_true, or_from, true≢false}
use Rattle.reading.specs.declared.Measured.{Measured}
use Rattle.charger.specs.Codes.{byte_of, same}
use Rattle.charger.specs.Histories.{Event, took, code_now, facts_at, hold_out, over_voltage, readings, reset_bit, story_of}
use Rattle.charger.specs.Laws.{MayCharge, charges, ItChargesWhereItMay, NoCodeOutlastsItsClock, NoDetourStartsAClock, NothingComesBeforeItsClock}
use Rattle.charger.specs.Rules.{Facts, above, among, barred, nearly_full, outside, heat_rules, range_rules, first_fit, next, pre_limit, fast_limit, top_limit, hot_limit}
use Rattle.charger.specs.declared.Code.{Code}
use Rattle.charger.specs.declared.Code.TheVariants.{Suspend, TrickleCharge, PreCharge, FastCharge, BatDet, TopOff, Done, TempErr1, TempErr2, TempErr3, TempErr4, TempErr5, BattAssist1, BattAssist2, BattAssist3, BattError}
use Rattle.charger.specs.declared.settings.Draft.{Draft}
use Rattle.charger.proofs.Following.{follows}
use Rattle.charger.proofs.Lasting.{lasting, lasted}
use Rattle.charger.proofs.Ordered.{each, when_reset, when_barred, when_outside, when_inside}
use Rattle.charger.proofs.Safety.{free, no_charge}

-- a code is not another that the numbers tell from it
clash : {P : Type 0} (x y : Code) → same x y ≡ false → x ≡ y → P
clash x y n e = absurd (true≢false (sym (eq-eqb _ _ (ap byte_of e)) ∙ n))

module _ (d : Draft) (f : Facts) where
  -- the three ways on from a code that is no battery error
  ways : {P : Type 0} (c : Code) → (c ≡ BattError → ⊥) → (next d f c ≡ Suspend → P) → (next d f c ≡ first_fit (heat_rules true (leb hot_limit f.hot_clock)) c → P) → (next d f c ≡ first_fit (range_rules d f) c → P) → P
  ways c n suspend heat range =
      ⊎_elim
      (λ r. suspend (when_reset d f c r))
      (λ r. ⊎_elim
      (λ x. suspend (when_barred d f c r n x))
      (λ x. ⊎_elim (λ o. heat (when_outside d f c r n x o)) (λ o. range (when_inside d f c r n x o)) (cases_Bool (outside f.reading)))
      (cases_Bool (barred f)))
      (cases_Bool f.reset)

  -- a clock that is looked at first, in range
  clock_time : (c : Code) (limit clock : ℕ) (rest : Code) → (c ≡ BattError → ⊥) → first_fit (range_rules d f) c ≡ cond (leb limit clock) BattError rest → charges (next d f c) ≡ true → clock < limit
  clock_time c limit clock rest n is h =
      let r = free d f c h in
      ⊎_elim
      (λ y. no_charge _ BattError h (when_inside d f c r.reset n r.bar r.range ∙ is ∙ cond-true _ _ _ y) refl)
      (leb-false limit clock)
      (cases_Bool (leb limit clock))

  pre_time : (c : Code) → among (TrickleCharge ∷ PreCharge ∷ []) c ≡ true → charges (next d f c) ≡ true → f.pre_clock < pre_limit
  pre_time c a =
      each (λ x. charges (next d f x) ≡ true → f.pre_clock < pre_limit) (TrickleCharge ∷ PreCharge ∷ []) c a
      (clock_time TrickleCharge pre_limit f.pre_clock _ (λ e. cc) refl, (clock_time PreCharge pre_limit f.pre_clock _ (λ e. cc) refl, tt))

  fast_time : charges (next d f FastCharge) ≡ true → f.fast_clock < fast_limit
  fast_time h = clock_time FastCharge fast_limit f.fast_clock _ (λ e. cc) refl h

  -- heat in a temperature code that leads back to another
  heat_time : (c back : Code) → (c ≡ BattError → ⊥) → (Suspend ≡ c → ⊥) → (back ≡ c → ⊥) → first_fit (range_rules d f) c ≡ back → first_fit (heat_rules true (leb hot_limit f.hot_clock)) c ≡ cond (leb hot_limit f.hot_clock) BattError c → next d f c ≡ c → f.hot_clock < hot_limit
  heat_time c back n s b inside hot h =
      ways c n
      (λ w. absurd (s (sym w ∙ h)))
      (λ w. ⊎_elim
      (λ y. absurd (n (sym (sym (w ∙ hot ∙ cond-true _ _ _ y) ∙ h))))
      (leb-false hot_limit f.hot_clock)
      (cases_Bool (leb hot_limit f.hot_clock)))
      (λ w. absurd (b (sym (w ∙ inside) ∙ h)))

  hot_time : (c : Code) → among (TempErr1 ∷ TempErr2 ∷ TempErr5 ∷ []) c ≡ true → next d f c ≡ c → f.hot_clock < hot_limit
  hot_time c a =
      each (λ x. next d f x ≡ x → f.hot_clock < hot_limit) (TempErr1 ∷ TempErr2 ∷ TempErr5 ∷ []) c a
      (heat_time TempErr1 PreCharge (λ e. cc) (λ e. cc) (λ e. cc) refl refl, (heat_time TempErr2 FastCharge (λ e. cc) (λ e. cc) (λ e. cc) refl refl, (heat_time TempErr5 TrickleCharge (λ e. cc) (λ e. cc) (λ e. cc) refl refl, tt)))

  -- topping off ends once its clock has run out, whatever else the reading says
  over : (a b t : Bool) → t ≡ true → same (cond a BattAssist2 (cond b FastCharge (cond t Done TopOff))) TopOff ≡ false
  over true b t e = refl
  over false true t e = refl
  over false false true e = refl
  over false false false e = cc

  top_time : next d f TopOff ≡ TopOff → f.top_clock < top_limit
  top_time h =
      let r = free d f TopOff (ap charges h) in
      let is = sym (when_inside d f TopOff r.reset (λ e. cc) r.bar r.range) ∙ h in
      ⊎_elim (λ y. clash _ TopOff (over (above 60 f.reading) (not (nearly_full d f.reading)) _ y) is) (leb-false top_limit f.top_clock) (cases_Bool (leb top_limit f.top_clock))

  -- a code with one or two ways on is no battery error if none of them is
  one : (a : Bool) (x y : Code) → same x BattError ≡ false → same y BattError ≡ false → same (cond a x y) BattError ≡ false
  one true x y p q = p
  one false x y p q = q

  two : (a b : Bool) (x y z : Code) → same x BattError ≡ false → same y BattError ≡ false → same z BattError ≡ false → same (cond a x (cond b y z)) BattError ≡ false
  two a b x y z p q r = one a x (cond b y z) p (one b y z q r)

  -- a way to the battery error leads through heat or through the charge
  error_way : (c : Code) → (c ≡ BattError → ⊥) → next d f c ≡ BattError → (first_fit (heat_rules true (leb hot_limit f.hot_clock)) c ≡ BattError) ⊎ (first_fit (range_rules d f) c ≡ BattError)
  error_way c n h = ways c n (λ w. cc) (λ w. inl (sym w ∙ h)) (λ w. inr (sym w ∙ h))

  met : (limit clock : ℕ) (rest : Code) → same rest BattError ≡ false → cond (leb limit clock) BattError rest ≡ BattError → limit ≤ clock
  met limit clock rest n h =
      ⊎_elim (leb-true limit clock) (λ x. clash rest BattError n (sym (cond-false _ _ _ x) ∙ h)) (cases_Bool (leb limit clock))

  clock_over : (c : Code) (limit clock : ℕ) (rest : Code) → (c ≡ BattError → ⊥) → same (first_fit (heat_rules true (leb hot_limit f.hot_clock)) c) BattError ≡ false → first_fit (range_rules d f) c ≡ cond (leb limit clock) BattError rest → same rest BattError ≡ false → next d f c ≡ BattError → limit ≤ clock
  clock_over c limit clock rest n cold is other h =
      ⊎_elim (λ e. clash _ BattError cold e) (λ e. met limit clock rest other (sym is ∙ e)) (error_way c n h)

  pre_over : (c : Code) → among (TrickleCharge ∷ PreCharge ∷ []) c ≡ true → next d f c ≡ BattError → pre_limit ≤ f.pre_clock
  pre_over c a =
      each (λ x. next d f x ≡ BattError → pre_limit ≤ f.pre_clock) (TrickleCharge ∷ PreCharge ∷ []) c a (
        clock_over TrickleCharge pre_limit f.pre_clock _ (λ e. cc) refl refl (one (leb d.vpre_lo.0 f.reading.vbat) PreCharge TrickleCharge refl refl),
        (clock_over PreCharge pre_limit f.pre_clock _ (λ e. cc) refl refl (one (leb d.vpre_hi.0 f.reading.vbat) FastCharge PreCharge refl refl), tt),
      )

  fast_over : next d f FastCharge ≡ BattError → fast_limit ≤ f.fast_clock
  fast_over h = clock_over FastCharge fast_limit f.fast_clock _ (λ e. cc) refl refl (two (above 60 f.reading) (nearly_full d f.reading) BattAssist1 TopOff FastCharge refl refl refl) h

  heat_over : (c : Code) → (c ≡ BattError → ⊥) → same (first_fit (range_rules d f) c) BattError ≡ false → first_fit (heat_rules true (leb hot_limit f.hot_clock)) c ≡ cond (leb hot_limit f.hot_clock) BattError c → same c BattError ≡ false → next d f c ≡ BattError → hot_limit ≤ f.hot_clock
  heat_over c n back is other h =
      ⊎_elim (λ e. met hot_limit f.hot_clock c other (sym is ∙ e)) (λ e. clash _ BattError back e) (error_way c n h)

  hot_over : (c : Code) → among (TempErr1 ∷ TempErr2 ∷ TempErr5 ∷ []) c ≡ true → next d f c ≡ BattError → hot_limit ≤ f.hot_clock
  hot_over c a =
      each (λ x. next d f x ≡ BattError → hot_limit ≤ f.hot_clock) (TempErr1 ∷ TempErr2 ∷ TempErr5 ∷ []) c a
      (heat_over TempErr1 (λ e. cc) refl refl refl, (heat_over TempErr2 (λ e. cc) refl refl refl, (heat_over TempErr5 (λ e. cc) refl refl refl, tt)))

  -- the codes without a clock
  never : (c : Code) → among (TrickleCharge ∷ PreCharge ∷ FastCharge ∷ TempErr1 ∷ TempErr2 ∷ TempErr5 ∷ BattError ∷ []) c ≡ false → (same (first_fit (heat_rules true (leb hot_limit f.hot_clock)) c) BattError ≡ false) × (same (first_fit (range_rules d f) c) BattError ≡ false)
  never Suspend a = (refl, refl)
  never TrickleCharge a = cc
  never PreCharge a = cc
  never FastCharge a = cc
  never BatDet a = (refl, two (ltb f.reading.vbat d.vpre_lo.0) (ltb f.reading.vbat d.vpre_hi.0) TrickleCharge PreCharge FastCharge refl refl refl)
  never TopOff a = (refl, two (above 60 f.reading) (not (nearly_full d f.reading)) BattAssist2 FastCharge _ refl refl (one (leb top_limit f.top_clock) Done TopOff refl refl))
  never Done a = (refl, two (above 60 f.reading) (ltb f.reading.vbat d.vbat_mnt.0) BattAssist3 FastCharge Done refl refl refl)
  never TempErr1 a = cc
  never TempErr2 a = cc
  never TempErr3 a = (refl, refl)
  never TempErr4 a = (refl, refl)
  never TempErr5 a = cc
  never BattAssist1 a = (refl, one (not (above 20 f.reading)) FastCharge BattAssist1 refl refl)
  never BattAssist2 a = (refl, one (not (above 20 f.reading)) TopOff BattAssist2 refl refl)
  never BattAssist3 a = (refl, one (not (above 20 f.reading)) Done BattAssist3 refl refl)
  never BattError a = cc

  no_clock : (c : Code) → among (TrickleCharge ∷ PreCharge ∷ FastCharge ∷ TempErr1 ∷ TempErr2 ∷ TempErr5 ∷ BattError ∷ []) c ≡ false → next d f c ≡ BattError → ⊥
  no_clock c a h =
      let no = never c a in
      ⊎_elim (λ e. clash _ BattError no.0 e) (λ e. clash _ BattError no.1 e)
      (error_way c (λ e. true≢false (ap (among (TrickleCharge ∷ PreCharge ∷ FastCharge ∷ TempErr1 ∷ TempErr2 ∷ TempErr5 ∷ BattError ∷ [])) (sym e) ∙ a)) h)

  -- the full battery is told from topping off by its clock alone
  done : (a b t : Bool) → cond a BattAssist2 (cond b FastCharge (cond t Done TopOff)) ≡ Done → t ≡ true
  done true b t e = cc
  done false true t e = cc
  done false false true e = refl
  done false false false e = cc

  top_over : next d f TopOff ≡ Done → top_limit ≤ f.top_clock
  top_over h =
      ways TopOff (λ e. cc)
      (λ w. cc)
      (λ w. cc)
      (λ w. leb-true top_limit f.top_clock (done (above 60 f.reading) (not (nearly_full d f.reading)) _ (sym w ∙ h)))

pub in_time : NoCodeOutlastsItsClock
in_time d es m =
    let f = facts_at d m es (story_of d es) in
    let old = (follows d es).code in
    let new = (follows d (took m ∷ es)).code in
    record {
      pre = λ a h. pre_time d f (code_now (story_of d es)) (sym (ap (among (TrickleCharge ∷ PreCharge ∷ [])) old) ∙ a) (sym (ap charges new) ∙ h);
      fast = λ e h. fast_time d f (sym (ap (λ c. charges (next d f c)) (sym old ∙ e)) ∙ sym (ap charges new) ∙ h);
      top = λ e h. top_time d f (sym (ap (next d f) (sym old ∙ e)) ∙ sym new ∙ h);
      hot = λ a h. hot_time d f (code_now (story_of d es)) (sym (ap (among (TempErr1 ∷ TempErr2 ∷ TempErr5 ∷ [])) old) ∙ a) (sym new ∙ h ∙ old);
    }

pub on_time : NothingComesBeforeItsClock
on_time d es m =
    let f = facts_at d m es (story_of d es) in
    let old = (follows d es).code in
    let new = (follows d (took m ∷ es)).code in
    record {
      pre = λ a h. pre_over d f (code_now (story_of d es)) (sym (ap (among (TrickleCharge ∷ PreCharge ∷ [])) old) ∙ a) (sym new ∙ h);
      fast = λ e h. fast_over d f (sym (ap (next d f) (sym old ∙ e)) ∙ sym new ∙ h);
      top = λ e h. top_over d f (sym (ap (next d f) (sym old ∙ e)) ∙ sym new ∙ h);
      hot = λ a h. hot_over d f (code_now (story_of d es)) (sym (ap (among (TempErr1 ∷ TempErr2 ∷ TempErr5 ∷ [])) old) ∙ a) (sym new ∙ h);
      others = λ a h. no_clock d f (code_now (story_of d es)) (sym (ap (among (TrickleCharge ∷ PreCharge ∷ FastCharge ∷ TempErr1 ∷ TempErr2 ∷ TempErr5 ∷ BattError ∷ [])) old) ∙ a) (sym new ∙ h);
    }

pub no_start : NoDetourStartsAClock
no_start = (λ n. (refl, refl, refl), (λ n. (refl, refl, refl), (λ n. (refl, refl, refl), (λ n. (refl, refl, refl), (λ n. (refl, refl, refl), (λ n. (refl, refl, refl), (λ n. (refl, refl, refl), (λ n. (refl, refl, refl), (λ n. (refl, refl, refl), (λ n. (refl, refl, refl), tt))))))))))

-- where nothing stands in the way, no bar and no heat does
cold_false : (m : Measured) → pos 2 ≤ℤ m.temp → lt_z m.temp (pos 2) ≡ false
cold_false m h = grind (arith, ints)

hot_false : (m : Measured) → m.temp ≤ℤ pos 58 → lt_z (pos 58) m.temp ≡ false
hot_false m h = grind (arith, ints)

module _ (d : Draft) (es : List Event) (m : Measured) (may : MayCharge d es m) (r : reset_bit es ≡ false) (h : hold_out es ≡ false) where
  led : (c : Code) → (c ≡ BattError → ⊥) → code_now (story_of d es) ≡ c → code_now (story_of d (took m ∷ es)) ≡ first_fit (range_rules d (facts_at d m es (story_of d es))) c
  led c n e =
      let no-over : over_voltage d (m ∷ readings es) ≡ false = ⊎_elim (λ y. absurd (may.no_over_voltage (lasting _ _ _ y))) (λ x. x) (cases_Bool (over_voltage d (m ∷ readings es))) in
      let bar : barred (facts_at d m es (story_of d es)) ≡ false = or_from _ _ (or_from _ _ (not_from_true _ (lasted _ _ _ may.input)) no-over) h in
      let range : outside m ≡ false = or_from _ _ (cold_false m may.warm) (hot_false m may.cool) in
      ap (next d (facts_at d m es (story_of d es))) e ∙ when_inside d (facts_at d m es (story_of d es)) c r n bar range

begins : (a b : Bool) → charges (cond a TrickleCharge (cond b PreCharge FastCharge)) ≡ true
begins true b = refl
begins false true = refl
begins false false = refl

pub starts : ItChargesWhereItMay
starts d es m n s r h a b =
    let first = led d es m a r h Suspend (λ e. cc) (sym (follows d es).code ∙ s) in
    let second = led d (took m ∷ es) n b r h BatDet (λ e. cc) first in
    ap charges ((follows d (took n ∷ took m ∷ es)).code ∙ second) ∙ begins (ltb n.vbat d.vpre_lo.0) (ltb n.vbat d.vpre_hi.0)
