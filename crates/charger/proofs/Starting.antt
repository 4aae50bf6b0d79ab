-- A clock counts from a tick exactly where it was started there, and nowhere later.
use Rattle.std.proofs.Common.{◌≡◌, ℕ, Bool, true, false, List, [], ◌∷◌, ◌++◌, Some, Option, sym, refl, ap, ◌∙◌, ⊎_elim}
use Rattle.std.proofs.lemmas.Bool.{cases_Bool, cond-true, cond-false}
use Rattle.reading.specs.declared.Measured.{Measured}
use Rattle.charger.specs.Histories.{Event, took, wrote, hold, release, Moment, code_now, left_by, left_at}
use Rattle.charger.specs.Laws.{NoStart, Started, CountsFrom, starts_at, ClocksCountFromTheLatestStart}
use Rattle.charger.specs.declared.Clock.{Clock}
use Rattle.charger.specs.declared.Code.{Code}
use Rattle.charger.proofs.Following.{follows}

module _ (starts : Code → Code → Bool) where
  -- a moment that starts no clock leaves it
  leaves : (e : Event) (old new : Code) (before : Option ℕ) → starts_at starts e old new ≡ false → left_by starts e old new before ≡ before
  leaves (took m) old new before n = cond-false _ _ _ n
  leaves (wrote b) old new before n = refl
  leaves hold old new before n = refl
  leaves release old new before n = refl

  -- a moment in front that starts no clock
  on : (m : Moment) (story : List Moment) (t : ℕ) → starts_at starts m.event (code_now story) m.code ≡ false → Started starts story t → Started starts (m ∷ story) t
  on m story t n s = record {
    newer = m ∷ s.newer;
    reading = s.reading;
    code = s.code;
    older = s.older;
    order = ap (λ l. m ∷ l) s.order;
    left = s.left;
    at = s.at;
    latest = (ap (λ l. starts_at starts m.event (code_now l) m.code) (sym s.order) ∙ n, s.latest);
  }

  -- the newest moment, which may start the clock
  by : (e : Event) (new : Code) (story : List Moment) (t : ℕ) → left_by starts e (code_now story) new (left_at starts story) ≡ Some t → (left_at starts story ≡ Some t → Started starts story t) → Started starts (record { event = e; code = new } ∷ story) t
  by (took m) new story t h rest =
      ⊎_elim
      (λ y. record { newer = []; reading = m; code = new; older = story; order = refl; left = y; at = let here = sym (cond-true _ _ _ y) ∙ h in cc; latest = tt })
      (λ n. on _ story t n (rest (sym (cond-false _ _ _ n) ∙ h)))
      (cases_Bool (starts (code_now story) new))
  by (wrote b) new story t h rest = on _ story t refl (rest h)
  by hold new story t h rest = on _ story t refl (rest h)
  by release new story t h rest = on _ story t refl (rest h)

  told : (story : List Moment) (t : ℕ) → left_at starts story ≡ Some t → Started starts story t
  told [] t h = cc
  told (m ∷ ms) t h = by m.event m.code ms t h (told ms t)

  since : (newer older : List Moment) (m : Measured) (new : Code) → starts (code_now older) new ≡ true → NoStart starts newer (record { event = took m; code = new } ∷ older) → left_at starts (newer ++ (record { event = took m; code = new } ∷ older)) ≡ Some m.tick
  since [] older m new y n = cond-true _ _ _ y
  since (x ∷ xs) older m new y n = leaves x.event _ x.code _ n.0 ∙ since xs older m new y n.1

  kept : (story : List Moment) (t : ℕ) → Started starts story t → left_at starts story ≡ Some t
  kept story t s = ap (left_at starts) s.order ∙ since s.newer s.older s.reading s.code s.left s.latest ∙ ap Some s.at

  counts : (story : List Moment) (clock : Clock) → clock.since ≡ left_at starts story → CountsFrom starts story clock
  counts story clock e = record { told = λ t h. told story t (sym e ∙ h); kept = λ t s. e ∙ kept story t s }

pub count : ClocksCountFromTheLatestStart
count d es = let k = follows d es in (counts _ _ _ k.pre, counts _ _ _ k.fast, counts _ _ _ k.top)
