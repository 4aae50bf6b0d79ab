-- The kept charge is the exact one while that stays in range, and the count is close to it.
use Rattle.std.proofs.Common.{◌≡◌, ℕ, suc, ◌+◌, ◌-◌, ◌*◌, ◌<◌, min, List, [], ◌∷◌, reverse, length, get_or, take, ℤ, pos, negsuc, ◌+ℤ◌, ◌*ℤ◌, neg_ℤ, ◌≤ℤ◌, sym, refl, ap, ◌∙◌, subst, arith}
use Rattle.std.proofs.lemmas.List.{take_more, reverse-append}
use Rattle.std.proofs.lemmas.Int.{ints}
use Rattle.gauge.specs.declared.Event.{Event}
use Rattle.gauge.specs.declared.Event.TheVariants.{Flowed, Written}
use Rattle.gauge.specs.Charges.{kept, exact, Stayed, Close, TheCountFollowsTheCharge, TheLeastChargeHasItsCount}
use Rattle.gauge.specs.Counts.{fullest, flowing, count_of}

-- one flow, in range
charges : (q n : ℕ) → (pos q +ℤ pos n) ≤ℤ pos fullest → pos (min (q + n) fullest) ≡ pos q +ℤ pos n
charges q n h = omega (arith, ints)

discharges : (q n : ℕ) → pos 0 ≤ℤ (pos q +ℤ neg_ℤ (pos n)) → pos (q - n) ≡ pos q +ℤ neg_ℤ (pos n)
discharges q n h = omega (arith, ints)

flows : (c : ℤ) (t q : ℕ) → pos 0 ≤ℤ (pos q +ℤ c *ℤ pos t) → (pos q +ℤ c *ℤ pos t) ≤ℤ pos fullest → pos (flowing c t q) ≡ pos q +ℤ c *ℤ pos t
flows (pos c) t q low top = charges q (c * t) top
flows (negsuc c) t q low top = discharges q (suc c * t) low

pub same : (es : List Event) → Stayed es → pos (kept es) ≡ exact es
same [] s = refl
same (Flowed c t ∷ es) s =
    let e = same es s.0 in
    flows c.0 t (kept es) (subst (λ x. pos 0 ≤ℤ (x +ℤ c.0 *ℤ pos t)) (sym e) s.1) (subst (λ x. (x +ℤ c.0 *ℤ pos t) ≤ℤ pos fullest) (sym e) s.2)
    ∙ ap (λ x. x +ℤ c.0 *ℤ pos t) e
same (Written b v ∷ es) s = refl

near : (q : ℕ) → Close (count_of q) (pos q)
near q = record { below = omega (arith, ints); above = omega (arith, ints) }

pub follows : TheCountFollowsTheCharge
follows es s = let e = same es s in (subst (Close (count_of (kept es))) e (near (kept es)), e)

-- the count of a gauge that keeps what its history says
pub close : (es : List Event) (q : ℕ) → q ≡ kept es → Stayed es → Close (count_of q) (exact es)
close es q is s = subst (λ k. Close (count_of k) (exact es)) (sym is) (follows es s).0

pub least : TheLeastChargeHasItsCount
least k = (omega arith, λ q e. omega arith)

-- one event more of a run is the newest of its history
pub newest : (es : List Event) (i : ℕ) (d : Event) → i < length es → reverse (take (i + 1) es) ≡ get_or es i d ∷ reverse (take i es)
newest es i d h = ap reverse (take_more es i d h) ∙ reverse-append (take i es) (get_or es i d ∷ [])
