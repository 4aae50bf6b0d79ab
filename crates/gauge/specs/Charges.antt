-- The charge over a whole run: what is kept, what is exact, and how close the count stays.
use Rattle.std.specs.Prelude.{◌≡◌, ℕ, ◌+◌, ◌*◌, ◌^◌, ◌<◌, ◌≤◌, cond, List, [], ◌∷◌, ℤ, pos, ◌+ℤ◌, ◌*ℤ◌, ◌≤ℤ◌, ◌<ℤ◌, ◌==◌}
use Rattle.gauge.specs.declared.CountByte.{CountByte}
use Rattle.gauge.specs.declared.CountByte.TheVariants.{Ccntd3, Ccntd2, Ccntd1, Ccntd0}
use Rattle.gauge.specs.declared.Event.{Event}
use Rattle.gauge.specs.declared.Event.TheVariants.{Flowed, Written}
use Rattle.gauge.specs.Counts.{fullest, flowing, count_of, least_for, weight, byte_of, kept_bits, replaced}

-- The charge after a byte of the count was written: the smallest with the new count.
abbrev pub writing : CountByte → ℕ → ℕ → ℕ
writing b v q = least_for (replaced b v (count_of q))

-- Histories have the newest event in front.

-- The charge that is kept after a history.
abbrev pub kept : List Event → ℕ
kept [] = 0
kept (Flowed c t ∷ es) = flowing c.0 t (kept es)
kept (Written b v ∷ es) = least_for (replaced b v (count_of (kept es)))

-- The exact charge: each current times its ticks, all added up. It may be below 0 and never stops at an end.
-- A write sets it to the same smallest charge.
abbrev pub exact : List Event → ℤ
exact [] = pos 0
exact (Flowed c t ∷ es) = exact es +ℤ c.0 *ℤ pos t
exact (Written b v ∷ es) = pos (least_for (replaced b v (count_of (kept es))))

-- The exact charge has stayed within the counter's range since the last write, or else since the start.
abbrev pub Stayed : List Event → Type 0
Stayed [] = Unit {0}
Stayed (Flowed c t ∷ es) = Stayed es × (pos 0 ≤ℤ exact (Flowed c t ∷ es)) × (exact (Flowed c t ∷ es) ≤ℤ pos fullest)
Stayed (Written b v ∷ es) = Unit {0}

-- A count is close to a charge: as charge it is at most that, and with one step more it is above. A count c stands
-- for c × 78,125 / 128 mA × ticks.
pub record Close (c : ℕ) (charge : ℤ) : Type 0 where
  pub below : pos (78125 * c) ≤ℤ (pos 128 *ℤ charge)
  pub above : (pos 128 *ℤ charge) <ℤ pos (78125 * (c + 4))

-- However many events there were, the count follows the exact charge: no part of a step is lost on the way.
abbrev pub TheCountFollowsTheCharge : Type 0
TheCountFollowsTheCharge = (es : List Event) → Stayed es → Close (count_of (kept es)) (exact es) × (pos (kept es) ≡ exact es)

-- A write leaves the smallest charge with the count that was written.
abbrev pub TheLeastChargeHasItsCount : Type 0
TheLeastChargeHasItsCount = (k : ℕ) → (count_of (least_for (4 * k)) ≡ 4 * k) × ((q : ℕ) → count_of q ≡ 4 * k → least_for (4 * k) ≤ q)

-- Four bytes with one of them replaced; bytes are told apart by their weights.
abbrev pub with : CountByte → ℕ → (CountByte → ℕ) → CountByte → ℕ
with b n bytes o = cond (weight o == weight b) n (bytes o)

-- A write leaves the count with the byte replaced: the byte is read back, less the bits that are not kept, and the
-- other three stay.
abbrev pub AWrittenByteIsReadBack : Type 0
AWrittenByteIsReadBack =
    (q : ℕ) (b : CountByte) (v : ℕ) → q ≤ fullest → v < 256
    → (count_of (writing b v q) ≡ replaced b v (count_of q))
    × ((o : CountByte) → byte_of o (count_of (writing b v q)) ≡ with b (kept_bits b v) (λ x. byte_of x (count_of q)) o)

-- The number that four bytes make, the highest first.
abbrev pub joined : (CountByte → ℕ) → ℕ
joined bytes = ((bytes Ccntd3 * 256 + bytes Ccntd2) * 256 + bytes Ccntd1) * 256 + bytes Ccntd0

-- The counter has 28 bits: a charge lies in its range exactly where its count fits them, and the four bytes then make
-- the count.
abbrev pub ACountHas28Bits : Type 0
ACountHas28Bits =
    (q : ℕ)
    → (q ≤ fullest → count_of q < 2 ^ 28)
    × (count_of q < 2 ^ 28 → q ≤ fullest)
    × (q ≤ fullest → joined (λ o. byte_of o (count_of q)) ≡ count_of q)

-- Any count of whole steps can be written, byte by byte, whatever stood there.
abbrev pub AnyCountCanBeWritten : Type 0
AnyCountCanBeWritten =
    (q k : ℕ) → q ≤ fullest → k < 2 ^ 26
    → count_of (writing Ccntd3 (byte_of Ccntd3 (4 * k)) (writing Ccntd2 (byte_of Ccntd2 (4 * k)) (writing Ccntd1 (byte_of Ccntd1 (4 * k)) (writing Ccntd0 (byte_of Ccntd0 (4 * k)) q)))) ≡ 4 * k
