-- A written byte is read back, and the others stay.
use Rattle.std.proofs.Common.{◌≡◌, ℕ, ◌+◌, ◌-◌, ◌*◌, ◌/◌, ◌%◌, ◌<◌, ◌≤◌, sym, ap, ◌∙◌, arith}
use Rattle.gauge.specs.declared.CountByte.{CountByte}
use Rattle.gauge.specs.declared.CountByte.TheVariants.{Ccntd3, Ccntd2, Ccntd1, Ccntd0}
use Rattle.gauge.specs.Charges.{joined, with, writing, ACountHas28Bits, AWrittenByteIsReadBack, AnyCountCanBeWritten}
use Rattle.gauge.specs.Counts.{fullest, count_of, least_for, weight, byte_of, kept_bits, replaced}

-- bytes of a count: the highest has four bits, and the lowest whole steps
record Bytes (g : CountByte → ℕ) : Type 0 where
  pub top3 : g Ccntd3 < 16
  pub top2 : g Ccntd2 < 256
  pub top1 : g Ccntd1 < 256
  pub top0 : g Ccntd0 < 256
  pub whole : g Ccntd0 % 4 ≡ 0

module _ (g : CountByte → ℕ) (f : Bytes g) where
  reads : (o : CountByte) → byte_of o (joined g) ≡ g o
  reads Ccntd3 = omega arith
  reads Ccntd2 = omega arith
  reads Ccntd1 = omega arith
  reads Ccntd0 = omega arith

  steps : 4 * (joined g / 4) ≡ joined g
  steps = omega arith

  swaps : (b : CountByte) (n : ℕ) → joined g - g b * weight b + n * weight b ≡ joined (with b n g)
  swaps Ccntd3 n = omega arith
  swaps Ccntd2 n = omega arith
  swaps Ccntd1 n = omega arith
  swaps Ccntd0 n = omega arith

  writes : (b : CountByte) (v : ℕ) → replaced b v (joined g) ≡ joined (with b (kept_bits b v) g)
  writes b v = ap (λ x. joined g - x * weight b + kept_bits b v * weight b) (reads b) ∙ swaps b (kept_bits b v)

  written : (b : CountByte) (v : ℕ) → v < 256 → Bytes (with b (kept_bits b v) g)
  written Ccntd3 v h = record { top3 = omega arith; top2 = f.top2; top1 = f.top1; top0 = f.top0; whole = f.whole }
  written Ccntd2 v h = record { top3 = f.top3; top2 = h; top1 = f.top1; top0 = f.top0; whole = f.whole }
  written Ccntd1 v h = record { top3 = f.top3; top2 = f.top2; top1 = h; top0 = f.top0; whole = f.whole }
  written Ccntd0 v h = record { top3 = f.top3; top2 = f.top2; top1 = f.top1; top0 = omega arith; whole = omega arith }

-- the least charge of a number has its whole steps
least_steps : (c : ℕ) → count_of (least_for c) ≡ 4 * (c / 4)
least_steps c = omega arith

-- a count has four bytes, and they make it up
bytes : (q : ℕ) → q ≤ fullest → Bytes (λ o. byte_of o (count_of q))
bytes q h = record { top3 = omega arith; top2 = omega arith; top1 = omega arith; top0 = omega arith; whole = omega arith }

-- a number, by its last byte
last : (n : ℕ) → n ≡ 256 * (n / 256) + n % 256
last n = omega arith

makes : (n : ℕ) → n < 268435456 → n ≡ joined (λ o. byte_of o n)
makes n h =
    let two : n / 256 / 256 ≡ n / 65536 = omega arith in
    let three : n / 65536 / 256 ≡ n / 16777216 = omega arith in
    let top : n / 16777216 % 256 ≡ n / 16777216 = omega arith in
    let low : n / 1 % 256 ≡ n % 256 = omega arith in
    let a = last n in
    let b = last (n / 256) in
    let c = last (n / 65536) in
    omega arith

count_makes : (q : ℕ) → q ≤ fullest → count_of q ≡ joined (λ o. byte_of o (count_of q))
count_makes q h = let small : count_of q < 268435456 = omega arith in makes (count_of q) small

pub bits : ACountHas28Bits
bits q = (λ h. omega arith, λ h. omega arith, λ h. sym (count_makes q h))

-- one write to a charge in range
module _ (q : ℕ) (b : CountByte) (v : ℕ) (h : q ≤ fullest) (w : v < 256) where
  abbrev new : CountByte → ℕ
  new = with b (kept_bits b v) (λ x. byte_of x (count_of q))

  fits : Bytes new
  fits = written _ (bytes q h) b v w

  replaced_is : replaced b v (count_of q) ≡ joined new
  replaced_is = ap (replaced b v) (count_makes q h) ∙ writes _ (bytes q h) b v

  count_is : count_of (writing b v q) ≡ joined new
  count_is = least_steps (replaced b v (count_of q)) ∙ ap (λ x. 4 * (x / 4)) replaced_is ∙ steps new fits

  byte_is : (o : CountByte) → byte_of o (count_of (writing b v q)) ≡ new o
  byte_is o = ap (byte_of o) count_is ∙ reads new fits o

  in_range : writing b v q ≤ fullest
  in_range =
      let is = count_is in
      let top3 = fits.top3 in
      let top2 = fits.top2 in
      let top1 = fits.top1 in
      let top0 = fits.top0 in
      let small : count_of (writing b v q) < 268435456 = omega arith in
      (bits (writing b v q)).1 small

pub read_back : AWrittenByteIsReadBack
read_back q b v h w = (count_is q b v h w ∙ sym (replaced_is q b v h w), byte_is q b v h w)

-- numbers with the same bytes
same_joined : (f g : CountByte → ℕ) → f Ccntd3 ≡ g Ccntd3 → f Ccntd2 ≡ g Ccntd2 → f Ccntd1 ≡ g Ccntd1 → f Ccntd0 ≡ g Ccntd0 → joined f ≡ joined g
same_joined f g x y z w = cc

byte_top : (b : CountByte) (n : ℕ) → byte_of b n < 256
byte_top Ccntd3 n = omega arith
byte_top Ccntd2 n = omega arith
byte_top Ccntd1 n = omega arith
byte_top Ccntd0 n = omega arith

-- a write of one byte of a number n leads from a charge to another
record Wrote (n : ℕ) (b : CountByte) (q r : ℕ) : Type 0 where
  pub range : r ≤ fullest
  pub byte : (o : CountByte) → byte_of o (count_of r) ≡ with b (kept_bits b (byte_of b n)) (λ x. byte_of x (count_of q)) o

wrote : (n : ℕ) (b : CountByte) (q : ℕ) → q ≤ fullest → Wrote n b q (writing b (byte_of b n) q)
wrote n b q h = record { range = in_range q b (byte_of b n) h (byte_top b n); byte = byte_is q b (byte_of b n) h (byte_top b n) }

-- four writes, from the lowest byte to the highest
four : (k p q r s t : ℕ) → k < 67108864 → Wrote (4 * k) Ccntd0 p q → Wrote (4 * k) Ccntd1 q r → Wrote (4 * k) Ccntd2 r s → Wrote (4 * k) Ccntd3 s t → count_of t ≡ 4 * k
four k p q r s t h w0 w1 w2 w3 =
    let high : kept_bits Ccntd3 (byte_of Ccntd3 (4 * k)) ≡ byte_of Ccntd3 (4 * k) = omega arith in
    let low : kept_bits Ccntd0 (byte_of Ccntd0 (4 * k)) ≡ byte_of Ccntd0 (4 * k) = omega arith in
    let small : 4 * k < 268435456 = omega arith in
    count_makes t w3.range
    ∙ same_joined (λ o. byte_of o (count_of t)) (λ o. byte_of o (4 * k))
    (w3.byte Ccntd3 ∙ high)
    (w3.byte Ccntd2 ∙ w2.byte Ccntd2)
    (w3.byte Ccntd1 ∙ w2.byte Ccntd1 ∙ w1.byte Ccntd1)
    (w3.byte Ccntd0 ∙ w2.byte Ccntd0 ∙ w1.byte Ccntd0 ∙ w0.byte Ccntd0 ∙ low)
    ∙ sym (makes (4 * k) small)

pub any_count : AnyCountCanBeWritten
any_count q k h s =
    let w0 = wrote (4 * k) Ccntd0 q h in
    let w1 = wrote (4 * k) Ccntd1 _ w0.range in
    let w2 = wrote (4 * k) Ccntd2 _ w1.range in
    let w3 = wrote (4 * k) Ccntd3 _ w2.range in
    four k _ _ _ _ _ s w0 w1 w2 w3
