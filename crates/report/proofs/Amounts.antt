-- The number of a text that says an amount, by what the library reads.
use Rattle.std.proofs.Common.{◌≡◌, ℕ, ◌<◌, ◌≤◌, true, false, ◌&&◌, List, [], ◌∷◌, length, drop, ℤ, pos, neg_ℤ, Ok, Err, Result, subst, sym, refl, ap, ◌∙◌, ⊎_elim, arith, rules, w16}
use Rattle.std.proofs.lemmas.Bool.{cases_Bool, eqb-true}
use Rattle.std.proofs.lemmas.Bool.Decides.{nat_tests}
use Rattle.std.proofs.lemmas.Int.{ints}
use Rattle.std.proofs.lemmas.Str.Parse.{IsNumeralModel, numerals_by_fold, parse_signed_minus, parse_signed_digits}
use Rattle.std.specs.Char.{is_ascii_digit}
use Rattle.std.specs.List.{list_all}
use Rattle.std.specs.Str.{all_ascii_digits}
use Rattle.std.specs.Str.Parse.{ParsesSigned}
use Rattle.board.specs.Amount.{checked}
use Rattle.report.specs.Asked.{value, minus, digits_of, numeral, number, limited, amount_read}
use Rattle.report.specs.declared.refusal.Refusal.TheVariants.{AmountOutOfRange}

pub all_digits : (ds : List ℕ) → all_ascii_digits ds ≡ list_all is_ascii_digit ds
all_digits [] = refl
all_digits (d ∷ ds) = ap (λ b. is_ascii_digit d && b) (all_digits ds)

own : IsNumeralModel (λ ds. all_ascii_digits ds ≡ true) (value 0)
own = numerals_by_fold _ (search rules) value (search rules)

-- A numeral without its minus sign.
digits : (text : List ℕ) → numeral (digits_of text) ≡ true → (all_ascii_digits (digits_of text) ≡ true) × (0 < length (digits_of text))
digits text n = (grind (arith, nat_tests), grind (arith, nat_tests))

-- Its amount is what a trim makes of its number.
amount_is : (text : List ℕ) → numeral (digits_of text) ≡ true → amount_read text ≡ limited (checked (number text))
amount_is text n = rw n refl

number_is : (E : Type 0) (text : List ℕ) (z : ℤ) → numeral (digits_of text) ≡ true → ParsesSigned {E = E} w16 10 text (Ok z) → number text ≡ z
number_is E text z n p =
    ⊎_elim
    (λ (m : minus text ≡ true). rw m (sym (parse_signed_minus own {E = E} w16 text (Ok z) p (eqb-true _ _ m)).1))
    (λ (m : minus text ≡ false).
    let ds : all_ascii_digits text ≡ true = rw m at (digits text n).0 in
    rw m (sym (parse_signed_digits own {E = E} w16 text (Ok z) p ds).1))
    (cases_Bool (minus text))

too_low : (n : ℕ) → (n ≤ 32768 → ⊥) → limited (checked (neg_ℤ (pos n))) ≡ Err AmountOutOfRange
too_low n h = grind (arith, ints, nat_tests)

too_high : (n : ℕ) → (n < 32768 → ⊥) → limited (checked (pos n)) ≡ Err AmountOutOfRange
too_high n h = grind (arith, ints, nat_tests)

beyond : (E : Type 0) (text : List ℕ) (e : E) → numeral (digits_of text) ≡ true → ParsesSigned w16 10 text (Err e) → limited (checked (number text)) ≡ Err AmountOutOfRange
beyond E text e n p =
    ⊎_elim
    (λ (m : minus text ≡ true).
    let ds : all_ascii_digits (drop 1 text) ≡ true = rw m at (digits text n).0 in
    let some : 0 < length (drop 1 text) = rw m at (digits text n).1 in
    rw m (too_low (value 0 (drop 1 text)) (λ h. parse_signed_minus own {E = E} w16 text (Err e) p (eqb-true _ _ m) (ds, some, h))))
    (λ (m : minus text ≡ false).
    let ds : all_ascii_digits text ≡ true = rw m at (digits text n).0 in
    let some : 0 < length text = rw m at (digits text n).1 in
    rw m (too_high (value 0 text) (λ h. parse_signed_digits own {E = E} w16 text (Err e) p ds (some, h))))
    (cases_Bool (minus text))

-- What is read of a numeral is its number.
pub read : {E : Type 0} (text : List ℕ) (r : Result ℤ E) (z : ℤ) → numeral (digits_of text) ≡ true → ParsesSigned w16 10 text r → r ≡ Ok z → amount_read text ≡ limited (checked z)
read {E} text r z n p e = amount_is text n ∙ ap (λ x. limited (checked x)) (number_is E text z n (subst (ParsesSigned w16 10 text) e p))

-- A numeral that is not read is no amount.
pub refused : {E : Type 0} (text : List ℕ) (r : Result ℤ E) (e : E) → numeral (digits_of text) ≡ true → ParsesSigned w16 10 text r → r ≡ Err e → amount_read text ≡ Err AmountOutOfRange
refused {E} text r e n p q = amount_is text n ∙ beyond E text e n (subst (ParsesSigned w16 10 text) q p)
