-- What a caller asks of a report.
use Rattle.std.specs.Prelude.{ℕ, ◌+◌, ◌-◌, ◌*◌, Bool, cond, ◌&&◌, List, [], ◌∷◌, map, length, drop, ℤ, pos, neg_ℤ, Some, None, Ok, Err, codes, Option, Result, ◌==◌, nat_lt, slice_index}
use Rattle.std.specs.Str.{all_ascii_digits, bytes_eq}
use Rattle.board.specs.declared.amount.TrimFault.{TrimFault}
use Rattle.board.specs.Amount.{checked}
use Rattle.board.specs.Meaning.{Conversion}
use Rattle.board.specs.Trimmed.{trimmed}
use Rattle.report.specs.declared.refusal.Refusal.{Refusal}
use Rattle.report.specs.declared.refusal.Refusal.TheVariants.{AmountOutOfRange, NoWholeNumber, UnknownArgument}

-- The conversions as they come with a trim over the board, or without one.
abbrev pub corrected : Option ℤ → List Conversion → List Conversion
corrected None cs = cs
corrected (Some a) cs = map (trimmed a) cs

-- One digit or more, and nothing else.
abbrev pub numeral : List ℕ → Bool
numeral ds = nat_lt 0 (length ds) && all_ascii_digits ds

-- The number that digits write, where those of n stand before them; the digit 0 is the byte 48.
abbrev pub value : ℕ → List ℕ → ℕ
value n [] = n
value n (d ∷ ds) = value (n * 10 + (d - 48)) ds

-- A text that begins with a minus sign, the byte 45, says a number of zero or below.
abbrev pub minus : List ℕ → Bool
minus text = slice_index text 0 == 45

abbrev pub digits_of : List ℕ → List ℕ
digits_of text = cond (minus text) (drop 1 text) text

abbrev pub with_sign : Bool → ℕ → ℤ
with_sign negative size = cond negative (neg_ℤ (pos size)) (pos size)

abbrev pub number : List ℕ → ℤ
number text = with_sign (minus text) (value 0 (digits_of text))

-- A number is an amount if a trim takes it.
abbrev pub limited : Result ℤ TrimFault → Result ℤ Refusal
limited (Ok a) = Ok a
limited (Err f) = Err AmountOutOfRange

-- The amount that a text says.
abbrev pub amount_read : List ℕ → Result ℤ Refusal
amount_read text = cond (numeral (digits_of text)) (limited (checked (number text))) (Err NoWholeNumber)

abbrev pub some : Result ℤ Refusal → Result (Option ℤ) Refusal
some (Ok a) = Ok (Some a)
some (Err f) = Err f

-- No arguments ask for no trim, `--trim` and an amount for that trim; there are no others.
abbrev pub asked : List (List ℕ) → Result (Option ℤ) Refusal
asked [] = Ok None
asked (option ∷ []) = Err UnknownArgument
asked (option ∷ amount ∷ []) = cond (bytes_eq option (codes "--trim")) (some (amount_read amount)) (Err UnknownArgument)
asked (option ∷ amount ∷ extra ∷ more) = Err UnknownArgument
