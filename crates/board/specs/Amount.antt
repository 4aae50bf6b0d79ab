-- The amount of a trim.
use Rattle.std.specs.Prelude.{ℕ, cond, ◌&&◌, ℤ, pos, negsuc, Ok, Err, Result, int_le}
use Rattle.board.specs.declared.amount.TrimFault.{TrimFault}
use Rattle.board.specs.declared.amount.TrimFault.TheVariants.{AmountOutOfRange}

abbrev pub trim_number : TrimFault → ℕ
trim_number AmountOutOfRange = 14

-- An amount from -200 to 200 mA is taken, both ends included, and no other.
abbrev pub checked : ℤ → Result ℤ TrimFault
checked a = cond (int_le (negsuc 199) a && int_le a (pos 200)) (Ok a) (Err AmountOutOfRange)

-- The number of an answer: 14 for an amount that is not taken, else 0.
abbrev pub amount_number : Result ℤ TrimFault → ℕ
amount_number (Ok a) = 0
amount_number (Err f) = trim_number f

abbrev pub checked_number : ℤ → ℕ
checked_number a = cond (int_le (negsuc 199) a && int_le a (pos 200)) 0 14
