-- Why a program gives no report, and how it says so.
use Rattle.std.specs.Prelude.{ℕ, List, ◌++◌, Some, None, codes, decimal, Option}
use Rattle.report.specs.declared.refusal.Refusal.{Refusal}
use Rattle.report.specs.declared.refusal.Refusal.TheVariants.{TapeTooLong, BadNames, AmountOutOfRange, NoWholeNumber, UnknownArgument}

abbrev pub refusal_number : Refusal → Option ℕ
refusal_number TapeTooLong = Some 13
refusal_number BadNames = Some 12
refusal_number AmountOutOfRange = Some 14
refusal_number NoWholeNumber = None
refusal_number UnknownArgument = None

unfoldable pub sentence_of : Refusal → List ℕ
sentence_of TapeTooLong = codes "the tape is longer than 65,536 bytes or 2,976 value lines; cut it, or record a shorter one"
sentence_of BadNames = codes "the first line of the tape is not the names tick, vbat, vsys, dcin, cur and temp, each once, with commas between them and nothing else; correct that line"
sentence_of AmountOutOfRange = codes "the trim amount does not lie between -200 and 200 mA; give one that does"
sentence_of NoWholeNumber = codes "what follows --trim is not a whole number; write digits, with a minus sign in front if it lies below zero"
sentence_of UnknownArgument = codes "the arguments are not understood; give none, or give --trim and a whole number from -200 to 200"

-- A refusal's line: its number, if it has one, and its sentence.
abbrev pub numbered : Option ℕ → List ℕ → List ℕ
numbered None sentence = codes "refused: " ++ sentence
numbered (Some n) sentence = codes "refused, " ++ (decimal n ++ (codes ": " ++ sentence))

abbrev pub refusal_line : Refusal → List ℕ
refusal_line r = numbered (refusal_number r) (sentence_of r)
