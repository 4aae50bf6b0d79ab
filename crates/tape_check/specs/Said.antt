-- What the program says of a tape.
use Rattle.std.specs.Prelude.{ℕ, List, ◌++◌, Ok, Err, Option, Result}
use Rattle.board.specs.declared.amount.TrimAmount.{TrimAmount}
use Rattle.board.specs.Meaning.{Meaning}
use Rattle.tape.specs.declared.TapeFault.{TapeFault}
use Rattle.tape.specs.declared.TapeFault.TheVariants.{TooLong, BadNames}
use Rattle.report.specs.declared.refusal.Refusal.{Refusal}
use Rattle.report.specs.declared.refusal.Refusal.TheVariants as refusal
use Rattle.report.specs.Asked.{corrected}
use Rattle.report.specs.Refusals.{refusal_line}
use Rattle.report.specs.Text.{reported, line_feed}

abbrev pub refusal_of : TapeFault → Refusal
refusal_of TooLong = refusal.TapeTooLong
refusal_of BadNames = refusal.BadNames

-- The report on an opened tape, whose first value line has place 2, or the line of its refusal.
abbrev pub said : Option TrimAmount → Result Meaning TapeFault → List ℕ
said trim (Ok m) = reported 2 (corrected trim m.waiting)
said trim (Err f) = refusal_line (refusal_of f) ++ line_feed
