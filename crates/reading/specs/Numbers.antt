-- The numbers of causes, kinds and faults.
use Rattle.std.specs.Prelude.{ℕ}
use Rattle.reading.specs.declared.Cause.{Cause}
use Rattle.reading.specs.declared.Cause.TheVariants.{UnreadableLine, OutsideLimits, ShortFrame, SilentChip}
use Rattle.reading.specs.declared.Kind.{Kind}
use Rattle.reading.specs.declared.Kind.TheVariants.{Tape, Frames}
use Rattle.reading.specs.declared.Fault.{Fault}
use Rattle.reading.specs.declared.Fault.TheVariants.{NothingWaiting, NoReading, AboveCeiling}

abbrev pub cause_number : Cause → ℕ
cause_number UnreadableLine = 1
cause_number OutsideLimits = 2
cause_number ShortFrame = 3
cause_number SilentChip = 4

abbrev pub kind_number : Kind → ℕ
kind_number Tape = 1
kind_number Frames = 2

-- 3 is no fault of a board: it is for a reading that comes too late.
abbrev pub fault_number : Fault → ℕ
fault_number NothingWaiting = 1
fault_number (NoReading b) = 2
fault_number AboveCeiling = 4
