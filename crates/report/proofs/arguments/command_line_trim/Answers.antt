use Rattle.std.proofs.Common.{[], ◌∷◌, refl}
use Rattle.report.proofs.arguments.command_line_trim.Goals as goal

pub returns-in-Err : goal.returns-in-Err
returns-in-Err g c = record { answer = ([] ∷ [], refl) }
