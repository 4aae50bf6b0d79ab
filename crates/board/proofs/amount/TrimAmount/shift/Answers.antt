use Rattle.std.proofs.Common.{arith}
use Rattle.std.proofs.lemmas.Int.{ints, to_z-of_z}
use Rattle.board.proofs.amount.TrimAmount.shift.Goals as goal

pub returns : goal.returns
returns c = rw (← c.r.view_is, ← c.self.view_is) (search (arith, ints, to_z-of_z, c.clamp.ensures))
