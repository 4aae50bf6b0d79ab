use Rattle.std.proofs.Common.{◌≡◌, reverse, take}
use Rattle.gauge.specs.Charges.{kept}
use Rattle.gauge.proofs.Gauge.after.Given as goal

abbrev pub invariant-loop-event : goal.invariant-loop-event
invariant-loop-event l = l.gauge ≡ kept (reverse (take l.event-index l.events))
