use Rattle.std.proofs.Common.{◌≡◌, reverse, arith}
use Rattle.std.proofs.lemmas.Grind.{common_steps}
use Rattle.gauge.specs.Charges.{kept}
use Rattle.gauge.proofs.Follows.{close}
use Rattle.gauge.proofs.Gauge.after.Goals as goal

pub returns-clause-close : goal.returns-clause-close
returns-clause-close c =
    let is : c.loop-event.gauge ≡ kept (reverse c.args.events.now) = grind (arith, common_steps) in
    close _ _ is
