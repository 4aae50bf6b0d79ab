use Rattle.watch.proofs.Longest.{longest}
use Rattle.watch.proofs.promises.a_run_is_the_longest.Goals as goal

pub returns : goal.returns
returns g c = record { law = longest g.T.Threshold.passes }
