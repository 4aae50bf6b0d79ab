use Rattle.charger.proofs.Starting.{count}
use Rattle.charger.proofs.promises.clocks_count_from_the_latest_start.Goals as goal

pub returns : goal.returns
returns c = record { law = count }
