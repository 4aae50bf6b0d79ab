use Rattle.charger.proofs.Progress.{starts}
use Rattle.charger.proofs.promises.it_charges_where_it_may.Goals as goal

pub returns : goal.returns
returns c = record { law = starts }
