use Rattle.charger.proofs.Judging.{judges}
use Rattle.charger.proofs.settings.checking.a_check_tells_what_is_wrong.Goals as goal

pub returns : goal.returns
returns c = record { law = judges }
