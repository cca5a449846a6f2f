use Rattle.session_core.proofs.Driving.{alone}
use Rattle.session_core.proofs.laws.over_is_alone.Goals as goal

pub returns : goal.returns
returns c = alone
