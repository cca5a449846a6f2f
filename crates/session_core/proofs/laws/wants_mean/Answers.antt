use Rattle.session_core.proofs.Driving.{mean}
use Rattle.session_core.proofs.laws.wants_mean.Goals as goal

pub returns : goal.returns
returns c = mean
