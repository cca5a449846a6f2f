use Rattle.px_proxyproto.proofs.Written.{none_back}
use Rattle.px_proxyproto.proofs.laws.none_read_back.Goals as goal

pub returns : goal.returns
returns c = none_back
