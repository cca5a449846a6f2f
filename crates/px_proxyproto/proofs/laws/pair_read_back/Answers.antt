use Rattle.px_proxyproto.proofs.Written.{header_back}
use Rattle.px_proxyproto.proofs.laws.pair_read_back.Goals as goal

pub returns : goal.returns
returns c = header_back
