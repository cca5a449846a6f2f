use Rattle.px_proxyproto.proofs.Prefix.{prefix_free}
use Rattle.px_proxyproto.proofs.laws.prefix_free.Goals as goal

pub returns : goal.returns
returns c = prefix_free
