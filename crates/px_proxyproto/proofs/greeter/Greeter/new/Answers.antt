use Rattle.std.proofs.Common.{[], refl}
use Rattle.px_proxyproto.proofs.LinkReads.{nothing_taken}
use Rattle.px_proxyproto.proofs.greeter.Greeter.new.Goals as goal

pub returns : goal.returns
returns c = λ first. ([], nothing_taken first, refl, c.new.ensures)
