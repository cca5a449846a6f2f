use Rattle.h1_head.specs.Sides.{kind_of}
use Rattle.h1_head.proofs.EachSide.{each_is_lawful}
use Rattle.h1_head.proofs.Waits as waits
use Rattle.h1_head.proofs.laws.waits_on.Goals as goal

pub returns : goal.returns
returns c = λ side. waits.waits_on (kind_of side) (each_is_lawful side)
