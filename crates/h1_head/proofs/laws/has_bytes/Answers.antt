use Rattle.h1_head.specs.Sides.{kind_of}
use Rattle.h1_head.proofs.EachSide.{each_is_lawful}
use Rattle.h1_head.proofs.Totals as totals
use Rattle.h1_head.proofs.laws.has_bytes.Goals as goal

pub returns : goal.returns
returns c = λ side. totals.has_bytes (kind_of side) (each_is_lawful side)
