use Rattle.h1_head.specs.Sides.{kind_of}
use Rattle.h1_head.proofs.EachSide.{each_is_lawful}
use Rattle.h1_head.proofs.Totals as totals
use Rattle.h1_head.proofs.laws.refused_where_full.Goals as goal

pub returns : goal.returns
returns c = λ side. totals.refused_where_full (kind_of side) (each_is_lawful side)
