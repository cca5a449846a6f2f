use Rattle.h1_head.specs.Sides.{kind_of}
use Rattle.h1_head.specs.Stream.{behind}
use Rattle.h1_head.proofs.Known.{known}
use Rattle.h1_head.proofs.Totals.{known_reading}
use Rattle.h1_head.proofs.laws.some_reading.Goals as goal

pub returns : goal.returns
returns c = λ side limits stream. known_reading (kind_of side) limits stream (known side limits (behind stream))
