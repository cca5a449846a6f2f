use Rattle.h1_head.specs.Sides.{kind_of}
use Rattle.h1_head.proofs.EachSide.{each_is_lawful}
use Rattle.h1_head.proofs.Scans.{scanned_more, scanned_none}
use Rattle.h1_head.proofs.laws.stays_scanned.Goals as goal

pub returns : goal.returns
returns c = record { more = λ side. scanned_more (kind_of side); none = λ side. scanned_none (kind_of side) (each_is_lawful side) }
