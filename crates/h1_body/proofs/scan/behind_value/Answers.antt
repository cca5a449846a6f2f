use Rattle.h1_body.proofs.Scans.{ends_value}
use Rattle.h1_body.proofs.scan.behind_value.Goals as goal

pub returns-then-byte-eq10 : goal.returns-then-byte-eq10
returns-then-byte-eq10 c = λ bytes. ends_value bytes c.args.byte c.if-byte-eq10.true
