use Rattle.h1_body.proofs.Scans.{scanned_more}
use Rattle.h1_body.proofs.laws.stays_scanned.Goals as goal

pub returns : goal.returns
returns c = scanned_more
