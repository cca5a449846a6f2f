use Rattle.h1_body.specs.Scan.{IsScanned}
use Rattle.h1_body.proofs.scan.scan_on.Given as goal

abbrev pub invariant-loop-at : goal.invariant-loop-at
invariant-loop-at l = IsScanned l.window (record { len = l.at; lines = l.lines; place = l.place })
