use Rattle.std.proofs.Common.{◌≡◌, ◌++◌, length}
use Rattle.cfg_expr.specs.Formats.{literal_in}
use Rattle.cfg_expr.proofs.formats.literal_in.Given as goal

-- the text so far, and that of what is left behind it
abbrev pub invariant-each : goal.invariant-each
invariant-each l = literal_in l.fn.text ≡ (l.literal ++ (literal_in l.rest).0, (literal_in l.rest).1)

abbrev pub decreases-each : goal.decreases-each
decreases-each l = length l.rest
