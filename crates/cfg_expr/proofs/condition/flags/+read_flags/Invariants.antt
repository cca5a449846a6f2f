use Rattle.std.proofs.Common.{length}
use Rattle.cfg_expr.proofs.condition.flags.+read_flags.Given as goal

abbrev pub decreases-read_flags : goal.decreases-read_flags
decreases-read_flags l = length l.words
