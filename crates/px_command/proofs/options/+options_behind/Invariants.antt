use Rattle.std.proofs.Common.{length}
use Rattle.px_command.proofs.options.+options_behind.Given as goal

abbrev pub decreases-options_behind : goal.decreases-options_behind
decreases-options_behind l = length l.words.now
