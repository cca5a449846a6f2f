use Rattle.std.proofs.Common.{◌≡◌, ◌++◌}
use Rattle.px_run.proofs.boxed_core.boxed.Given as goal

abbrev pub invariant-loop-core : goal.invariant-loop-core
invariant-loop-core g l = l.boxed.items ++ l.core-iterator.rest.items ≡ l.fn.cores.items
