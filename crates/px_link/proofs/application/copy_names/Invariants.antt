-- The names so far are copied.
use Rattle.std.proofs.Common.{◌≡◌, take}
use Rattle.px_link.proofs.application.copy_names.Given as goal

abbrev pub invariant-loop-at : goal.invariant-loop-at
invariant-loop-at l = l.copied ≡ take l.at l.names
