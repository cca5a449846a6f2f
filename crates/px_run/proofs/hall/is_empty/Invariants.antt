use Rattle.std.proofs.Common.{◌≡◌, drop}
use Rattle.px_run.specs.Hall.{count_taken}
use Rattle.px_run.proofs.hall.is_empty.Given as goal

-- none so far is open
abbrev pub invariant-loop-at : goal.invariant-loop-at
invariant-loop-at g l = count_taken (drop l.at-index l.places) ≡ count_taken l.places
