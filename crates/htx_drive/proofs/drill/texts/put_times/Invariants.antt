use Rattle.std.proofs.Common.{◌≡◌, ◌++◌, replicate}
use Rattle.htx_drive.proofs.drill.texts.put_times.Given as goal

abbrev pub invariant-loop-at : goal.invariant-loop-at
invariant-loop-at l = l.text.items ≡ l.initial.text.items ++ replicate l._at l.byte
