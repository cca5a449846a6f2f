use Rattle.std.proofs.Common.{◌≡◌, ◌++◌, drop}
use Rattle.htx_drive.specs.Drill.Drill.{field_lines}
use Rattle.htx_drive.proofs.drill.texts.put_fields.Given as goal

abbrev pub invariant-loop-number : goal.invariant-loop-number
invariant-loop-number l = l.text.items ++ field_lines l.number (drop l.number l.lengths) ≡ l.initial.text.items ++ field_lines 0 l.lengths
