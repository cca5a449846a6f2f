use Rattle.std.proofs.Common.{◌≡◌, drop}
use Rattle.std.specs.List.{filter, slice_get}
use Rattle.px_conv.specs.Fields.{counts, fields_from}
use Rattle.px_conv.proofs.fields.part_after.Given as goal

-- what is looked for stands behind so many of the rest
abbrev pub invariant-loop-at : goal.invariant-loop-at
invariant-loop-at l = slice_get (filter (counts l.kind) (fields_from l.separators l.from l.at (drop l.at l.text))) l.left ≡ slice_get (filter (counts l.kind) (fields_from l.separators 0 0 l.text)) l.skipped
