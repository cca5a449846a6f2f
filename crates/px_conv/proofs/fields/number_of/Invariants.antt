use Rattle.std.proofs.Common.{◌≡◌, ◌+◌, ◌≤◌, length, drop}
use Rattle.std.specs.List.{filter}
use Rattle.px_conv.specs.Fields.{counts, fields_from}
use Rattle.px_conv.proofs.fields.number_of.Given as goal

-- those that were seen, and those of the rest, are all
abbrev pub invariant-loop-at : goal.invariant-loop-at
invariant-loop-at l = record {
  bound : l.seen ≤ l.at;
  all : l.seen + length (filter (counts l.kind) (fields_from l.separators l.from l.at (drop l.at l.text))) ≡ length (filter (counts l.kind) (fields_from l.separators 0 0 l.text));
}
