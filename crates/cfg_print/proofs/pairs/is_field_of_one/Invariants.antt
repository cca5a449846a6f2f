use Rattle.std.proofs.Common.{◌≡◌, drop}
use Rattle.std.specs.List.{list_any}
use Rattle.cfg_print.specs.Pairs as spec
use Rattle.cfg_print.proofs.pairs.is_field_of_one.Given as goal

-- what is left decides
abbrev pub invariant-loop-name : goal.invariant-loop-name
invariant-loop-name l = list_any (spec.is_field_of l.field) (drop l.name-index l.names) ≡ list_any (spec.is_field_of l.field) l.names
