use Rattle.std.proofs.Common.{◌≡◌}
use Rattle.std.specs.List.{list_any}
use Rattle.px_bytes.specs.Values.{values_of}
use Rattle.http_rules.specs.Action.Replacing.{matches}
use Rattle.http_rules.proofs.action.listed.matches_one.Given as goal

-- whether it matches in one of those that are left
abbrev pub invariant-loop-value : goal.invariant-loop-value
invariant-loop-value l = list_any (matches l.pat) l.value-iterator ≡ list_any (matches l.pat) (values_of l.field)
