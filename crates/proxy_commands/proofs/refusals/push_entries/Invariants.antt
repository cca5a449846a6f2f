use Rattle.std.proofs.Common.{◌≡◌, ◌++◌, drop}
use Rattle.std.specs.List.{flat_map}
use Rattle.proxy_commands.specs.Refusals.{refused_entry}
use Rattle.proxy_commands.proofs.refusals.push_entries.Given as goal

abbrev pub invariant-loop-line : goal.invariant-loop-line
invariant-loop-line l = l.text ++ flat_map (refused_entry l.name) (drop l.line-index l.lines) ≡ l.initial.text ++ flat_map (refused_entry l.name) l.lines
