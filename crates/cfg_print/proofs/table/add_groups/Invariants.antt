use Rattle.std.proofs.Common.{◌≡◌, drop}
use Rattle.std.specs.Prelude.{fold}
use Rattle.std.specs.List.{flat_map}
use Rattle.cfg_print.specs.Table.{tabled, with_term}
use Rattle.cfg_print.proofs.table.add_groups.Given as goal

-- what is left of the groups is still to come
abbrev pub invariant-loop-group : goal.invariant-loop-group
invariant-loop-group l = fold with_term (tabled l.page.text.items l.table.keys l.table.lines) (flat_map (λ group. group) (drop l.group-index l.groups)) ≡ fold with_term (tabled l.initial.page.text.items l.initial.table.keys l.initial.table.lines) (flat_map (λ group. group) l.groups)
