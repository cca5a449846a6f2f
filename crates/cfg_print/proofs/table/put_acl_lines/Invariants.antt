use Rattle.std.proofs.Common.{◌≡◌, ◌++◌, drop}
use Rattle.std.specs.List.{flat_map}
use Rattle.cfg_print.specs.Table.{acl_line, name_at}
use Rattle.cfg_print.proofs.table.put_acl_lines.Given as goal

-- what is left of the tests is still to come
abbrev pub invariant-loop-test : goal.invariant-loop-test
invariant-loop-test l = l.page.text.items ++ flat_map (acl_line (name_at l.number)) (drop l.test-index l.tests) ≡ l.initial.page.text.items ++ flat_map (acl_line (name_at l.number)) l.tests
