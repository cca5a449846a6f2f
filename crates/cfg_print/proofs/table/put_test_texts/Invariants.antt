use Rattle.std.proofs.Common.{◌≡◌, ◌++◌, drop}
use Rattle.std.specs.List.{flat_map}
use Rattle.cfg_print.specs.Table.{test_text}
use Rattle.cfg_print.proofs.table.put_test_texts.Given as goal

-- what is left of the tests is still to come
abbrev pub invariant-loop-test : goal.invariant-loop-test
invariant-loop-test l = l.page.text.items ++ flat_map test_text (drop l.test-index l.tests) ≡ l.initial.page.text.items ++ flat_map test_text l.tests
