use Rattle.std.proofs.Common.{◌≡◌, drop}
use Rattle.std.specs.Prelude.{fold}
use Rattle.cfg_print.specs.Table.{tabled, with_term, terms_in}
use Rattle.cfg_print.proofs.table.add_rules.Given as goal

-- what is left of the rules is still to come
abbrev pub invariant-loop-rule : goal.invariant-loop-rule
invariant-loop-rule l = fold with_term (tabled l.page.text.items l.table.keys l.table.lines) (terms_in (drop l.rule-index l.rules)) ≡ fold with_term (tabled l.initial.page.text.items l.initial.table.keys l.initial.table.lines) (terms_in l.rules)
