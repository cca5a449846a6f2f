use Rattle.std.proofs.Common.{◌≡◌, drop}
use Rattle.std.specs.Prelude.{fold}
use Rattle.cfg_print.specs.Table.{tabled, with_term}
use Rattle.cfg_print.proofs.table.add_terms.Given as goal

-- what is left of the terms is still to come
abbrev pub invariant-loop-term : goal.invariant-loop-term
invariant-loop-term l = fold with_term (tabled l.page.text.items l.table.keys l.table.lines) (drop l.term-index l.terms) ≡ fold with_term (tabled l.initial.page.text.items l.initial.table.keys l.initial.table.lines) l.terms
