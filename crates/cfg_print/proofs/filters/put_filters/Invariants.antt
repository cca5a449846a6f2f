use Rattle.std.proofs.Common.{◌≡◌, ◌++◌, drop}
use Rattle.cfg_print.specs.Printed.{filters_text}
use Rattle.cfg_print.proofs.filters.put_filters.Given as goal

-- what is left of the filters is still to come
abbrev pub invariant-loop-filter : goal.invariant-loop-filter
invariant-loop-filter l = l.page.text.items ++ filters_text l.side (drop l.filter-index l.chain) ≡ l.initial.page.text.items ++ filters_text l.side l.chain
