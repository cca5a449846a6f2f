use Rattle.std.proofs.Common.{◌≡◌, drop}
use Rattle.std.specs.List.{list_any}
use Rattle.http_rules.specs.Valid.{is_replace}
use Rattle.cfg_parse.proofs.filters.has_replace.Given as goal

abbrev pub invariant-loop-at : goal.invariant-loop-at
invariant-loop-at l = list_any is_replace (drop l.at l.filters) ≡ list_any is_replace l.fn.filters
