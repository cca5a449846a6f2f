use Rattle.std.proofs.Common.{◌≡◌, ◌+◌, drop}
use Rattle.std.specs.List.{position_or_len}
use Rattle.cfg_print.specs.Table.{is_key}
use Rattle.cfg_print.proofs.table.place_of.Given as goal

-- no key so far is this one
abbrev pub invariant-loop-at : goal.invariant-loop-at
invariant-loop-at l = l.at + position_or_len (is_key l.key) (drop l.at l.keys) ≡ position_or_len (is_key l.key) l.keys
