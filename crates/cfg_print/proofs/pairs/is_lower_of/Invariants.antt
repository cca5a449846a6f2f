use Rattle.std.proofs.Common.{◌≡◌, map, drop}
use Rattle.std.specs.Char.{to_ascii_lowercase}
use Rattle.std.specs.Str.{bytes_eq}
use Rattle.cfg_print.proofs.pairs.is_lower_of.Given as goal

-- what is left decides
abbrev pub invariant-loop-at : goal.invariant-loop-at
invariant-loop-at l = bytes_eq (drop l.at l.text) (map to_ascii_lowercase (drop l.at l.name)) ≡ bytes_eq l.text (map to_ascii_lowercase l.name)
