use Rattle.std.proofs.Common.{◌≡◌, drop}
use Rattle.cfg_print.specs.Pairs as spec
use Rattle.cfg_print.proofs.pairs.name_in.Given as goal

-- what is left decides
abbrev pub invariant-loop-name : goal.invariant-loop-name
invariant-loop-name l = spec.name_in (drop l.name-index l.names) l.field ≡ spec.name_in l.names l.field
