use Rattle.std.proofs.Common.{◌≡◌, drop}
use Rattle.forward_core.specs.Meaning.Product as spec
use Rattle.forward_core.proofs.meaning.filters.replaces.Given as goal

-- the filters that are left replace as all of them
abbrev pub invariant-loop-at : goal.invariant-loop-at
invariant-loop-at l = spec.replaces (drop l.at l.filters) ≡ spec.replaces l.filters
