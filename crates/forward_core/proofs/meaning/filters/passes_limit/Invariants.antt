use Rattle.std.proofs.Common.{◌≡◌, drop}
use Rattle.forward_core.specs.Meaning.Product as spec
use Rattle.forward_core.proofs.meaning.filters.passes_limit.Given as goal

-- the filters that are left decide as all of them
abbrev pub invariant-loop-at : goal.invariant-loop-at
invariant-loop-at l = spec.passes_limit (drop l.at l.filters) l.length ≡ spec.passes_limit l.filters l.length
