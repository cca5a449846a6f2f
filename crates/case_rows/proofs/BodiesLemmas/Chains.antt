-- A filter behind filters that there may be.
use Rattle.std.proofs.Common.{◌≡◌, List, [], ◌∷◌, ◌++◌, sym, subst}
use Rattle.body_filter.specs.declared.filter_spec.FilterSpec.{FilterSpec}
use Rattle.body_filter.specs.Valid.{IsFilter, AreFilters}

filters_more : (filters : List FilterSpec) (filter : FilterSpec) → AreFilters filters → IsFilter filter → AreFilters (filters ++ filter ∷ [])
filters_more [] filter all good = (good, tt)
filters_more (f ∷ filters) filter all good = (all.0, filters_more filters filter all.1 good)

-- they are filters that there may be
pub chain_more : (filters made : List FilterSpec) (filter : FilterSpec) → AreFilters filters → IsFilter filter → made ≡ filters ++ filter ∷ [] → AreFilters made
chain_more filters made filter all good e = subst AreFilters (sym e) (filters_more filters filter all good)

pub ruleset chains = (chain_more)
