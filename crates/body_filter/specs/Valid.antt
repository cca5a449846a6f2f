-- Which filters there may be.
use Rattle.std.specs.Prelude.{◌<◌, ◌≤◌, List, [], ◌∷◌, length, ⊤}
use Rattle.body_filter.specs.declared.filter_spec.FilterSpec.{FilterSpec}
use Rattle.body_filter.specs.declared.filter_spec.FilterSpec.TheVariants.{Limit, Deny, Replace}

-- needles have 1 to 256 bytes, texts in their place at most 256
abbrev pub IsFilter : FilterSpec → Type 0
IsFilter (Limit n) = ⊤
IsFilter (Deny needle) = (0 < length needle) × (length needle ≤ 256)
IsFilter (Replace from to) = (0 < length from) × (length from ≤ 256) × (length to ≤ 256)

abbrev pub AreFilters : List FilterSpec → Type 0
AreFilters [] = ⊤
AreFilters (filter ∷ filters) = IsFilter filter × AreFilters filters
