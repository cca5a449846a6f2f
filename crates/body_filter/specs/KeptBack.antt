-- What a filter keeps back of the bytes so far, since it may still become a needle.
use Rattle.std.specs.Prelude.{◌≡◌, ℕ, zero, suc, ◌-◌, Bool, true, false, ◌||◌, if◌then◌else◌, List, [], ◌∷◌, ◌++◌, length}
use Rattle.body_filter.specs.declared.filter_spec.FedState.{FedState}
use Rattle.body_filter.specs.declared.filter_spec.FedState.TheVariants.{Going, Over, Refused}
use Rattle.body_filter.specs.declared.filter_spec.FilterSpec.{FilterSpec}
use Rattle.body_filter.specs.declared.filter_spec.FilterSpec.TheVariants.{Limit, Deny, Replace}
use Rattle.body_filter.specs.Filter.{Filtered, begins, filtered_by}
use Rattle.body_filter.specs.Kept.{kept}

-- whether the needle stands somewhere in the text
unfoldable pub holds : List ℕ → List ℕ → Bool
holds needle [] = begins needle []
holds needle (b ∷ bs) = begins needle (b ∷ bs) || holds needle bs

-- The bytes behind the last needle, where needles are met from the left and without overlap. So many bytes in front are
-- passed over: those of a needle.
unfoldable pub unmatched : List ℕ → ℕ → List ℕ → List ℕ
unmatched needle skip [] = []
unmatched needle (suc skip) (b ∷ bs) = unmatched needle skip bs
unmatched needle zero (b ∷ bs) =
    if begins needle (b ∷ bs) then unmatched needle (length needle - 1) bs
    else if holds needle bs then unmatched needle 0 bs
    else b ∷ bs

-- what a filter keeps back: the longest end of its unmatched bytes with which its needle begins, unless it has refused
abbrev pub kept_back : FilterSpec → List ℕ → List ℕ
kept_back (Limit n) text = []
kept_back (Deny needle) text = if holds needle text then [] else kept needle text
kept_back (Replace from to) text = kept from (unmatched from 0 text)

-- the state of a body that ends where it stands
abbrev pub at_end : FedState → FedState
at_end Going = Over
at_end Over = Over
at_end (Refused code) = Refused code

-- these bytes behind what was given, and no more
abbrev pub closing : List ℕ → Filtered → Filtered
closing bytes f = record { output = f.output ++ bytes; state = at_end f.state }

-- a body that ends here brings what was kept back, and nothing else
abbrev pub GivesKept : FilterSpec → List ℕ → Type 0
GivesKept filter text = filtered_by filter true text ≡ closing (kept_back filter text) (filtered_by filter false text)
