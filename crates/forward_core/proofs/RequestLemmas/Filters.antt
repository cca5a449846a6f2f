-- A body that is whole is accepted or refused: no chain of filters goes on behind it.
use Rattle.std.proofs.Common.{◌≡◌, ℕ, zero, suc, List, [], ◌∷◌, Bool, true, false, refl, sym, subst, length}
use Rattle.std.specs.Prelude.{Option, Some, None, ◌&&◌, not, ◌-◌, nat_le, if◌then◌else◌}
use Rattle.body_filter.specs.declared.filter_spec.FedState.{FedState}
use Rattle.body_filter.specs.declared.filter_spec.FedState.TheVariants.{Going, Over, Refused}
use Rattle.body_filter.specs.declared.filter_spec.FilterSpec.{FilterSpec}
use Rattle.body_filter.specs.declared.filter_spec.FilterSpec.TheVariants.{Limit, Deny, Replace}
use Rattle.body_filter.specs.Filter.{Filtered, filtered, filtered_by, searched, matched, behind, begins, ended, joined, is_over}

-- the state is an end
abbrev pub IsEnd : FedState → Type 0
IsEnd Going = ⊥
IsEnd Over = Unit {0}
IsEnd (Refused code) = Unit {0}

matched_ends : (to : Option (List ℕ)) (rest : Filtered) → IsEnd rest.state → IsEnd (matched to rest).state
matched_ends None rest h = tt
matched_ends (Some to) rest h = h

chosen : (here there : Bool) (a b : Filtered) → IsEnd a.state → IsEnd b.state → IsEnd (if here then a else if there && not true then ended Going else b).state
chosen true there a b h k = h
chosen false true a b h k = k
chosen false false a b h k = k

searched_ends : (needle : List ℕ) (to : Option (List ℕ)) (skip : ℕ) (bytes : List ℕ) → IsEnd (searched needle to skip true bytes).state
unfolding searched
searched_ends needle to skip [] = tt
searched_ends needle to (suc skip) (b ∷ bs) = searched_ends needle to skip bs
searched_ends needle to zero (b ∷ bs) =
    chosen (begins needle (b ∷ bs)) (begins (b ∷ bs) needle) (matched to (searched needle to (length needle - 1) true bs)) (behind (b ∷ []) (searched needle to 0 true bs))
    (matched_ends to (searched needle to (length needle - 1) true bs) (searched_ends needle to (length needle - 1) bs)) (searched_ends needle to 0 bs)

limit_ends : (fits : Bool) → IsEnd (if fits then Over else Refused 413)
limit_ends true = tt
limit_ends false = tt

by_ends : (filter : FilterSpec) (bytes : List ℕ) → IsEnd (filtered_by filter true bytes).state
by_ends (Limit n) bytes = limit_ends (nat_le (length bytes) n)
by_ends (Deny needle) bytes = searched_ends needle None 0 bytes
by_ends (Replace from to) bytes = searched_ends from (Some to) 0 bytes

joined_ends : (first last : FedState) → IsEnd first → IsEnd last → IsEnd (joined first last)
joined_ends first Going h k = absurd k
joined_ends first Over h k = h
joined_ends first (Refused code) h k = tt

over_ends : (first : FedState) → IsEnd first → is_over first ≡ true
over_ends Going h = absurd h
over_ends Over h = refl
over_ends (Refused code) h = refl

pub whole_ends : (filters : List FilterSpec) (bytes : List ℕ) → IsEnd (filtered filters true bytes).state
unfolding filtered
whole_ends [] bytes = tt
whole_ends (f ∷ fs) bytes =
    let first : Filtered = filtered_by f true bytes in
    joined_ends first.state (filtered fs (is_over first.state) first.output).state (by_ends f bytes)
    (subst (λ (w : Bool). IsEnd (filtered fs w first.output).state) (sym (over_ends first.state (by_ends f bytes))) (whole_ends fs first.output))
