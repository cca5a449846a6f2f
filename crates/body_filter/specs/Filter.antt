-- What filters make of the bytes of a body: of the whole body, or of the bytes so far, where more may come.
use Rattle.std.specs.Prelude.{ℕ, zero, suc, ◌-◌, Bool, true, false, not, ◌&&◌, ◌==◌, nat_le, if◌then◌else◌, Option, Some, None, List, [], ◌∷◌, ◌++◌, length, take}
use Rattle.body_filter.specs.declared.filter_spec.FedState.{FedState}
use Rattle.body_filter.specs.declared.filter_spec.FedState.TheVariants.{Going, Over, Refused}
use Rattle.body_filter.specs.declared.filter_spec.FilterSpec.{FilterSpec}
use Rattle.body_filter.specs.declared.filter_spec.FilterSpec.TheVariants.{Limit, Deny, Replace}

-- what is given, and whether the body goes on, was accepted, or was refused with a code
pub record Filtered : Type 0 where
  pub output : List ℕ
  pub state : FedState

-- nothing, and this state
abbrev pub ended : FedState → Filtered
ended state = record { output = []; state = state }

-- these bytes, and what follows them
abbrev pub behind : List ℕ → Filtered → Filtered
behind bytes rest = record { output = bytes ++ rest.output; state = rest.state }

-- the state behind the last byte of a body that is whole, or not yet
abbrev pub end_of : Bool → FedState
end_of true = Over
end_of false = Going

abbrev pub is_over : FedState → Bool
is_over Going = false
is_over Over = true
is_over (Refused code) = true

-- the text begins with the front
abbrev pub begins : List ℕ → List ℕ → Bool
begins [] text = true
begins (f ∷ fs) [] = false
begins (f ∷ fs) (b ∷ bs) = f == b && begins fs bs

-- the first n bytes; 413 where there are more
abbrev pub limited : ℕ → Bool → List ℕ → Filtered
limited n whole body = record { output = take n body; state = if nat_le (length body) n then end_of whole else Refused 413 }

-- behind a needle: 403, or its replacement and what follows
abbrev pub matched : Option (List ℕ) → Filtered → Filtered
matched None rest = ended (Refused 403)
matched (Some to) rest = behind to rest

-- The bytes before the first needle, and what stands for it. Where more may come, the end of the bytes is kept back from
-- the first place on from which it may become a needle. So many bytes in front are passed over: those of a needle.
unfoldable pub searched : List ℕ → Option (List ℕ) → ℕ → Bool → List ℕ → Filtered
searched needle to skip whole [] = ended (end_of whole)
searched needle to (suc skip) whole (b ∷ bs) = searched needle to skip whole bs
searched needle to zero whole (b ∷ bs) =
    if begins needle (b ∷ bs) then matched to (searched needle to (length needle - 1) whole bs)
    else if begins (b ∷ bs) needle && not whole then ended Going
    else behind (b ∷ []) (searched needle to 0 whole bs)

-- one filter, over the whole body (`true`) or the bytes so far (`false`)
abbrev pub filtered_by : FilterSpec → Bool → List ℕ → Filtered
filtered_by (Limit n) = limited n
filtered_by (Deny needle) = searched needle None 0
filtered_by (Replace from to) = searched from (Some to) 0

-- the last refusal decides
abbrev pub joined : FedState → FedState → FedState
joined first Going = Going
joined first Over = first
joined first (Refused code) = Refused code

-- The output of the first goes through what follows, as a whole body once no more of it can come.
abbrev pub through : Filtered → (Bool → List ℕ → Filtered) → Filtered
through first next =
    let last = next (is_over first.state) first.output in
    record { output = last.output; state = joined first.state last.state }

-- no filter
abbrev pub passed : Bool → List ℕ → Filtered
passed whole body = record { output = body; state = end_of whole }

-- a chain of filters, over the whole body (`true`) or the bytes so far (`false`)
unfoldable pub filtered : List FilterSpec → Bool → List ℕ → Filtered
filtered [] whole body = passed whole body
filtered (filter ∷ filters) whole body = through (filtered_by filter whole body) (filtered filters)
