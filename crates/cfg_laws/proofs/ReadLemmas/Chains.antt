-- The filters of a direction with one more that was read can be said again.
use Rattle.std.proofs.Common.{◌≡◌, ℕ, ◌+◌, ◌≤◌, Bool, true, false, cond, List, [], ◌∷◌, ◌++◌, length, Ok, refl, ◌∙◌, length-append, arith}
use Rattle.std.proofs.lemmas.Bool.{and_parts, and_from, ltb-true}
use Rattle.std.proofs.lemmas.List.Sums.{sum_by-append, sum_by-cons}
use Rattle.std.proofs.lemmas.List.Folds.{list_all-append}
use Rattle.std.specs.Prelude.{◌&&◌, ◌||◌, not, nat_lt, count_by}
use Rattle.std.specs.List.{list_any, list_all}
use Rattle.body_filter.specs.declared.filter_spec.FilterSpec.{FilterSpec}
use Rattle.body_filter.specs.Valid.{IsFilter, AreFilters}
use Rattle.http_rules.specs.Valid.{is_replace}
use Rattle.cfg_parse.specs.declared.fault.CfgKind.TheVariants.{Limit}
use Rattle.cfg_parse.specs.Limits.{most_filters}
use Rattle.cfg_parse.specs.Filters.{with_filter}
use Rattle.cfg_laws.specs.SpelledSettings.{is_spelled_filter}
use Rattle.cfg_laws.specs.Laws.ReadSettings.{CanSayFilter, CanSayChain}
use Rattle.cfg_laws.proofs.ReadLemmas.Steps.{GivesSo, so_given}
use Rattle.cfg_laws.proofs.ReadLemmas.SettingSteps.{so_if}

-- no filter at all
pub none_said : CanSayChain []
none_said = record { good = record { filters = tt; few = omega arith; one = omega arith }; said = refl }

filters_more : (filters : List FilterSpec) (filter : FilterSpec) → AreFilters filters → IsFilter filter → AreFilters (filters ++ filter ∷ [])
filters_more [] filter all good = (good, tt)
filters_more (one ∷ filters) filter all good = (all.0, filters_more filters filter all.1 good)

-- where none replaces, none is counted
none_by : (filters : List FilterSpec) (b : Bool) → (b || list_any is_replace filters) ≡ false → (list_any is_replace filters ≡ false → count_by is_replace filters ≡ 0) → cond b 1 0 + count_by is_replace filters ≡ 0
none_by filters true none others = absurd cc
none_by filters false none others = let rest = others none in omega (arith, rest)

none_counted : (filters : List FilterSpec) → list_any is_replace filters ≡ false → count_by is_replace filters ≡ 0
none_counted [] none = refl
none_counted (one ∷ filters) none = sum_by-cons (λ g. cond (is_replace g) 1 0) one filters ∙ none_by filters (is_replace one) none (none_counted filters)

one_more : (filters : List FilterSpec) (filter : FilterSpec) → count_by is_replace (filters ++ filter ∷ []) ≡ count_by is_replace filters + cond (is_replace filter) 1 0
one_more filters filter =
    let sum = sum_by-append (λ f. cond (is_replace f) 1 0) filters (filter ∷ []) in
    let last = sum_by-cons (λ f. cond (is_replace f) 1 0) filter [] in
    omega (arith, sum, last)

not_both : (b any : Bool) (count : ℕ) → not (b && any) ≡ true → (any ≡ false → count ≡ 0) → count ≤ 1 → count + cond b 1 0 ≤ 1
not_both true true count e none most = absurd cc
not_both true false count e none most = let zero = none refl in omega arith
not_both false any count e none most = omega arith

chain_said : (filters : List FilterSpec) (filter : FilterSpec) → CanSayChain filters → CanSayFilter filter → nat_lt (length filters) most_filters ≡ true → not (is_replace filter && list_any is_replace filters) ≡ true
    → CanSayChain (filters ++ filter ∷ [])
chain_said filters filter before is room alone =
    let chain = before.good in
    let most = chain.one in
    let len : length (filters ++ filter ∷ []) ≡ length filters + 1 = length-append filters (filter ∷ []) in
    let less = ltb-true (length filters) most_filters room in
    let few : length (filters ++ filter ∷ []) ≤ 8 = omega (arith, len, less) in
    let count = one_more filters filter in
    let least = not_both (is_replace filter) (list_any is_replace filters) (count_by is_replace filters) alone (none_counted filters) most in
    let one : count_by is_replace (filters ++ filter ∷ []) ≤ 1 = omega (arith, count, least) in record {
      good = record { filters = filters_more filters filter chain.filters is.good; few = few; one = one };
      said = list_all-append is_spelled_filter filters (filter ∷ []) ∙ and_from (list_all is_spelled_filter filters) (is_spelled_filter filter && true) before.said (and_from (is_spelled_filter filter) true is.said refl);
    }

made_said : (filters : List FilterSpec) (filter : FilterSpec) → CanSayChain filters → CanSayFilter filter → GivesSo CanSayChain (with_filter filters filter)
unfolding with_filter
made_said filters filter before is =
    let room : Bool = nat_lt (length filters) most_filters in
    let alone : Bool = not (is_replace filter && list_any is_replace filters) in
    so_if CanSayChain (room && alone) Limit (Ok (filters ++ filter ∷ [])) (λ h. let both = and_parts room alone h in chain_said filters filter before is both.0 both.1)

-- one more filter
pub more_said : (filters : List FilterSpec) (filter : FilterSpec) (made : List FilterSpec) → CanSayChain filters → CanSayFilter filter → with_filter filters filter ≡ Ok made → CanSayChain made
more_said filters filter made before is e = so_given CanSayChain (with_filter filters filter) made (made_said filters filter before is) e
