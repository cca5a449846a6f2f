-- A filter line that is taken is of a filter that there may be, and keeps its direction's chain one.
use Rattle.std.proofs.Common.{◌≡◌, ℕ, ◌+◌, ◌≤◌, ◌<◌, Bool, true, false, cond, ltb, leb, List, [], ◌∷◌, ◌++◌, length, Option, Some, None, Result, Ok, Err, refl, ap, ◌∙◌, subst, arith, length-append}
use Rattle.std.specs.Prelude.{not, ◌&&◌, ◌||◌, count_by}
use Rattle.std.specs.List.{list_any}
use Rattle.std.proofs.lemmas.Bool.Decides.{nat_tests}
use Rattle.std.proofs.lemmas.List.Sums.{sum_by-append, sum_by-cons}
use Rattle.px_bytes.specs.Numbers.{decimal_of}
use Rattle.body_filter.specs.declared.filter_spec.FilterSpec.{FilterSpec}
use Rattle.body_filter.specs.declared.filter_spec.FilterSpec.TheVariants.{Limit, Deny, Replace}
use Rattle.body_filter.specs.Valid.{IsFilter, AreFilters}
use Rattle.http_rules.specs.Valid.{is_replace, IsChain}
use Rattle.cfg_parse.specs.declared.fault.CfgKind.{CfgKind}
use Rattle.cfg_parse.specs.declared.fault.CfgKind.TheVariants as kinds
use Rattle.cfg_expr.specs.declared.side.Side.{Side}
use Rattle.cfg_parse.specs.declared.filters.FilterName.{FilterName}
use Rattle.cfg_parse.specs.declared.filters.FilterName.TheVariants as names
use Rattle.cfg_parse.specs.Limits.{most_needle, most_filters}
use Rattle.cfg_parse.specs.Reading.{◌>>=◌, argument, no_more}
use Rattle.cfg_parse.specs.Filters.{filter_name_of, named_side, count_of, text_of, limit_filter, deny_filter, replace_filter, named_filter, filter_line, with_filter}
use Rattle.cfg_parse.proofs.StepLemmas.{bind_ok, passed, given, ok_is, and_true}

-- no filter at all
pub none_chain : IsChain []
none_chain = record { filters = tt; few = omega arith; one = omega arith }

filters_more : (filters : List FilterSpec) (filter : FilterSpec) → AreFilters filters → IsFilter filter → AreFilters (filters ++ filter ∷ [])
filters_more [] filter all good = (good, tt)
filters_more (f ∷ filters) filter all good = (all.0, filters_more filters filter all.1 good)

-- where none replaces, none is counted
none_counted : (filters : List FilterSpec) → list_any is_replace filters ≡ false → count_by is_replace filters ≡ 0
none_counted [] none = refl
none_counted (f ∷ filters) none = sum_by-cons (λ g. cond (is_replace g) 1 0) f filters ∙ by (is_replace f) none (none_counted filters)
  where
    by : (b : Bool) → (b || list_any is_replace filters) ≡ false → (list_any is_replace filters ≡ false → count_by is_replace filters ≡ 0)
        → cond b 1 0 + count_by is_replace filters ≡ 0
    by true none others = absurd cc
    by false none others = let rest = others none in omega (arith, rest)

one_more : (filters : List FilterSpec) (filter : FilterSpec) → count_by is_replace (filters ++ filter ∷ []) ≡ count_by is_replace filters + cond (is_replace filter) 1 0
one_more filters filter =
    let sum = sum_by-append (λ f. cond (is_replace f) 1 0) filters (filter ∷ []) in
    let last = sum_by-cons (λ f. cond (is_replace f) 1 0) filter [] in
    omega (arith, sum, last)

not_both : (b any : Bool) (count : ℕ) → not (b && any) ≡ true → (any ≡ false → count ≡ 0) → count ≤ 1 → count + cond b 1 0 ≤ 1
not_both true true count e none most = absurd cc
not_both true false count e none most = let zero = none refl in omega arith
not_both false any count e none most = omega arith

-- one more filter
pub chain_more : (filters : List FilterSpec) (filter : FilterSpec) (made : List FilterSpec) → IsChain filters → IsFilter filter → with_filter filters filter ≡ Ok made → IsChain made
unfolding with_filter
chain_more filters filter made chain good e =
    let test = passed (ltb (length filters) most_filters && not (is_replace filter && list_any is_replace filters)) kinds.Limit (Ok (filters ++ filter ∷ [])) made e in
    let both = and_true (ltb (length filters) most_filters) (not (is_replace filter && list_any is_replace filters)) test.0 in
    let len : length (filters ++ filter ∷ []) ≡ length filters + 1 = length-append filters (filter ∷ []) in
    let few : length (filters ++ filter ∷ []) ≤ 8 = grind (arith, nat_tests) in
    let count = one_more filters filter in
    let least = not_both (is_replace filter) (list_any is_replace filters) (count_by is_replace filters) both.1 (none_counted filters) chain.one in
    let one : count_by is_replace (filters ++ filter ∷ []) ≤ 1 = omega (arith, count, least) in
    subst IsChain (ok_is (filters ++ filter ∷ []) made test.1) (record { filters = filters_more filters filter chain.filters good; few = few; one = one })

-- ---- the words of a line

text_of-within : (least : ℕ) (word text : List ℕ) → text_of least word ≡ Ok text → (least ≤ length text) × (length text ≤ 256)
unfolding text_of
text_of-within least word text e =
    let test = passed (leb least (length word) && leb (length word) most_needle) kinds.Argument (Ok word) text e in
    let both = and_true (leb least (length word)) (leb (length word) most_needle) test.0 in
    let low : least ≤ length word = grind (arith, nat_tests) in
    let high : length word ≤ 256 = grind (arith, nat_tests) in
    subst (λ (t : List ℕ). (least ≤ length t) × (length t ≤ 256)) (ok_is word text test.1) (low, high)

named_filter-good : (name : FilterName) (arguments : List (List ℕ)) (filter : FilterSpec) → named_filter name arguments ≡ Ok filter → IsFilter filter
unfolding limit_filter deny_filter replace_filter
named_filter-good names.Limit arguments filter e =
    let a = bind_ok (argument arguments) (λ word. count_of word.0 >>= λ most. no_more word.1 >>= λ ended. Ok (Limit most)) filter e in
    let b = bind_ok (count_of a.0.0) (λ most. no_more a.0.1 >>= λ ended. Ok (Limit most)) filter a.1.1 in
    let c = bind_ok (no_more a.0.1) (λ ended. Ok (Limit b.0)) filter b.1.1 in
    subst IsFilter (ok_is (Limit b.0) filter c.1.1) tt
named_filter-good names.Deny arguments filter e =
    let a = bind_ok (argument arguments) (λ word. text_of 1 word.0 >>= λ needle. no_more word.1 >>= λ ended. Ok (Deny needle)) filter e in
    let b = bind_ok (text_of 1 a.0.0) (λ needle. no_more a.0.1 >>= λ ended. Ok (Deny needle)) filter a.1.1 in
    let c = bind_ok (no_more a.0.1) (λ ended. Ok (Deny b.0)) filter b.1.1 in
    let within = text_of-within 1 a.0.0 b.0 b.1.0 in
    subst IsFilter (ok_is (Deny b.0) filter c.1.1) (omega (arith, within.0), within.1)
named_filter-good names.Replace arguments filter e =
    let a = bind_ok (argument arguments) (λ first. text_of 1 first.0 >>= λ from. argument first.1 >>= λ second. text_of 0 second.0 >>= λ to. no_more second.1 >>= λ ended. Ok (Replace from to)) filter e in
    let b = bind_ok (text_of 1 a.0.0) (λ from. argument a.0.1 >>= λ second. text_of 0 second.0 >>= λ to. no_more second.1 >>= λ ended. Ok (Replace from to)) filter a.1.1 in
    let c = bind_ok (argument a.0.1) (λ second. text_of 0 second.0 >>= λ to. no_more second.1 >>= λ ended. Ok (Replace b.0 to)) filter b.1.1 in
    let d = bind_ok (text_of 0 c.0.0) (λ to. no_more c.0.1 >>= λ ended. Ok (Replace b.0 to)) filter c.1.1 in
    let f = bind_ok (no_more c.0.1) (λ ended. Ok (Replace b.0 d.0)) filter d.1.1 in
    let within = text_of-within 1 a.0.0 b.0 b.1.0 in
    let short = text_of-within 0 c.0.0 d.0 d.1.0 in
    subst IsFilter (ok_is (Replace b.0 d.0) filter f.1.1) (omega (arith, within.0), within.1, short.1)

same_filter : (direction : Side) (filter : FilterSpec) (taken : Side × FilterSpec) → given (direction, filter) ≡ given taken → IsFilter filter → IsFilter taken.1
same_filter direction filter taken same good =
    let is : filter ≡ taken.1 = ap (λ (t : Side × FilterSpec). t.1) (ok_is (direction, filter) taken same) in
    subst IsFilter is good

-- a line's filter is one that there may be
pub filter_line-good : (arguments : List (List ℕ)) (taken : Side × FilterSpec) → filter_line arguments ≡ Ok taken → IsFilter taken.1
unfolding filter_line
filter_line-good arguments taken e =
    let a = bind_ok (argument arguments) (λ first. filter_name_of first.0 >>= λ name. argument first.1 >>= λ second. named_side second.0 >>= λ direction. named_filter name second.1 >>= λ filter. Ok (direction, filter)) taken e in
    let b = bind_ok (filter_name_of a.0.0) (λ name. argument a.0.1 >>= λ second. named_side second.0 >>= λ direction. named_filter name second.1 >>= λ filter. Ok (direction, filter)) taken a.1.1 in
    let c = bind_ok (argument a.0.1) (λ second. named_side second.0 >>= λ direction. named_filter b.0 second.1 >>= λ filter. Ok (direction, filter)) taken b.1.1 in
    let d = bind_ok (named_side c.0.0) (λ direction. named_filter b.0 c.0.1 >>= λ filter. Ok (direction, filter)) taken c.1.1 in
    let f = bind_ok (named_filter b.0 c.0.1) (λ filter. Ok (d.0, filter)) taken d.1.1 in
    same_filter d.0 f.0 taken f.1.1 (named_filter-good b.0 c.0.1 f.0 f.1.0)
