-- The lines of filters of a canonical text, and what they make.
use Rattle.std.proofs.Common.{◌≡◌, ℕ, ◌+◌, ◌^◌, ◌<◌, ◌≤◌, Bool, true, false, cond, List, [], ◌∷◌, ◌++◌, length, refl, sym, ap, ◌∙◌, subst, append_assoc, length-append, arith}
use Rattle.std.proofs.lemmas.Bool.{false≢true, le-leb, lt-ltb, ltb-true}
use Rattle.std.proofs.lemmas.List.{append-nil}
use Rattle.std.proofs.lemmas.List.Sums.{sum_by-append, sum_by-cons}
use Rattle.std.specs.Prelude.{◌&&◌, ◌||◌, not, nat_le, nat_lt, count_by, Result, Ok, Err, codes}
use Rattle.std.specs.Fmt.{decimal}
use Rattle.std.specs.List.{list_any}
use Rattle.body_filter.specs.declared.filter_spec.FilterSpec.{FilterSpec}
use Rattle.body_filter.specs.declared.filter_spec.FilterSpec.TheVariants.{Limit, Deny, Replace}
use Rattle.body_filter.specs.Valid.{IsFilter, AreFilters}
use Rattle.http_rules.specs.Valid.{is_replace, IsChain}
use Rattle.cfg_expr.specs.Reading.{plain}
use Rattle.cfg_expr.specs.declared.side.Side.{Side}
use Rattle.cfg_expr.specs.declared.side.Side.TheVariants.{Request, Response}
use Rattle.cfg_parse.specs.declared.fault.CfgKind.{CfgKind}
use Rattle.cfg_parse.specs.declared.fault.CfgKind.TheVariants as kinds
use Rattle.cfg_parse.specs.declared.keywords.Setting.TheVariants.{Filter}
use Rattle.cfg_parse.specs.declared.keywords.Places.TheVariants.{InListen}
use Rattle.cfg_parse.specs.declared.draft.Draft.{Draft}
use Rattle.cfg_parse.specs.declared.draft.Section.TheVariants as sections
use Rattle.cfg_parse.specs.Limits.{most_filters}
use Rattle.cfg_parse.specs.Reading.{◌>>=◌}
use Rattle.cfg_parse.specs.Filters.{filter_name_of, named_side, text_of, limit_filter, deny_filter, replace_filter, with_filter, filter_added, filter_setting}
use Rattle.cfg_parse.specs.Filters.{filter_line as read_filter}
use Rattle.cfg_parse.specs.Lines.{setting_line}
use Rattle.cfg_print.specs.Words.{line_text}
use Rattle.cfg_print.specs.Printed.{filter_line, filters_text}
use Rattle.cfg_laws.specs.SpelledSettings.{is_spelled_filter, are_spelled_filters}
use Rattle.cfg_laws.specs.Laws.Settings.{Makes}
use Rattle.cfg_laws.proofs.LawLemmas.Words.{both_left, both_right}
use Rattle.cfg_laws.proofs.LawLemmas.Sizes.{count_back}
use Rattle.cfg_laws.proofs.LawLemmas.Steps.{made_by_words, made_by_none, made_by_both, made_by_count}
use Rattle.cfg_laws.proofs.LawLemmas.SettingWords.{line_makes, filter_word}

-- ---- a filter

-- the words behind `filter`
abbrev words_behind : (side : List ℕ) → FilterSpec → List (List ℕ)
words_behind side (Limit most) = codes "body-limit" ∷ side ∷ decimal most ∷ []
words_behind side (Deny needle) = codes "body-deny" ∷ side ∷ needle ∷ []
words_behind side (Replace from to) = codes "body-replace" ∷ side ∷ from ∷ to ∷ []

line_is : (side : List ℕ) (spec : FilterSpec) → line_text (codes "filter" ∷ words_behind side spec) ≡ filter_line side spec
unfolding filter_line
line_is side (Limit most) = refl
line_is side (Deny needle) = refl
line_is side (Replace from to) = refl

a_text : (some short : Bool) (text : List ℕ) → some ≡ true → short ≡ true → cond (some && short) (Ok text) (Err kinds.Argument) ≡ Ok text
a_text some short text x y = cc

text_back : (least : ℕ) (text : List ℕ) → least ≤ length text → length text ≤ 256 → text_of least text ≡ Ok text
unfolding text_of
text_back least text some short = a_text (nat_le least (length text)) (nat_le (length text) 256) text (le-leb least (length text) some) (le-leb (length text) 256 short)

limit_back : (most : ℕ) → most < 10 ^ 18 → limit_filter (decimal most ∷ []) ≡ Ok (Limit most)
unfolding limit_filter
limit_back most fits = ap (λ (read : Result ℕ CfgKind). read >>= λ n. Ok (Limit n)) (count_back most fits)

deny_back : (needle : List ℕ) → 1 ≤ length needle → length needle ≤ 256 → deny_filter (needle ∷ []) ≡ Ok (Deny needle)
unfolding deny_filter
deny_back needle some short = ap (λ (read : Result (List ℕ) CfgKind). read >>= λ text. Ok (Deny text)) (text_back 1 needle some short)

replace_back : (from to : List ℕ) → 1 ≤ length from → length from ≤ 256 → length to ≤ 256 → replace_filter (from ∷ to ∷ []) ≡ Ok (Replace from to)
unfolding replace_filter
replace_back from to some short few =
    ap (λ (read : Result (List ℕ) CfgKind). read >>= λ text. text_of 0 to >>= λ other. Ok (Replace text other)) (text_back 1 from some short)
    ∙ ap (λ (read : Result (List ℕ) CfgKind). read >>= λ other. Ok (Replace from other)) (text_back 0 to (omega arith) few)

-- a filter of this side
abbrev of_side : Result FilterSpec CfgKind → Side → Result (Side × FilterSpec) CfgKind
of_side read side = read >>= λ filter. Ok (side, filter)

-- what is behind the name of the side
by_side : (word : List ℕ) (side : Side) (spec : FilterSpec) (read : Result FilterSpec CfgKind) → named_side word ≡ Ok side → read ≡ Ok spec → named_side word >>= of_side read ≡ Ok (side, spec)
by_side word side spec read is h =
    ap (λ (named : Result Side CfgKind). named >>= of_side read) is ∙ ap (λ (r : Result FilterSpec CfgKind). of_side r side) h

filter_read : (word : List ℕ) (side : Side) (spec : FilterSpec) → named_side word ≡ Ok side → IsFilter spec → is_spelled_filter spec ≡ true → read_filter (words_behind word spec) ≡ Ok (side, spec)
unfolding read_filter filter_name_of
filter_read word side (Limit most) is good fits = by_side word side (Limit most) (limit_filter (decimal most ∷ [])) is (limit_back most (ltb-true most (10 ^ 18) fits))
filter_read word side (Deny needle) is good fits = by_side word side (Deny needle) (deny_filter (needle ∷ [])) is (deny_back needle good.0 good.1)
filter_read word side (Replace from to) is good fits = by_side word side (Replace from to) (replace_filter (from ∷ to ∷ [])) is (replace_back from to good.0 good.1 good.2)

-- ---- one more of a chain

counted : (chain : List FilterSpec) → list_any is_replace chain ≡ true → 1 ≤ count_by is_replace chain
counted [] any = absurd (false≢true any)
counted (spec ∷ chain) any =
    let sum = sum_by-cons (λ f. cond (is_replace f) 1 0) spec chain in
    by (is_replace spec) any (counted chain) sum
  where
    by : (b : Bool) → (b || list_any is_replace chain) ≡ true → (list_any is_replace chain ≡ true → 1 ≤ count_by is_replace chain)
        → count_by is_replace (spec ∷ chain) ≡ cond b 1 0 + count_by is_replace chain → 1 ≤ count_by is_replace (spec ∷ chain)
    by true any others sum = omega (arith, sum)
    by false any others sum = omega (arith, sum, others any)

count_within : (before after : List FilterSpec) (spec : FilterSpec) → count_by is_replace (before ++ spec ∷ after) ≤ 1 → count_by is_replace before + cond (is_replace spec) 1 0 ≤ 1
count_within before after spec one =
    let all = sum_by-append (λ f. cond (is_replace f) 1 0) before (spec ∷ after) in
    let last = sum_by-cons (λ f. cond (is_replace f) 1 0) spec after in
    omega (arith, one, all, last)

not_both : (b any : Bool) (count : ℕ) → (any ≡ true → 1 ≤ count) → count + cond b 1 0 ≤ 1 → not (b && any) ≡ true
not_both true true count some one = let least = some refl in absurd (omega (arith, least, one))
not_both true false count some one = refl
not_both false any count some one = refl

a_filter : (few one : Bool) (made : List FilterSpec) → few ≡ true → one ≡ true → cond (few && one) (Ok made) (Err kinds.Limit) ≡ Ok made
a_filter few one made x y = cc

one_more : (before after : List FilterSpec) (spec : FilterSpec) → length (before ++ spec ∷ after) ≤ 8 → count_by is_replace (before ++ spec ∷ after) ≤ 1 → with_filter before spec ≡ Ok (before ++ spec ∷ [])
unfolding with_filter
one_more before after spec few one =
    let room : length before < 8 = omega (arith, length-append before (spec ∷ after)) in
    a_filter (nat_lt (length before) most_filters) (not (is_replace spec && list_any is_replace before)) (before ++ spec ∷ []) (lt-ltb (length before) 8 room)
    (not_both (is_replace spec) (list_any is_replace before) (count_by is_replace before) (counted before) (count_within before after spec one))

-- ---- lines

-- the one draft is made of the other by a line of a filter
line_made : (side : List ℕ) (spec : FilterSpec) (draft next : Draft) → draft.section ≡ sections.Listen → filter_setting draft (words_behind side spec) ≡ Ok next → Makes (filter_line side spec) draft next 1
unfolding setting_line
line_made side spec draft next section h =
    let words = words_behind side spec in
    subst (λ text. Makes text draft next 1) (line_is side spec)
    (made_by_words (codes "filter" ∷ words) draft next (line_makes draft next sections.Listen (codes "filter") Filter InListen words filter_word section refl refl (ap plain h)))

req : named_side (codes "req") ≡ Ok Request
unfolding named_side
req = refl

res : named_side (codes "res") ≡ Ok Response
unfolding named_side
res = refl

-- with these filters of requests, and of responses
abbrev of_requests : Draft → List FilterSpec → Draft
of_requests draft chain = record draft { req_filters = chain }

abbrev of_responses : Draft → List FilterSpec → Draft
of_responses draft chain = record draft { res_filters = chain }

request_set : (draft : Draft) (before after : List FilterSpec) (spec : FilterSpec) → IsFilter spec → is_spelled_filter spec ≡ true → length (before ++ spec ∷ after) ≤ 8 → count_by is_replace (before ++ spec ∷ after) ≤ 1
    → filter_setting (of_requests draft before) (words_behind (codes "req") spec) ≡ Ok (of_requests draft (before ++ spec ∷ []))
unfolding filter_setting
request_set draft before after spec good fits few one =
    ap (λ (read : Result (Side × FilterSpec) CfgKind). read >>= λ taken. filter_added (of_requests draft before) taken.0 taken.1) (filter_read (codes "req") Request spec req good fits)
    ∙ ap (λ (made : Result (List FilterSpec) CfgKind). made >>= λ filters. Ok (of_requests draft filters)) (one_more before after spec few one)

response_set : (draft : Draft) (before after : List FilterSpec) (spec : FilterSpec) → IsFilter spec → is_spelled_filter spec ≡ true → length (before ++ spec ∷ after) ≤ 8 → count_by is_replace (before ++ spec ∷ after) ≤ 1
    → filter_setting (of_responses draft before) (words_behind (codes "res") spec) ≡ Ok (of_responses draft (before ++ spec ∷ []))
unfolding filter_setting
response_set draft before after spec good fits few one =
    ap (λ (read : Result (Side × FilterSpec) CfgKind). read >>= λ taken. filter_added (of_responses draft before) taken.0 taken.1) (filter_read (codes "res") Response spec res good fits)
    ∙ ap (λ (made : Result (List FilterSpec) CfgKind). made >>= λ filters. Ok (of_responses draft filters)) (one_more before after spec few one)

requests_make : (draft : Draft) (before chain : List FilterSpec) → draft.section ≡ sections.Listen → AreFilters chain → are_spelled_filters chain ≡ true → length (before ++ chain) ≤ 8
    → count_by is_replace (before ++ chain) ≤ 1 → Makes (filters_text (codes "req") chain) (of_requests draft before) (of_requests draft (before ++ chain)) (length chain)
requests_make draft before [] section good fits few one = subst (λ all. Makes [] (of_requests draft before) (of_requests draft all) 0) (sym (append-nil before)) (made_by_none (of_requests draft before))
requests_make draft before (spec ∷ chain) section good fits few one =
    let same = append_assoc before (spec ∷ []) chain in
    let mid = of_requests draft (before ++ spec ∷ []) in
    let last = of_requests draft (before ++ spec ∷ chain) in
    let first = line_made (codes "req") spec (of_requests draft before) mid section
    (request_set draft before chain spec good.0 (both_left (is_spelled_filter spec) (are_spelled_filters chain) fits) few one) in
    let others = requests_make draft (before ++ spec ∷ []) chain section good.1 (both_right (is_spelled_filter spec) (are_spelled_filters chain) fits)
    (subst (λ (all : List FilterSpec). length all ≤ 8) (sym same) few) (subst (λ (all : List FilterSpec). count_by is_replace all ≤ 1) (sym same) one) in
    let behind = subst (λ (all : List FilterSpec). Makes (filters_text (codes "req") chain) mid (of_requests draft all) (length chain)) same others in
    made_by_count (filters_text (codes "req") (spec ∷ chain)) (of_requests draft before) last (1 + length chain) (length (spec ∷ chain)) (omega arith)
    (made_by_both (filter_line (codes "req") spec) (filters_text (codes "req") chain) (of_requests draft before) mid last 1 (length chain) first behind)

responses_make : (draft : Draft) (before chain : List FilterSpec) → draft.section ≡ sections.Listen → AreFilters chain → are_spelled_filters chain ≡ true → length (before ++ chain) ≤ 8
    → count_by is_replace (before ++ chain) ≤ 1 → Makes (filters_text (codes "res") chain) (of_responses draft before) (of_responses draft (before ++ chain)) (length chain)
responses_make draft before [] section good fits few one = subst (λ all. Makes [] (of_responses draft before) (of_responses draft all) 0) (sym (append-nil before)) (made_by_none (of_responses draft before))
responses_make draft before (spec ∷ chain) section good fits few one =
    let same = append_assoc before (spec ∷ []) chain in
    let mid = of_responses draft (before ++ spec ∷ []) in
    let last = of_responses draft (before ++ spec ∷ chain) in
    let first = line_made (codes "res") spec (of_responses draft before) mid section
    (response_set draft before chain spec good.0 (both_left (is_spelled_filter spec) (are_spelled_filters chain) fits) few one) in
    let others = responses_make draft (before ++ spec ∷ []) chain section good.1 (both_right (is_spelled_filter spec) (are_spelled_filters chain) fits)
    (subst (λ (all : List FilterSpec). length all ≤ 8) (sym same) few) (subst (λ (all : List FilterSpec). count_by is_replace all ≤ 1) (sym same) one) in
    let behind = subst (λ (all : List FilterSpec). Makes (filters_text (codes "res") chain) mid (of_responses draft all) (length chain)) same others in
    made_by_count (filters_text (codes "res") (spec ∷ chain)) (of_responses draft before) last (1 + length chain) (length (spec ∷ chain)) (omega arith)
    (made_by_both (filter_line (codes "res") spec) (filters_text (codes "res") chain) (of_responses draft before) mid last 1 (length chain) first behind)

pub requests_back : (draft : Draft) (chain : List FilterSpec) → IsChain chain → are_spelled_filters chain ≡ true → draft.section ≡ sections.Listen → draft.req_filters ≡ []
    → Makes (filters_text (codes "req") chain) draft (of_requests draft chain) (length chain)
requests_back draft chain is fits section none =
    subst (λ (before : List FilterSpec). Makes (filters_text (codes "req") chain) (of_requests draft before) (of_requests draft chain) (length chain)) (sym none)
    (requests_make draft [] chain section is.filters fits is.few is.one)

pub responses_back : (draft : Draft) (chain : List FilterSpec) → IsChain chain → are_spelled_filters chain ≡ true → draft.section ≡ sections.Listen → draft.res_filters ≡ []
    → Makes (filters_text (codes "res") chain) draft (of_responses draft chain) (length chain)
responses_back draft chain is fits section none =
    subst (λ (before : List FilterSpec). Makes (filters_text (codes "res") chain) (of_responses draft before) (of_responses draft chain) (length chain)) (sym none)
    (responses_make draft [] chain section is.filters fits is.few is.one)
