-- The rules of pairs that are read stand where they can be said.
use Rattle.std.proofs.Common.{◌≡◌, ℕ, zero, suc, ◌+◌, ◌≤◌, Bool, true, false, cond, List, [], ◌∷◌, ◌++◌, length, map, take, refl, sym, ap, ◌∙◌, subst, length-append, arith}
use Rattle.std.proofs.lemmas.Bool.{and_from, and_parts, or_parts, or_from, lt-ltb}
use Rattle.std.proofs.lemmas.Slice.Eq.{bytes_eq-Decides}
use Rattle.std.proofs.lemmas.List.Folds.{list_any-append, list_all-append}
use Rattle.std.specs.Prelude.{◌&&◌, ◌||◌, ◌==◌, not, nat_lt}
use Rattle.std.specs.List.{list_any, list_all}
use Rattle.std.specs.Str.{bytes_eq}
use Rattle.fcgi_model.specs.Application.{param_field}
use Rattle.http_rules.specs.declared.rule.action.Action.{Action}
use Rattle.http_rules.specs.declared.rule.action.Action.TheVariants as actions
use Rattle.http_rules.specs.declared.rule.rule.Rule.{Rule}
use Rattle.cfg_parse.specs.Pairs.{is_among, with_name}
use Rattle.cfg_parse.specs.Whole.{param_removal, ends_rules}
use Rattle.cfg_parse.specs.Whole.{pair_rules as made_rules}
use Rattle.cfg_print.specs.Pairs.{is_field_of, is_removal, sets_one, is_set, are_pairs_of, are_pairs, plain_count}
use Rattle.cfg_laws.proofs.ReadLemmas.SettingSteps.{either_so}

-- ---- rules that tell values

own_field : (name : List ℕ) → is_field_of (param_field name) name ≡ true
own_field name = (bytes_eq-Decides (param_field name) (param_field name)).1 refl

either_true : (a b c d : Bool) → (a ≡ true → c ≡ true) → (b ≡ true → d ≡ true) → (a || b) ≡ true → (c || d) ≡ true
either_true true b c d f g h = ap (λ t. t || d) (f refl)
either_true false b true d f g h = refl
either_true false b false d f g h = g h

among : (names : List (List ℕ)) (name : List ℕ) → is_among names name ≡ true → list_any (is_field_of (param_field name)) names ≡ true
among [] name h = h
among (other ∷ names) name h =
    either_true (bytes_eq other name) (is_among names name) (is_field_of (param_field name) other) (list_any (is_field_of (param_field name)) names)
    (λ is. subst (λ n. is_field_of (param_field name) n ≡ true) (sym ((bytes_eq-Decides other name).0 is)) (own_field name)) (λ later. among names name later) h

or_right : (a b : Bool) → b ≡ true → (a || b) ≡ true
or_right true b h = refl
or_right false b h = h

or_left : (a b : Bool) → a ≡ true → (a || b) ≡ true
or_left true b h = refl
or_left false b h = absurd cc

-- the field of a pair is one of theirs
pub told_field : (names : List (List ℕ)) (name : List ℕ) → list_any (is_field_of (param_field name)) (with_name names name) ≡ true
told_field names name = by (is_among names name) refl
  where
    by : (t : Bool) → is_among names name ≡ t → list_any (is_field_of (param_field name)) (cond t names (names ++ name ∷ [])) ≡ true
    by true is = among names name is
    by false is =
        list_any-append (is_field_of (param_field name)) names (name ∷ [])
        ∙ or_right (list_any (is_field_of (param_field name)) names) (is_field_of (param_field name) name || false) (or_left (is_field_of (param_field name) name) false (own_field name))

sets_more : (names more : List (List ℕ)) (action : Action) → sets_one names action ≡ true → sets_one (names ++ more) action ≡ true
unfolding sets_one
sets_more names more (actions.SetHeader field fmt) h = list_any-append (is_field_of field) names more ∙ or_left (list_any (is_field_of field) names) (list_any (is_field_of field) more) h
sets_more names more actions.Allow h = h
sets_more names more (actions.DelHeader by) h = h
sets_more names more (actions.Deny code) h = h
sets_more names more (actions.AddHeader field fmt) h = h
sets_more names more (actions.ReplaceHeader field pat fmt) h = h
sets_more names more (actions.ReplaceValue field pat fmt) h = h
sets_more names more (actions.SetMethod fmt) h = h
sets_more names more (actions.SetPath fmt) h = h
sets_more names more (actions.SetPathq fmt) h = h
sets_more names more (actions.SetUri fmt) h = h
sets_more names more (actions.SetQuery fmt) h = h
sets_more names more (actions.ReplacePath pat fmt) h = h
sets_more names more (actions.ReplacePathq pat fmt) h = h
sets_more names more (actions.ReplaceUri pat fmt) h = h
sets_more names more (actions.SetStatus status reason) h = h
sets_more names more (actions.Redirect to code drop_query append_slash) h = h
sets_more names more (actions.Return status content_type payload hdrs) h = h
sets_more names more (actions.SetVar scope text expr) h = h
sets_more names more (actions.UnsetVar scope text) h = h
sets_more names more (actions.StrictMode on) h = h

all_more : (names more : List (List ℕ)) (rules : List Rule) → list_all (is_set names) rules ≡ true → list_all (is_set (names ++ more)) rules ≡ true
all_more names more [] h = refl
all_more names more (rule ∷ rules) h =
    let both = and_parts (is_set names rule) (list_all (is_set names) rules) h in
    and_from (is_set (names ++ more) rule) (list_all (is_set (names ++ more)) rules) (sets_more names more rule.action both.0) (all_more names more rules both.1)

-- with one more
pub sets_said : (names : List (List ℕ)) (name : List ℕ) (rules : List Rule) (rule : Rule) → list_all (is_set names) rules ≡ true → is_set (with_name names name) rule ≡ true
    → list_all (is_set (with_name names name)) (rules ++ rule ∷ []) ≡ true
sets_said names name rules rule all one =
    let more = with_name names name in
    list_all-append (is_set more) rules (rule ∷ [])
    ∙ and_from (list_all (is_set more) rules) (is_set more rule && true)
    (either_so (λ (ns : List (List ℕ)). list_all (is_set ns) rules ≡ true) (is_among names name) names (names ++ name ∷ []) all (all_more names (name ∷ []) rules all))
    (and_from (is_set more rule) true one refl)

-- ---- where they stand

pairs_made : (all names : List (List ℕ)) (sets : List Rule) → list_all (is_set all) sets ≡ true → are_pairs_of all names (map param_removal names ++ sets) ≡ true
unfolding are_pairs_of is_removal
pairs_made all [] sets h = h
pairs_made all (name ∷ names) sets h =
    and_from (is_removal name (param_removal name)) (are_pairs_of all names (map param_removal names ++ sets)) (own_field name) (pairs_made all names sets h)

count_few : (names : List (List ℕ)) (rules behind : List Rule) → are_pairs names behind ≡ true → plain_count names (rules ++ behind) ≤ length rules
unfolding plain_count
count_few names [] [] h = omega arith
count_few names [] (rule ∷ behind) h =
    let none : plain_count names (rule ∷ behind) ≡ 0 = ap (λ t. cond t 0 (1 + plain_count names behind)) h in
    omega (arith, none)
count_few names (rule ∷ rules) behind h = by (are_pairs names (rule ∷ rules ++ behind)) (count_few names rules behind h)
  where
    by : (t : Bool) → plain_count names (rules ++ behind) ≤ length rules → cond t 0 (1 + plain_count names (rules ++ behind)) ≤ length (rule ∷ rules)
    by true few = omega arith
    by false few = omega (arith, few)

any_front : (rules behind : List Rule) (count : ℕ) → count ≤ length rules → list_any ends_rules rules ≡ false → list_any ends_rules (take count (rules ++ behind)) ≡ false
any_front [] [] zero few h = refl
any_front [] (rule ∷ behind) zero few h = refl
any_front [] behind (suc count) few h = absurd (omega (arith, few))
any_front (rule ∷ rules) behind zero few h = refl
any_front (rule ∷ rules) behind (suc count) few h =
    let both = or_parts (ends_rules rule) (list_any ends_rules rules) h in
    let less : count ≤ length rules = omega (arith, few) in
    or_from (ends_rules rule) (list_any ends_rules (take count (rules ++ behind))) both.0 (any_front rules behind count less both.1)

-- these names and rules can be said
abbrev pub are_said : List (List ℕ) → List Rule → Bool
are_said names rules =
    (length names == 0 || nat_lt (plain_count names rules) (length rules)) && not (nat_lt 0 (length names) && list_any ends_rules (take (plain_count names rules) rules))

none_ends : (a b : Bool) → b ≡ false → not (a && b) ≡ true
none_ends true b h = ap not h
none_ends false b h = refl

pub pairs_said : (names : List (List ℕ)) (rules sets : List Rule) → list_all (is_set names) sets ≡ true → (nat_lt 0 (length names) ≡ true → list_any ends_rules rules ≡ false) → are_said names (rules ++ made_rules names sets) ≡ true
pairs_said [] rules sets h alone = refl
pairs_said (name ∷ names) rules sets h alone =
    let all = name ∷ names in
    let behind = made_rules all sets in
    let some : nat_lt 0 (length all) ≡ true = lt-ltb 0 (length all) (omega arith) in
    let few = count_few all rules behind (and_from (nat_lt 0 (length all)) (are_pairs_of all all behind) some (pairs_made all all sets h)) in
    let sum : length (rules ++ behind) ≡ length rules + length behind = length-append rules behind in
    let inside : nat_lt (plain_count all (rules ++ behind)) (length (rules ++ behind)) ≡ true = lt-ltb (plain_count all (rules ++ behind)) (length (rules ++ behind)) (omega (arith, few, sum)) in
    and_from (length all == 0 || nat_lt (plain_count all (rules ++ behind)) (length (rules ++ behind))) (not (nat_lt 0 (length all) && list_any ends_rules (take (plain_count all (rules ++ behind)) (rules ++ behind))))
    (or_right (length all == 0) (nat_lt (plain_count all (rules ++ behind)) (length (rules ++ behind))) inside)
    (none_ends (nat_lt 0 (length all)) (list_any ends_rules (take (plain_count all (rules ++ behind)) (rules ++ behind))) (any_front rules behind (plain_count all (rules ++ behind)) few (alone some)))
