-- The rules of pairs, told from those in front of them and joined again.
use Rattle.std.proofs.Common.{◌≡◌, ℕ, suc, ◌+◌, ◌<◌, Bool, true, false, cond, List, [], ◌∷◌, ◌++◌, length, map, take, drop, refl, sym, ap, ◌∙◌, subst, arith}
use Rattle.std.proofs.lemmas.Bool.{false≢true, ltb-true, ne_eqb}
use Rattle.std.proofs.lemmas.Slice.Eq.{bytes_eq-Decides}
use Rattle.std.proofs.Math.ListN.{take-append-drop}
use Rattle.std.specs.Prelude.{◌==◌, ◌||◌, nat_lt, Option, Some, None, is_none}
use Rattle.std.specs.List.{list_all}
use Rattle.fcgi_model.specs.Application.{param_field}
use Rattle.acl_eval.specs.declared.condition.Cond.{Cond}
use Rattle.http_rules.specs.declared.rule.action.DelBy.{DelBy}
use Rattle.http_rules.specs.declared.rule.action.DelBy.TheVariants as dels
use Rattle.http_rules.specs.declared.rule.action.Action.{Action}
use Rattle.http_rules.specs.declared.rule.action.Action.TheVariants as actions
use Rattle.http_rules.specs.declared.rule.rule.Rule.{Rule}
use Rattle.cfg_parse.specs.Whole.{param_removal}
use Rattle.cfg_parse.specs.Whole.{pair_rules as made_rules}
use Rattle.cfg_print.specs.Pairs.{is_field_of, removes_field, removes, is_removal, are_pairs_of, are_pairs, is_set, plain_count, value_rules}
use Rattle.cfg_laws.proofs.LawLemmas.Words.{both_left, both_right}

-- ---- a rule that takes away the field of a pair

field_is : (name field : List ℕ) → is_field_of field name ≡ true → field ≡ param_field name
field_is name field h = (bytes_eq-Decides field (param_field name)).0 h

del_is : (name : List ℕ) (by : DelBy) → removes_field name by ≡ true → by ≡ dels.Str (param_field name)
del_is name (dels.Str field) h = ap dels.Str (field_is name field h)
del_is name (dels.Beg text) h = absurd (false≢true h)
del_is name (dels.End text) h = absurd (false≢true h)
del_is name (dels.Sub text) h = absurd (false≢true h)
del_is name (dels.Reg pat) h = absurd (false≢true h)

action_is : (name : List ℕ) (action : Action) → removes name action ≡ true → action ≡ actions.DelHeader (dels.Str (param_field name))
action_is name (actions.DelHeader by) h = ap actions.DelHeader (del_is name by h)
action_is name actions.Allow h = absurd (false≢true h)
action_is name (actions.Deny code) h = absurd (false≢true h)
action_is name (actions.AddHeader field fmt) h = absurd (false≢true h)
action_is name (actions.SetHeader field fmt) h = absurd (false≢true h)
action_is name (actions.ReplaceHeader field pat fmt) h = absurd (false≢true h)
action_is name (actions.ReplaceValue field pat fmt) h = absurd (false≢true h)
action_is name (actions.SetMethod fmt) h = absurd (false≢true h)
action_is name (actions.SetPath fmt) h = absurd (false≢true h)
action_is name (actions.SetPathq fmt) h = absurd (false≢true h)
action_is name (actions.SetUri fmt) h = absurd (false≢true h)
action_is name (actions.SetQuery fmt) h = absurd (false≢true h)
action_is name (actions.ReplacePath pat fmt) h = absurd (false≢true h)
action_is name (actions.ReplacePathq pat fmt) h = absurd (false≢true h)
action_is name (actions.ReplaceUri pat fmt) h = absurd (false≢true h)
action_is name (actions.SetStatus status reason) h = absurd (false≢true h)
action_is name (actions.Redirect to code drop_query append_slash) h = absurd (false≢true h)
action_is name (actions.Return status content_type payload hdrs) h = absurd (false≢true h)
action_is name (actions.SetVar scope text expr) h = absurd (false≢true h)
action_is name (actions.UnsetVar scope text) h = absurd (false≢true h)
action_is name (actions.StrictMode on) h = absurd (false≢true h)

always : (when : Option Cond) → is_none when ≡ true → when ≡ None
always None h = refl
always (Some when) h = absurd (false≢true h)

removal_is : (name : List ℕ) (rule : Rule) → is_removal name rule ≡ true → rule ≡ param_removal name
unfolding is_removal
removal_is name rule h =
    let when = always rule.cond (both_left (is_none rule.cond) (removes name rule.action) h) in
    let action = action_is name rule.action (both_right (is_none rule.cond) (removes name rule.action) h) in
    ap (λ (c : Option Cond). record rule { cond = c }) when ∙ ap (λ (a : Action). record { action = a; cond = None }) action

-- ---- all of them

pairs_are : (all names : List (List ℕ)) (rules : List Rule) → are_pairs_of all names rules ≡ true → rules ≡ map param_removal names ++ drop (length names) rules
unfolding are_pairs_of
pairs_are all [] rules h = refl
pairs_are all (name ∷ names) [] h = absurd (false≢true h)
pairs_are all (name ∷ names) (rule ∷ rules) h =
    ap (λ r. r ∷ rules) (removal_is name rule (both_left (is_removal name rule) (are_pairs_of all names rules) h))
    ∙ ap (λ (rs : List Rule). param_removal name ∷ rs) (pairs_are all names rules (both_right (is_removal name rule) (are_pairs_of all names rules) h))

-- where they begin
begin : (names : List (List ℕ)) (rules : List Rule) → plain_count names rules < length rules → are_pairs names (drop (plain_count names rules) rules) ≡ true
unfolding plain_count
begin names [] inside = absurd (omega arith)
begin names (rule ∷ rules) inside = by (are_pairs names (rule ∷ rules)) refl inside (λ within. begin names rules within)
  where
    by : (t : Bool) → are_pairs names (rule ∷ rules) ≡ t → cond t 0 (1 + plain_count names rules) < length (rule ∷ rules)
        → (plain_count names rules < length rules → are_pairs names (drop (plain_count names rules) rules) ≡ true)
        → are_pairs names (drop (cond t 0 (1 + plain_count names rules)) (rule ∷ rules)) ≡ true
    by true is inside later = is
    by false is inside later =
        let at : 1 + plain_count names rules ≡ suc (plain_count names rules) = omega arith in
        subst (λ n. are_pairs names (drop n (rule ∷ rules)) ≡ true) (sym at) (later (omega arith))

-- with no pair no rule is one of theirs
none_begin : (rules : List Rule) → plain_count [] rules ≡ length rules
unfolding plain_count
none_begin [] = refl
none_begin (rule ∷ rules) = let more : 1 + length rules ≡ length (rule ∷ rules) = omega arith in ap (λ n. 1 + n) (none_begin rules) ∙ more

-- the rules in front, and those that were made of pairs
pub rules_joined : (names : List (List ℕ)) (rules : List Rule) → (length names == 0 || nat_lt (plain_count names rules) (length rules)) ≡ true
    → take (plain_count names rules) rules ++ made_rules names (value_rules names rules) ≡ rules
rules_joined [] rules h = take-append-drop (plain_count [] rules) rules
rules_joined (name ∷ names) rules h =
    let all = name ∷ names in
    let not_none : (length all == 0) ≡ false = ne_eqb (length all) 0 (λ e. omega (arith, e)) in
    let inside = ltb-true (plain_count all rules) (length rules) (sym (ap (λ t. t || nat_lt (plain_count all rules) (length rules)) not_none) ∙ h) in
    let behind = drop (plain_count all rules) rules in
    let are = both_right (nat_lt 0 (length all)) (are_pairs_of all all behind) (begin all rules inside) in
    ap (λ (rs : List Rule). take (plain_count all rules) rules ++ rs) (sym (pairs_are all all behind are)) ∙ take-append-drop (plain_count all rules) rules

-- ---- the rules that tell values

sets_behind : (all names : List (List ℕ)) (rules : List Rule) → are_pairs_of all names rules ≡ true → list_all (is_set all) (drop (length names) rules) ≡ true
unfolding are_pairs_of
sets_behind all [] rules h = h
sets_behind all (name ∷ names) [] h = absurd (false≢true h)
sets_behind all (name ∷ names) (rule ∷ rules) h = sets_behind all names rules (both_right (is_removal name rule) (are_pairs_of all names rules) h)

none_behind : (rules : List Rule) → drop (length rules) rules ≡ []
none_behind [] = refl
none_behind (rule ∷ rules) = none_behind rules

-- each of them sets the field of a pair
pub pairs_set : (names : List (List ℕ)) (rules : List Rule) → (length names == 0 || nat_lt (plain_count names rules) (length rules)) ≡ true
    → list_all (is_set names) (value_rules names rules) ≡ true
pairs_set [] rules h = ap (λ (rs : List Rule). list_all (is_set []) rs) (ap (λ n. drop n rules) (none_begin rules) ∙ none_behind rules)
pairs_set (name ∷ names) rules h =
    let all = name ∷ names in
    let not_none : (length all == 0) ≡ false = ne_eqb (length all) 0 (λ e. omega (arith, e)) in
    let inside = ltb-true (plain_count all rules) (length rules) (sym (ap (λ t. t || nat_lt (plain_count all rules) (length rules)) not_none) ∙ h) in
    let behind = drop (plain_count all rules) rules in
    sets_behind all all behind (both_right (nat_lt 0 (length all)) (are_pairs_of all all behind) (begin all rules inside))
