-- The rules of pairs stand where they were put: no rules in front of them look like theirs.
use Rattle.std.proofs.Common.{◌≡◌, ℕ, ◌+◌, ◌-◌, ◌<◌, Bool, true, false, cond, List, [], ◌∷◌, ◌++◌, length, length-append, take, drop, Ok, Err, refl, sym, ap, ◌∙◌, arith}
use Rattle.std.proofs.lemmas.Bool.{false≢true, lt-ltb, ltb-false, ne_eqb, and_from, or_parts}
use Rattle.std.proofs.lemmas.List.{append-nil}
use Rattle.std.proofs.lemmas.List.Folds.{list_all-append}
use Rattle.std.proofs.lemmas.Slice.Eq.{bytes_eq-Decides}
use Rattle.std.specs.Prelude.{◌==◌, ◌&&◌, ◌||◌, not, nat_lt, Option, Some, None, is_some, IfSome}
use Rattle.std.specs.List.{list_all, list_any}
use Rattle.http_model.specs.Sizes.{least_head}
use Rattle.px_link.specs.declared.address.Address.{Address}
use Rattle.fcgi_model.specs.Application.{Application, param_field}
use Rattle.http_rules.specs.declared.config.Config.{Config}
use Rattle.http_rules.specs.declared.rule.action.Action.{Action}
use Rattle.http_rules.specs.declared.rule.rule.Rule.{Rule}
use Rattle.cfg_parse.specs.declared.fault.CfgKind.TheVariants.{Argument, Limit, Missing}
use Rattle.cfg_parse.specs.declared.draft.ApplicationLines.{ApplicationLines}
use Rattle.cfg_parse.specs.declared.draft.Draft.{Draft}
use Rattle.cfg_parse.specs.Draft.{has_listen}
use Rattle.cfg_parse.specs.Limits.{most_rules}
use Rattle.cfg_parse.specs.Whole.{bufsize_of, maxrewrite_of, param_removal, with_last, with_pairs, stops_pairs, ends_rules, application_below, tells_more, application_of, made_config, with_addresses, whole}
use Rattle.cfg_parse.specs.Whole.{pair_rules as made_rules}
use Rattle.cfg_print.specs.Pairs.{pair_names, is_removal, is_set, sets_one, are_pairs_of, are_pairs, plain_count}
use Rattle.cfg_print.specs.Printed.{plain_rules, pair_rules}
use Rattle.cfg_laws.specs.SpelledPairs.{names_of, has_pairs_behind, reaches_pairs, are_spelled_pairs}
use Rattle.cfg_laws.specs.Laws.Listing.{names_told}
use Rattle.cfg_laws.specs.Laws.ReadPairs.{ArePairs, last_rule, GoesOn, HasRules}
use Rattle.cfg_laws.proofs.LawLemmas.Pairing.{by_set}
use Rattle.cfg_laws.proofs.LawLemmas.Words.{both_left, both_right}
use Rattle.cfg_laws.proofs.ReadLemmas.Steps.{GivesSo, so_given}
use Rattle.cfg_laws.proofs.ReadLemmas.SettingSteps.{so_step, so_unless, so_if}

-- ---- where they begin

same_field : (name : List ℕ) → is_removal name (param_removal name) ≡ true
unfolding is_removal
same_field name = (bytes_eq-Decides (param_field name) (param_field name)).1 refl

pairs_here : (all names : List (List ℕ)) (sets : List Rule) → list_all (is_set all) sets ≡ true → are_pairs_of all names (made_rules names sets) ≡ true
unfolding are_pairs_of
pairs_here all [] sets h = h
pairs_here all (name ∷ names) sets h = and_from (is_removal name (param_removal name)) (are_pairs_of all names (made_rules names sets)) (same_field name) (pairs_here all names sets h)

-- a rule that takes away a field sets none
not_set : (all : List (List ℕ)) (name : List ℕ) (rules : List Rule) → list_all (is_set all) (param_removal name ∷ rules) ≡ true → ⊥
unfolding sets_one
not_set all name rules h = false≢true h

-- with fewer names than rules in front and those that take fields away, one of these would be one that sets a field
not_earlier : (all names others : List (List ℕ)) (front sets : List Rule) → length names < length front + length others → 0 < length others → are_pairs_of all names (front ++ made_rules others sets) ≡ true → ⊥
unfolding are_pairs_of
not_earlier all names [] front sets more some h = omega (arith, some)
not_earlier all [] (other ∷ others) front sets more some h =
    not_set all other (made_rules others sets)
    (both_right (list_all (is_set all) front) (list_all (is_set all) (made_rules (other ∷ others) sets)) (sym (list_all-append (is_set all) front (made_rules (other ∷ others) sets)) ∙ h))
not_earlier all (name ∷ names) (other ∷ others) [] sets more some h =
    not_earlier all names others [] sets (omega (arith, more)) (omega (arith, more))
    (both_right (is_removal name (param_removal other)) (are_pairs_of all names (made_rules others sets)) h)
not_earlier all (name ∷ names) (other ∷ others) (rule ∷ front) sets more some h =
    not_earlier all names (other ∷ others) front sets (omega (arith, more)) some
    (both_right (is_removal name rule) (are_pairs_of all names (front ++ made_rules (other ∷ others) sets)) h)

-- none of those in front are taken for them
count_is : (names : List (List ℕ)) (front sets : List Rule) → 0 < length names → list_all (is_set names) sets ≡ true → plain_count names (front ++ made_rules names sets) ≡ length front
unfolding plain_count
count_is [] front sets some h = absurd (omega (arith, some))
count_is (name ∷ names) [] sets some h =
    let all = name ∷ names in
    ap (λ t. cond t 0 (1 + plain_count all (made_rules names sets)))
    (and_from (nat_lt 0 (length all)) (are_pairs_of all all (made_rules all sets)) (lt-ltb 0 (length all) some) (pairs_here all all sets h))
count_is (name ∷ names) (rule ∷ front) sets some h = by (are_pairs all rules) refl (count_is all front sets some h)
  where
    all : List (List ℕ)
    all = name ∷ names

    rules : List Rule
    rules = (rule ∷ front) ++ made_rules all sets

    by : (t : Bool) → are_pairs all rules ≡ t → plain_count all (front ++ made_rules all sets) ≡ length front
        → cond t 0 (1 + plain_count all (front ++ made_rules all sets)) ≡ length (rule ∷ front)
    by true is later = absurd (not_earlier all all all (rule ∷ front) sets (omega arith) some (both_right (nat_lt 0 (length all)) (are_pairs_of all all rules) is))
    by false is later = let more : 1 + length front ≡ length (rule ∷ front) = omega arith in ap (λ n. 1 + n) later ∙ more

-- ---- lists

front_taken : (front behind : List Rule) → take (length front) (front ++ behind) ≡ front
front_taken [] behind = refl
front_taken (rule ∷ front) behind = ap (λ (rs : List Rule). rule ∷ rs) (front_taken front behind)

front_dropped : (front behind : List Rule) → drop (length front) (front ++ behind) ≡ behind
front_dropped [] behind = refl
front_dropped (rule ∷ front) behind = front_dropped front behind

removals_dropped : (names : List (List ℕ)) (sets : List Rule) → drop (length names) (made_rules names sets) ≡ sets
removals_dropped [] sets = refl
removals_dropped (name ∷ names) sets = removals_dropped names sets

none_plain : (rules : List Rule) → plain_count [] rules ≡ length rules
unfolding plain_count
none_plain [] = refl
none_plain (rule ∷ rules) = let more : 1 + length rules ≡ length (rule ∷ rules) = omega arith in ap (λ n. 1 + n) (none_plain rules) ∙ more

-- where there is no pair, no rule is one of theirs
none_set : (sets : List Rule) → list_all (is_set []) sets ≡ true → sets ≡ []
none_set [] h = refl
none_set (rule ∷ sets) h =
    let nothing : Action → Type 0 = λ action. ⊥ in
    absurd (by_set nothing [] rule.action (both_left (is_set [] rule) (list_all (is_set []) sets) h) (λ field fmt i. false≢true i))

count_told : (names : List (List ℕ)) (front sets : List Rule) → list_all (is_set names) sets ≡ true → plain_count names (front ++ made_rules names sets) ≡ length front
count_told [] front sets h = ap (λ rs. plain_count [] (front ++ rs)) (none_set sets h) ∙ none_plain (front ++ []) ∙ ap length (append-nil front)
count_told (name ∷ names) front sets h = count_is (name ∷ names) front sets (omega arith) h

-- ---- what lines say of an application

-- its pairs are those of the lines
abbrev HasNames : List (List ℕ) → Option Application → Type 0
HasNames names app = pair_names app ≡ names

names_below : (lines : ApplicationLines) (root : Option (List ℕ)) → GivesSo (HasNames lines.params) (application_below lines root)
names_below lines None = tt
names_below lines (Some root) = refl

no_names : (names : List (List ℕ)) → nat_lt 0 (length names) ≡ false → [] ≡ names
no_names [] h = refl
no_names (name ∷ names) h = let none = ltb-false 0 (length (name ∷ names)) h in absurd (omega (arith, none))

names_told_by : (lines : ApplicationLines) (asked : Bool) → GivesSo (HasNames lines.params) (cond asked (application_below lines lines.root) (cond (tells_more lines) (Err Missing) (Ok None)))
names_told_by lines true = names_below lines lines.root
names_told_by lines false =
    so_unless (HasNames lines.params) (tells_more lines) Missing (Ok None)
    (λ less. no_names lines.params (or_parts (is_some lines.script) (nat_lt 0 (length lines.params)) (or_parts (is_some lines.index) (is_some lines.script || nat_lt 0 (length lines.params)) less).1).1)

names_of_lines : (lines : ApplicationLines) → GivesSo (HasNames lines.params) (application_of lines)
unfolding application_of
names_of_lines lines = names_told_by lines lines.is_asked

-- ---- the whole

-- the rules on requests with the last one
last_told : (rules : List Rule) (last : Option Rule) (all : List Rule) → with_last rules last ≡ Ok all → all ≡ rules ++ last_rule last
last_told rules last all is = so_given (λ (found : List Rule). found ≡ rules ++ last_rule last) (with_last rules last) all (by last) is
  where
    by : (last : Option Rule) → GivesSo (λ (found : List Rule). found ≡ rules ++ last_rule last) (with_last rules last)
    by None = sym (append-nil rules)
    by (Some rule) = so_if (λ (found : List Rule). found ≡ rules ++ rule ∷ []) (nat_lt (length rules) most_rules) Limit (Ok (rules ++ rule ∷ [])) (λ room. refl)

pairs_told : (rules : List Rule) (names : List (List ℕ)) (sets all : List Rule) → with_pairs rules names sets ≡ Ok all → all ≡ rules ++ made_rules names sets
pairs_told rules names sets all is =
    so_given (λ (found : List Rule). found ≡ rules ++ made_rules names sets) (with_pairs rules names sets) all
    (so_unless (λ (found : List Rule). found ≡ rules ++ made_rules names sets) (nat_lt most_rules (length rules + (length names + length sets))) Limit (Ok (rules ++ made_rules names sets)) (λ room. refl)) is

-- no rule in front of those of pairs keeps them from running
none_ends : (some : Bool) (rules : List Rule) (last : Option Rule) → (some && list_any ends_rules rules) ≡ false → IfSome last GoesOn → not (some && list_any ends_rules (rules ++ last_rule last)) ≡ true
none_ends false rules last h goes = refl
none_ends true rules last h goes = ap not (on rules last h goes)
  where
    on : (rules : List Rule) (last : Option Rule) → list_any ends_rules rules ≡ false → IfSome last GoesOn → list_any ends_rules (rules ++ last_rule last) ≡ false
    on [] None h goes = refl
    on [] (Some rule) h goes = ap (λ t. t || false) goes
    on (rule ∷ rules) last h goes =
        let parts = or_parts (ends_rules rule) (list_any ends_rules rules) h in
        ap (λ t. t || list_any ends_rules (rules ++ last_rule last)) parts.0 ∙ on rules last parts.1 goes

behind : (names : List (List ℕ)) (front sets : List Rule) → list_all (is_set names) sets ≡ true
    → (length names == 0 || nat_lt (plain_count names (front ++ made_rules names sets)) (length (front ++ made_rules names sets))) ≡ true
behind [] front sets h = refl
behind (name ∷ names) front sets h =
    let all = name ∷ names in
    let count = count_told all front sets h in
    let size = length-append front (made_rules all sets) in
    let not_none : (length all == 0) ≡ false = ne_eqb (length all) 0 (λ e. omega (arith, e)) in
    let inside : plain_count all (front ++ made_rules all sets) < length (front ++ made_rules all sets) = omega (arith, count, size) in
    ap (λ t. t || nat_lt (plain_count all (front ++ made_rules all sets)) (length (front ++ made_rules all sets))) not_none
    ∙ lt-ltb (plain_count all (front ++ made_rules all sets)) (length (front ++ made_rules all sets)) inside

-- a configuration with these rules and these pairs
pairs_placed : (draft : Draft) (config : Config) (front : List Rule) → front ≡ draft.request ++ last_rule draft.forwarding → config.request ≡ front ++ made_rules draft.application.params draft.param_rules
    → config.response ≡ draft.response → config.after ≡ draft.after → names_of config ≡ draft.application.params → stops_pairs draft ≡ false
    → ArePairs draft.application.params draft.param_rules → IfSome draft.forwarding GoesOn → HasRules draft config
unfolding are_spelled_pairs
pairs_placed draft config front is all response after names runs pairs goes =
    let own = draft.application.params in
    let sets = draft.param_rules in
    let made = front ++ made_rules own sets in
    let count : plain_count (names_of config) config.request ≡ length front =
    ap (λ n. plain_count n config.request) names ∙ ap (plain_count own) all ∙ count_told own front sets pairs.sets in
    let plain : plain_rules config ≡ front =
    ap (λ n. take n config.request) count ∙ ap (λ (rs : List Rule). take (length front) rs) all ∙ front_taken front (made_rules own sets) in
    let values : pair_rules config ≡ sets =
    ap (λ n. drop (length (names_of config)) (drop n config.request)) count
    ∙ ap (λ (rs : List Rule). drop (length (names_of config)) (drop (length front) rs)) all
    ∙ ap (λ (rs : List Rule). drop (length (names_of config)) rs) (front_dropped front (made_rules own sets))
    ∙ ap (λ (ns : List (List ℕ)). drop (length ns) (made_rules own sets)) names ∙ removals_dropped own sets in
    let has : has_pairs_behind config ≡ true =
    ap (λ (ns : List (List ℕ)). length ns == 0 || nat_lt (plain_count ns config.request) (length config.request)) names
    ∙ ap (λ (rs : List Rule). length own == 0 || nat_lt (plain_count own rs) (length rs)) all ∙ behind own front sets pairs.sets in
    let reaches : reaches_pairs config ≡ true =
    ap (λ (ns : List (List ℕ)). not (nat_lt 0 (length ns) && list_any ends_rules (plain_rules config))) names
    ∙ ap (λ (rs : List Rule). not (nat_lt 0 (length own) && list_any ends_rules rs)) (plain ∙ is) ∙ none_ends (nat_lt 0 (length own)) draft.request draft.forwarding runs goes in
    record {
      request = all ∙ ap (λ (rs : List Rule). rs ++ made_rules own sets) is;
      response = response;
      after = after;
      names = names;
      plain = plain ∙ is;
      values = values;
      pairs = and_from (has_pairs_behind config) (reaches_pairs config) has reaches;
      told = ap (λ (ns : List (List ℕ)). names_told ns [] (pair_rules config)) names ∙ ap (names_told own []) values ∙ pairs.told ∙ sym names;
    }

addresses_placed : (draft : Draft) (all front : List Rule) (app : Option Application) (bind server : Option Address) → front ≡ draft.request ++ last_rule draft.forwarding
    → all ≡ front ++ made_rules draft.application.params draft.param_rules → pair_names app ≡ draft.application.params → stops_pairs draft ≡ false
    → ArePairs draft.application.params draft.param_rules → IfSome draft.forwarding GoesOn → GivesSo (HasRules draft) (with_addresses draft all app bind server)
addresses_placed draft all front app None server is made names runs pairs goes = tt
addresses_placed draft all front app (Some bind) None is made names runs pairs goes = tt
addresses_placed draft all front app (Some bind) (Some server) is made names runs pairs goes =
    so_if (HasRules draft) (has_listen draft.listen) Missing (Ok (made_config draft all app bind server))
    (λ begun. pairs_placed draft (made_config draft all app bind server) front is made refl refl names runs pairs goes)

whole_placed : (draft : Draft) → ArePairs draft.application.params draft.param_rules → IfSome draft.forwarding GoesOn → GivesSo (HasRules draft) (whole draft)
unfolding whole
whole_placed draft pairs goes =
    so_unless (HasRules draft) (nat_lt (bufsize_of draft - least_head) (maxrewrite_of draft)) Limit _
    (λ suits. so_unless (HasRules draft) (stops_pairs draft) Argument _
    (λ runs. so_step (HasRules draft) (with_last draft.request draft.forwarding) _
    (λ front a. so_step (HasRules draft) (with_pairs front draft.application.params draft.param_rules) _
    (λ all b. so_step (HasRules draft) (application_of draft.application) _
    (λ app c. addresses_placed draft all front app draft.bind draft.server (last_told draft.request draft.forwarding front a)
    (pairs_told front draft.application.params draft.param_rules all b)
    (so_given (HasNames draft.application.params) (application_of draft.application) app (names_of_lines draft.application) c) runs pairs goes)))))

-- as a law
pub pairs_stand : (draft : Draft) (config : Config) → ArePairs draft.application.params draft.param_rules → IfSome draft.forwarding GoesOn → whole draft ≡ Ok config → HasRules draft config
pairs_stand draft config pairs goes is = so_given (HasRules draft) (whole draft) config (whole_placed draft pairs goes) is
