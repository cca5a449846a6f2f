-- What all lines made comes to the configuration that they were made of.
use Rattle.std.proofs.Common.{◌≡◌, ℕ, ◌+◌, ◌-◌, ◌≤◌, Bool, true, false, cond, List, ◌++◌, length, map, refl, sym, ap, ◌∙◌, length-append, arith}
use Rattle.std.proofs.lemmas.Bool.{le-ltb, not-true}
use Rattle.std.proofs.lemmas.List.{length-map}
use Rattle.std.specs.Prelude.{◌&&◌, nat_lt, Option, Some, None, Result, Ok, Err}
use Rattle.std.specs.List.{list_any}
use Rattle.http_model.specs.Sizes.{least_head}
use Rattle.px_peer.specs.declared.Peer.{Peer}
use Rattle.fcgi_model.specs.Application.{Application}
use Rattle.http_rules.specs.Valid.{IsValid}
use Rattle.http_rules.specs.declared.config.Config.{Config}
use Rattle.http_rules.specs.declared.rule.rule.Rule.{Rule}
use Rattle.cfg_parse.specs.declared.fault.CfgKind.{CfgKind}
use Rattle.cfg_parse.specs.declared.fault.CfgKind.TheVariants.{Argument, Limit}
use Rattle.cfg_parse.specs.declared.draft.Draft.{Draft}
use Rattle.cfg_parse.specs.Reading.{◌>>=◌}
use Rattle.cfg_parse.specs.Whole.{param_removal, with_pairs, application_of, made_config, ends_rules, whole}
use Rattle.cfg_parse.specs.Whole.{pair_rules as made_rules}
use Rattle.cfg_print.specs.Printed.{plain_rules, pair_rules}
use Rattle.cfg_laws.specs.SpelledPairs.{names_of, has_pairs_behind, reaches_pairs, are_spelled_pairs}
use Rattle.cfg_laws.specs.Laws.Whole.{application_and_pairs, with_all}
use Rattle.cfg_laws.proofs.LawLemmas.Words.{both_left, both_right}
use Rattle.cfg_laws.proofs.LawLemmas.PairRules.{rules_joined}

application_back : (app : Option Application) → application_of (application_and_pairs app) ≡ Ok app
unfolding application_of
application_back None = refl
application_back (Some app) = refl

-- how many rules pairs make
pub pairs_length : (names : List (List ℕ)) (values : List Rule) → length (made_rules names values) ≡ length names + length values
pairs_length names values = length-append (map param_removal names) values ∙ ap (λ n. n + length values) (length-map names param_removal)

pairs_back : (rules : List Rule) (names : List (List ℕ)) (values all : List Rule) → rules ++ made_rules names values ≡ all → length all ≤ 1024 → with_pairs rules names values ≡ Ok all
pairs_back rules names values all is few =
    let count = pairs_length names values in
    let sum = length-append rules (made_rules names values) in
    let same = ap (λ (rs : List Rule). length rs) is in
    let room : length rules + (length names + length values) ≤ 1024 = omega (arith, few, count, sum, same) in
    ap (λ t. cond t (Err Limit) (Ok (rules ++ made_rules names values))) (le-ltb 1024 (length rules + (length names + length values)) room) ∙ ap Ok is

-- what is left where each test passes
all_pass : (low stops : Bool) (pairs : Result (List Rule) CfgKind) (asked : Result (Option Application) CfgKind) (make : List Rule → Option Application → Config) (all : List Rule) (app : Option Application) (config : Config)
    → low ≡ false → stops ≡ false → pairs ≡ Ok all → asked ≡ Ok app → make all app ≡ config
    → cond low (Err Limit) (cond stops (Err Argument) (pairs >>= λ rules. asked >>= λ a. Ok (make rules a))) ≡ Ok config
all_pass low stops pairs asked make all app config x y z w e =
    ap (λ t. cond t (Err Limit) (cond stops (Err Argument) (pairs >>= λ rules. asked >>= λ a. Ok (make rules a)))) x
    ∙ ap (λ t. cond t (Err Argument) (pairs >>= λ rules. asked >>= λ a. Ok (make rules a))) y
    ∙ ap (λ (read : Result (List Rule) CfgKind). read >>= λ rules. asked >>= λ a. Ok (make rules a)) z
    ∙ ap (λ (read : Result (Option Application) CfgKind). read >>= λ a. Ok (make all a)) w ∙ ap Ok e

pub whole_back : (draft : Draft) (config : Config) → IsValid config → are_spelled_pairs config ≡ true → config.peer ≡ None → whole (with_all draft config) ≡ Ok config
unfolding whole are_spelled_pairs
whole_back draft config valid h alone =
    let leaves = valid.limits.leaves in
    let joined = rules_joined (names_of config) config.request (both_left (has_pairs_behind config) (reaches_pairs config) h) in
    let reaches = not-true (nat_lt 0 (length (names_of config)) && list_any ends_rules (plain_rules config)) (both_right (has_pairs_behind config) (reaches_pairs config) h) in
    let low : config.limits.maxrewrite ≤ config.limits.bufsize - least_head = omega (arith, leaves) in
    all_pass (nat_lt (config.limits.bufsize - least_head) config.limits.maxrewrite) (nat_lt 0 (length (names_of config)) && list_any ends_rules (plain_rules config))
    (with_pairs (plain_rules config) (names_of config) (pair_rules config)) (application_of (application_and_pairs config.application))
    (λ rules app. made_config (with_all draft config) rules app config.bind config.server) config.request config.application config
    (le-ltb (config.limits.bufsize - least_head) config.limits.maxrewrite low) reaches
    (pairs_back (plain_rules config) (names_of config) (pair_rules config) config.request joined valid.request.few)
    (application_back config.application) (ap (λ (peer : Option Peer). record config { peer = peer }) (sym alone))
