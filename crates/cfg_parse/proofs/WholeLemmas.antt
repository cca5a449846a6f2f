-- What stands before the first line is sound, and what is sound behind the last line is valid.
use Rattle.std.proofs.Common.{◌≡◌, ℕ, ◌+◌, ◌-◌, ◌≤◌, ltb, cond, List, [], ◌∷◌, ◌++◌, length, map, Option, Some, None, Result, Ok, Err, refl, subst, ◌∙◌, false, arith, length-append}
use Rattle.std.specs.Prelude.{IfSome, unwrap_or}
use Rattle.std.specs.List.{AllByRecursion}
use Rattle.std.proofs.lemmas.Bool.Decides.{nat_tests}
use Rattle.std.proofs.lemmas.Bool.{ltb-false}
use Rattle.std.proofs.lemmas.List.{length-map}
use Rattle.px_link.specs.declared.address.Address.{Address}
use Rattle.fcgi_model.specs.Application.{Application}
use Rattle.http_rules.specs.declared.config.Config.{Config}
use Rattle.http_rules.specs.Valid.{AreLimits, HasPort, HasHost, IsParam, IsApplication, IsValid}
use Rattle.http_rules.specs.declared.rule.rule.Rule.{Rule}
use Rattle.http_rules.specs.declared.rule.action.Direction.{Direction as Rules}
use Rattle.http_rules.specs.declared.rule.action.Direction.TheVariants as lists
use Rattle.http_rules.specs.Rule.Valid.{AreRules, IsGoodRule}
use Rattle.cfg_parse.specs.declared.fault.CfgKind.{CfgKind}
use Rattle.cfg_parse.specs.declared.fault.CfgKind.TheVariants.{Argument, Limit, Missing}
use Rattle.cfg_parse.specs.declared.draft.Draft.{Draft}
use Rattle.cfg_parse.specs.Reading.{◌>>=◌}
use Rattle.cfg_parse.specs.Draft.{no_application, start, has_listen}
use Rattle.cfg_parse.specs.Sound.{IsSoundApplication, IsSound}
use Rattle.cfg_parse.specs.Whole.{bufsize_of, maxrewrite_of, limits_of, made_config, with_last, param_removal, pair_rules, with_pairs, stops_pairs, application_of, with_addresses, whole}
use Rattle.cfg_parse.proofs.ApplicationLemmas.{all_append, removals_good, application_of-good}
use Rattle.cfg_parse.proofs.FilterLemmas.{none_chain}
use Rattle.cfg_parse.proofs.SoundLemmas.{one_more}
use Rattle.cfg_parse.proofs.StepLemmas.{bind_ok, guard_ok, passed, given, ok_is, then_ok, then_passed}

no_rules : (direction : Rules) → AreRules direction []
no_rules direction = record { each = tt; few = omega arith }

no_application-sound : IsSoundApplication no_application
no_application-sound = record { root = tt; index = tt; script = tt; params = tt }

pub start-sound : IsSound start
start-sound = record { bufsize = tt; bind = tt; server = tt; send_proxy = tt; application = no_application-sound; request = no_rules lists.Request; response = no_rules lists.Response; after = no_rules lists.After; param_rules = tt; req_filters = none_chain; res_filters = none_chain; forwarding = tt }

-- the size of the buffer of a sound draft
bufsize-within : (bufsize : Option ℕ) → IfSome bufsize (λ n. (1024 ≤ n) × (n ≤ 262144)) → (1024 ≤ unwrap_or bufsize 16384) × (unwrap_or bufsize 16384 ≤ 262144)
bufsize-within None within = (omega arith, omega arith)
bufsize-within (Some n) within = within

with_addresses-valid : (draft : Draft) (rules : List Rule) (app : Option Application) (bind server : Option Address) (config : Config) → IsSound draft → AreRules lists.Request rules → IfSome app IsApplication → maxrewrite_of draft ≤ bufsize_of draft - 512
    → IfSome bind HasPort → IfSome server (λ a. HasPort a × HasHost a) → with_addresses draft rules app bind server ≡ Ok config → IsValid config
with_addresses-valid draft rules app None server config s are asked suits b v e = absurd cc
with_addresses-valid draft rules app (Some bind) None config s are asked suits b v e = absurd cc
with_addresses-valid draft rules app (Some bind) (Some server) config s are asked suits b v e =
    let made = made_config draft rules app bind server in
    let test = passed (has_listen draft.listen) Missing (Ok made) config e in
    let within = bufsize-within draft.bufsize s.bufsize in
    let limits : AreLimits (limits_of draft) = record { least = within.0; most = within.1; leaves = omega (arith, within.0, suits) } in
    subst IsValid (ok_is made config test.1) (record { limits = limits; bind_port = b; server_port = v.0; server_host = v.1; send_proxy = s.send_proxy; application = asked; request = are; response = s.response; after = s.after; req_filters = s.req_filters; res_filters = s.res_filters })

with_last-good : (rules : List Rule) (last : Option Rule) → AreRules lists.Request rules → IfSome last (IsGoodRule lists.Request) → (all : List Rule) → with_last rules last ≡ Ok all → AreRules lists.Request all
with_last-good rules None are good all is = subst (AreRules lists.Request) (ok_is rules all is) are
with_last-good rules (Some rule) are good all is =
    let test = passed (ltb (length rules) 1024) Limit (given (rules ++ rule ∷ [])) all is in
    let room : length rules + 1 ≤ 1024 = grind (arith, nat_tests, test.0) in
    subst (AreRules lists.Request) (ok_is (rules ++ rule ∷ []) all test.1) (one_more lists.Request rules rule are good room)

with_pairs-good : (rules : List Rule) (names : List (List ℕ)) (sets : List Rule) → AreRules lists.Request rules → AllByRecursion IsParam names → AllByRecursion (IsGoodRule lists.Request) sets → (all : List Rule) → with_pairs rules names sets ≡ Ok all → AreRules lists.Request all
with_pairs-good rules names sets are named good all is =
    let pairs = pair_rules names sets in
    let test = guard_ok (ltb 1024 (length rules + (length names + length sets))) Limit (given (rules ++ pairs)) all is in
    let room : length rules + (length names + length sets) ≤ 1024 = ltb-false _ _ test.0 in
    let removals : length (map param_removal names) ≡ length names = length-map names param_removal in
    let inner : length pairs ≡ length (map param_removal names) + length sets = length-append (map param_removal names) sets in
    let outer : length (rules ++ pairs) ≡ length rules + length pairs = length-append rules pairs in
    let few : length (rules ++ pairs) ≤ 1024 = omega (arith, room, removals, inner, outer) in
    let each = all_append (IsGoodRule lists.Request) rules pairs are.each (all_append (IsGoodRule lists.Request) (map param_removal names) sets (removals_good names named) good) in
    subst (AreRules lists.Request) (ok_is (rules ++ pairs) all test.1) (record { each = each; few = few })

pub whole-valid : (draft : Draft) (config : Config) → IsSound draft → whole draft ≡ Ok config → IsValid config
unfolding whole
whole-valid draft config s e =
    let addressed : List Rule → Option Application → Result Config CfgKind = λ all app. with_addresses draft all app draft.bind draft.server in
    let asked : List Rule → Result Config CfgKind = λ all. application_of draft.application >>= addressed all in
    let paired : List Rule → Result Config CfgKind = λ rules. with_pairs rules draft.application.params draft.param_rules >>= asked in
    let rest : Result Config CfgKind = with_last draft.request draft.forwarding >>= paired in
    let test = guard_ok (ltb (bufsize_of draft - 512) (maxrewrite_of draft)) Limit (cond (stops_pairs draft) (Err Argument) rest) config e in
    let runs = guard_ok (stops_pairs draft) Argument rest config test.1 in
    let made = bind_ok (with_last draft.request draft.forwarding) paired config runs.1 in
    let all = bind_ok (with_pairs made.0 draft.application.params draft.param_rules) asked config made.1.1 in
    let app = bind_ok (application_of draft.application) (addressed all.0) config all.1.1 in
    let first = with_last-good draft.request draft.forwarding s.request s.forwarding made.0 made.1.0 in
    let rules = with_pairs-good made.0 draft.application.params draft.param_rules first s.application.params s.param_rules all.0 all.1.0 in
    with_addresses-valid draft all.0 app.0 draft.bind draft.server config s rules (application_of-good draft.application app.0 s.application app.1.0) (ltb-false _ _ test.0) s.bind s.server app.1.1

-- what is left to do of a draft behind its rules
pub behind_rules : (draft : Draft) (rules all : List Rule) → ltb (bufsize_of draft - 512) (maxrewrite_of draft) ≡ false → stops_pairs draft ≡ false
    → with_last draft.request draft.forwarding ≡ Ok rules → with_pairs rules draft.application.params draft.param_rules ≡ Ok all
    → whole draft ≡ (application_of draft.application >>= λ app. with_addresses draft all app draft.bind draft.server)
unfolding whole
behind_rules draft rules all suits runs first others =
    let asked : List Rule → Result Config CfgKind = λ all. application_of draft.application >>= λ app. with_addresses draft all app draft.bind draft.server in
    let paired : List Rule → Result Config CfgKind = λ rules. with_pairs rules draft.application.params draft.param_rules >>= asked in
    let rest : Result Config CfgKind = with_last draft.request draft.forwarding >>= paired in
    then_passed _ Limit (cond (stops_pairs draft) (Err Argument) rest) suits
    ∙ then_passed _ Argument rest runs
    ∙ then_ok _ paired rules first
    ∙ then_ok _ asked all others

-- and behind its application
pub behind_application : (draft : Draft) (rules all : List Rule) (app : Option Application) → ltb (bufsize_of draft - 512) (maxrewrite_of draft) ≡ false → stops_pairs draft ≡ false
    → with_last draft.request draft.forwarding ≡ Ok rules → with_pairs rules draft.application.params draft.param_rules ≡ Ok all → application_of draft.application ≡ Ok app
    → whole draft ≡ with_addresses draft all app draft.bind draft.server
behind_application draft rules all app suits runs first others asked =
    behind_rules draft rules all suits runs first others ∙ then_ok _ (λ app. with_addresses draft all app draft.bind draft.server) app asked
