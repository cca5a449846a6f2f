-- What all lines come to can be said again in its settings.
use Rattle.std.proofs.Common.{◌≡◌, ℕ, ◌+◌, ◌-◌, ◌≤◌, ◌⊎◌, inl, inr, Bool, true, false, cond, List, [], ◌∷◌, ◌++◌, length, Result, Ok, Err, refl, sym, ◌∙◌, subst, arith}
use Rattle.std.proofs.lemmas.Bool.{false≢true, or_from, and_from, ltb-false}
use Rattle.std.proofs.lemmas.List.Folds.{list_any-append}
use Rattle.std.specs.Prelude.{◌&&◌, ◌||◌, not, nat_lt, Option, Some, None, is_some, is_none, IfSome, unwrap_or}
use Rattle.std.specs.List.{list_any, AllByRecursion}
use Rattle.std.specs.Str.Lines.{lines}
use Rattle.http_model.specs.Sizes.{least_size, most_size, least_head}
use Rattle.px_link.specs.declared.address.Address.{Address}
use Rattle.fcgi_model.specs.Application.{Application}
use Rattle.http_rules.specs.Valid.{AreLimits, IsParam, IsApplication}
use Rattle.http_rules.specs.declared.config.Config.{Config}
use Rattle.http_rules.specs.declared.rule.rule.Rule.{Rule}
use Rattle.cfg_parse.specs.declared.fault.CfgKind.{CfgKind}
use Rattle.cfg_parse.specs.declared.fault.CfgKind.TheVariants.{Argument, Limit, Missing}
use Rattle.cfg_parse.specs.declared.draft.ApplicationLines.{ApplicationLines}
use Rattle.cfg_parse.specs.declared.draft.Draft.{Draft}
use Rattle.cfg_parse.specs.Draft.{start, has_listen}
use Rattle.cfg_parse.specs.Limits.{default_bufsize, most_text, most_rules}
use Rattle.cfg_parse.specs.Whole.{pair_rules as made_rules}
use Rattle.cfg_parse.specs.Whole.{ends_rules, Refusal, bufsize_of, maxrewrite_of, limits_of, with_last, stops_pairs, with_pairs, application_below, tells_more, application_of, made_config, with_addresses, whole, lines_from, of_text, after_lines, of_lines, read_whole}
use Rattle.cfg_laws.specs.SpelledSettings.{is_spelled_host, are_times, is_manner, are_spelled_settings}
use Rattle.cfg_print.specs.Pairs.{pair_names}
use Rattle.cfg_laws.specs.SpelledPairs.{are_spelled_pairs}
use Rattle.cfg_laws.specs.Laws.ReadSettings.{CanSayServer, CanSayAddress, CanSayFiles, CanSayManner, CanSaySettings, CanSayConfig}
use Rattle.cfg_laws.proofs.ReadLemmas.Steps.{GivesSo, so_given}
use Rattle.cfg_laws.proofs.ReadLemmas.SettingSteps.{so_step, so_unless, so_if, so_either}
use Rattle.cfg_laws.proofs.ReadLemmas.PairRules.{are_said, pairs_said}
use Rattle.cfg_laws.proofs.ReadLemmas.SettingLines.{start_said}
use Rattle.cfg_laws.proofs.ReadLemmas.Drafts.{lines_said}

-- ---- sizes

buffer_within : (bufsize : Option ℕ) → IfSome bufsize (λ n. (least_size ≤ n) × (n ≤ most_size)) → (least_size ≤ unwrap_or bufsize default_bufsize) × (unwrap_or bufsize default_bufsize ≤ most_size)
buffer_within None h = (omega arith, omega arith)
buffer_within (Some n) h = h

limits_said : (draft : Draft) → CanSaySettings draft → nat_lt (bufsize_of draft - least_head) (maxrewrite_of draft) ≡ false → AreLimits (limits_of draft)
limits_said draft c suits =
    let within = buffer_within draft.bufsize c.bufsize in
    let low = within.0 in
    let fits = ltb-false (bufsize_of draft - least_head) (maxrewrite_of draft) suits in
    record { least = within.0; most = within.1; leaves = leaves (bufsize_of draft) (maxrewrite_of draft) low fits }
  where
    leaves : (bufsize maxrewrite : ℕ) → least_size ≤ bufsize → maxrewrite ≤ bufsize - least_head → maxrewrite + least_head ≤ bufsize
    leaves bufsize maxrewrite low fits = omega (arith, low, fits)

-- ---- applications

-- how a server is asked, and that an application is one that a configuration may have
record AppSaid (send_proxy : Option ℕ) (told : List (List ℕ)) (app : Option Application) : Type 0 where
  pub manner : is_manner app send_proxy ≡ true
  pub good : IfSome app IsApplication
  pub pairs : (pair_names app ≡ []) ⊎ (pair_names app ≡ told)

none_sent : (asked : Bool) (send_proxy : Option ℕ) → asked ≡ true → not (asked && is_some send_proxy) ≡ true → is_none send_proxy ≡ true
none_sent false send_proxy is h = absurd (false≢true is)
none_sent true None is h = refl
none_sent true (Some version) is h = absurd (false≢true h)

below_said : (send_proxy : Option ℕ) (lines : ApplicationLines) (root : Option (List ℕ)) → is_none send_proxy ≡ true → CanSayFiles root lines.index lines.script → AllByRecursion IsParam lines.params → GivesSo (AppSaid send_proxy lines.params) (application_below lines root)
unfolding is_manner
below_said send_proxy lines None none files names = tt
below_said send_proxy lines (Some root) none files names =
    record { manner = and_from (is_none send_proxy) (not (is_some lines.index && is_some lines.script)) none files.one; good = record { root = files.below; index = files.behind; script = files.alone; params = names }; pairs = inr refl }

app_said : (send_proxy : Option ℕ) (lines : ApplicationLines) → CanSayManner send_proxy lines.is_asked → CanSayFiles lines.root lines.index lines.script → AllByRecursion IsParam lines.params → GivesSo (AppSaid send_proxy lines.params) (application_of lines)
unfolding application_of is_manner
app_said send_proxy lines manner files names =
    so_either (AppSaid send_proxy lines.params) lines.is_asked (application_below lines lines.root) (cond (tells_more lines) (Err Missing) (Ok None))
    (λ asked. below_said send_proxy lines lines.root (none_sent lines.is_asked send_proxy asked manner.alone) files names)
    (λ other. so_unless (AppSaid send_proxy lines.params) (tells_more lines) Missing (Ok None) (λ less. record { manner = refl; good = tt; pairs = inl refl }))

-- ---- rules of pairs

with_last_said : (rules : List Rule) (last : Option Rule) → list_any ends_rules rules ≡ false → IfSome last (λ rule. ends_rules rule ≡ false) → GivesSo (λ (all : List Rule). list_any ends_rules all ≡ false) (with_last rules last)
with_last_said rules None h i = h
with_last_said rules (Some rule) h i =
    so_if (λ (all : List Rule). list_any ends_rules all ≡ false) (nat_lt (length rules) most_rules) Limit (Ok (rules ++ rule ∷ []))
    (λ room. list_any-append ends_rules rules (rule ∷ []) ∙ or_from (list_any ends_rules rules) (ends_rules rule || false) h (or_from (ends_rules rule) false i refl))

made_is : (t : Bool) (rules all : List Rule) → cond t (Err Limit) (Ok rules) ≡ Ok all → rules ≡ all
made_is true rules all h = absurd cc
made_is false rules all h = cc

and_false : (a b : Bool) → (a && b) ≡ false → a ≡ true → b ≡ false
and_false true b h is = h
and_false false b h is = absurd (false≢true is)

pairs_of : (draft : Draft) (rules all : List Rule) (app : Option Application) → CanSaySettings draft → stops_pairs draft ≡ false → with_last draft.request draft.forwarding ≡ Ok rules
    → with_pairs rules draft.application.params draft.param_rules ≡ Ok all → (pair_names app ≡ []) ⊎ (pair_names app ≡ draft.application.params) → are_said (pair_names app) all ≡ true
pairs_of draft rules all app c reaches last pairs (inl none) = subst (λ (names : List (List ℕ)). are_said names all ≡ true) (sym none) refl
pairs_of draft rules all app c reaches last pairs (inr same) =
    let names = draft.application.params in
    let sets = draft.param_rules in
    let is = made_is (nat_lt most_rules (length rules + (length names + length sets))) (rules ++ made_rules names sets) all pairs in
    let alone : nat_lt 0 (length names) ≡ true → list_any ends_rules rules ≡ false = λ some.
    so_given (λ (all : List Rule). list_any ends_rules all ≡ false) (with_last draft.request draft.forwarding) rules
    (with_last_said draft.request draft.forwarding (and_false (nat_lt 0 (length names)) (list_any ends_rules draft.request) reaches some) c.forwarding) last in
    subst (λ (ns : List (List ℕ)). are_said ns all ≡ true) (sym same) (subst (λ (rs : List Rule). are_said names rs ≡ true) is (pairs_said names rules sets c.sets alone))

-- ---- the whole

addresses_said : (draft : Draft) (rules : List Rule) (app : Option Application) (bind server : Option Address) → CanSaySettings draft → AreLimits (limits_of draft) → AppSaid draft.send_proxy draft.application.params app → are_said (pair_names app) rules ≡ true
    → IfSome bind CanSayAddress → IfSome server CanSayServer → GivesSo CanSayConfig (with_addresses draft rules app bind server)
unfolding are_spelled_settings are_spelled_pairs
addresses_said draft rules app None server c limits asked said_pairs at to = tt
addresses_said draft rules app (Some bind) None c limits asked said_pairs at to = tt
addresses_said draft rules app (Some bind) (Some server) c limits asked said_pairs at to =
    let manner = c.manner in
    let said = to.said in
    so_if CanSayConfig (has_listen draft.listen) Missing (Ok (made_config draft rules app bind server))
    (λ begun. record {
      limits = limits;
      spelled = and_from (is_spelled_host bind.host && is_spelled_host server.host) (are_times draft.timeouts && is_manner app draft.send_proxy)
          (and_from (is_spelled_host bind.host) (is_spelled_host server.host) at.host said.host)
          (and_from (are_times draft.timeouts) (is_manner app draft.send_proxy) c.times asked.manner);
      bind = at.port;
      server = to;
      version = manner.version;
      application = asked.good;
      pairs = said_pairs;
      requests = c.requests;
      responses = c.responses;
      peer = refl;
    })

pub whole_said : (draft : Draft) → CanSaySettings draft → GivesSo CanSayConfig (whole draft)
unfolding whole
whole_said draft c =
    so_unless CanSayConfig (nat_lt (bufsize_of draft - least_head) (maxrewrite_of draft)) Limit _
    (λ suits. so_unless CanSayConfig (stops_pairs draft) Argument _
    (λ reaches. so_step CanSayConfig (with_last draft.request draft.forwarding) _
    (λ rules a. so_step CanSayConfig (with_pairs rules draft.application.params draft.param_rules) _
    (λ all b. so_step CanSayConfig (application_of draft.application) _
    (λ app is. let asked = so_given (AppSaid draft.send_proxy draft.application.params) (application_of draft.application) app (app_said draft.send_proxy draft.application c.manner c.files c.names) is in
    addresses_said draft all app draft.bind draft.server c (limits_said draft c suits) asked (pairs_of draft rules all app c reaches a b asked.pairs) c.bind c.server)))))

pub whole_spelled : (draft : Draft) (config : Config) → CanSaySettings draft → whole draft ≡ Ok config → CanSayConfig config
whole_spelled draft config c is = so_given CanSayConfig (whole draft) config (whole_said draft c) is

-- ---- of a text

in_text : (told : Result Config CfgKind) → GivesSo CanSayConfig told → GivesSo CanSayConfig (of_text told)
in_text (Ok config) h = h
in_text (Err kind) h = tt

behind_lines : (told : Result Draft Refusal) → GivesSo CanSaySettings told → GivesSo CanSayConfig (after_lines told)
behind_lines (Ok draft) h = in_text (whole draft) (whole_said draft h)
behind_lines (Err refusal) h = tt

text_said : (text : List ℕ) → GivesSo CanSayConfig (read_whole text).gives
unfolding read_whole
text_said text = by (nat_lt most_text (length text))
  where
    by : (t : Bool) → GivesSo CanSayConfig (cond t (record { asks = []; gives = Err (0, Limit) }) (of_lines (lines_from 1 start (lines text)))).gives
    by true = tt
    by false = behind_lines (lines_from 1 start (lines text)).gives (lines_said 1 start (lines text) start_said)

pub texts_spelled : (text : List ℕ) (config : Config) → (read_whole text).gives ≡ Ok config → CanSayConfig config
texts_spelled text config is = so_given CanSayConfig (read_whole text).gives config (text_said text) is
