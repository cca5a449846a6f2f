-- The lines of settings of a canonical text, and what they make together.
use Rattle.std.proofs.Common.{◌≡◌, ℕ, ◌+◌, ◌≤◌, Bool, true, List, [], ◌∷◌, ◌++◌, refl, sym, ap, ◌∙◌, subst, arith}
use Rattle.std.proofs.lemmas.Bool.{false≢true, leb-true}
use Rattle.std.specs.Prelude.{◌&&◌, not, Option, Some, None, is_none, is_some, IfSome, Ok, codes}
use Rattle.std.specs.Fmt.{decimal}
use Rattle.cfg_lex.specs.Items.{item_at}
use Rattle.cfg_lex.specs.Items.{plain as plain_item}
use Rattle.cfg_lex.specs.Words.{verdict, words_of}
use Rattle.http_model.specs.declared.Limits.{Limits}
use Rattle.http_model.specs.Sizes.{least_size, most_size}
use Rattle.px_link.specs.declared.address.Address.{Address}
use Rattle.fcgi_model.specs.Application.{Application}
use Rattle.http_rules.specs.Valid.{AreLimits, IsPath, IsScript, IsApplication, IsValid}
use Rattle.http_rules.specs.declared.config.Timeouts.{Timeouts}
use Rattle.http_rules.specs.declared.config.Config.{Config}
use Rattle.cfg_expr.specs.Reading.{plain}
use Rattle.cfg_parse.specs.declared.keywords.Setting.TheVariants.{Bufsize, Maxrewrite, Mode, Timeout, Bind, Server, Docroot, Index, Script}
use Rattle.cfg_parse.specs.declared.keywords.Places.TheVariants.{InGlobal, InBoth, InListen}
use Rattle.cfg_parse.specs.declared.keywords.TimeoutName.{TimeoutName}
use Rattle.cfg_parse.specs.declared.keywords.TimeoutName.TheVariants as names
use Rattle.cfg_parse.specs.declared.draft.ApplicationLines.{ApplicationLines}
use Rattle.cfg_parse.specs.declared.draft.Draft.{Draft}
use Rattle.cfg_parse.specs.declared.draft.Section.TheVariants as sections
use Rattle.cfg_parse.specs.declared.draft.Listen.{Listen}
use Rattle.cfg_parse.specs.declared.draft.Listen.TheVariants as listens
use Rattle.cfg_parse.specs.Draft.{no_application}
use Rattle.cfg_parse.specs.Keywords.{section_word, timed_wait, is_idle_timeout, timeout_of}
use Rattle.cfg_parse.specs.Numbers.{most_time}
use Rattle.cfg_parse.specs.Settings.{section_line}
use Rattle.cfg_parse.specs.Lines.{setting_line, words_line}
use Rattle.cfg_print.specs.Words.{line_text}
use Rattle.cfg_print.specs.Printed.{bind_line, server_line, time_line, times_text, path_line, application_text, global_text, settings_text, address_text, accept_words, manner_words}
use Rattle.cfg_laws.specs.SpelledSettings.{is_spelled_host, is_time, are_times, is_manner, are_spelled_settings}
use Rattle.cfg_laws.specs.Laws.Settings.{Makes, with_limits, count_path, count_application, application_lines, with_settings, IsFresh}
use Rattle.cfg_laws.proofs.LawLemmas.Words.{both_left, both_right}
use Rattle.cfg_laws.proofs.LawLemmas.Lines.{literal_line}
use Rattle.cfg_laws.proofs.LawLemmas.Steps.{IsLine, made_by_line, made_by_words, made_by_none, made_by_both, made_by_count}
use Rattle.cfg_laws.proofs.LawLemmas.SettingWords.{line_makes, bufsize_word, maxrewrite_word, mode_word, timeout_word, bind_word, server_word, docroot_word, index_word, script_word, bufsize_back, maxrewrite_back, mode_back, timed, timeout_back, bind_back, server_back, root_back, index_back, script_back}

-- ---- lines that begin a section

empty_line : IsLine [] (10 ∷ []) []
unfolding words_of verdict
empty_line rest = (literal_line [] rest refl, λ h. refl)

global_is : IsLine (codes "global") (codes "global\n") (codes "global" ∷ [])
unfolding words_of verdict item_at plain_item
global_is rest = (literal_line (codes "global") rest refl, λ h. refl)

listen_is : IsLine (codes "listen proxy") (codes "listen proxy\n") (codes "listen" ∷ codes "proxy" ∷ [])
unfolding words_of verdict item_at plain_item
listen_is rest = (literal_line (codes "listen proxy") rest refl, λ h. refl)

global_words : (draft : Draft) → words_line draft (codes "global" ∷ []) ≡ plain (Ok (record draft { section = sections.Global }))
unfolding words_line section_word section_line
global_words draft = refl

-- before the first line of `listen`
abbrev fresh : Draft → Draft
fresh draft = record draft { listen = listens.Missing; bind = None; server = None; application = no_application }

-- behind it
abbrev begun : Draft → Draft
begun draft = record draft { section = sections.Listen; listen = listens.Begun; bind = None; server = None; application = no_application }

listen_words : (draft : Draft) → words_line (fresh draft) (codes "listen" ∷ codes "proxy" ∷ []) ≡ plain (Ok (begun draft))
unfolding words_line section_word section_line
listen_words draft = refl

no_words : (draft : Draft) → words_line draft [] ≡ plain (Ok draft)
unfolding words_line
no_words draft = refl

listen_begins : (draft : Draft) → Makes (codes "\nlisten proxy\n") (fresh draft) (begun draft) 2
listen_begins draft =
    made_by_both (10 ∷ []) (codes "listen proxy\n") (fresh draft) (fresh draft) (begun draft) 1 1
    (made_by_line [] (10 ∷ []) [] (fresh draft) (fresh draft) empty_line (no_words (fresh draft)))
    (made_by_line (codes "listen proxy") (codes "listen proxy\n") (codes "listen" ∷ codes "proxy" ∷ []) (fresh draft) (begun draft) listen_is (listen_words draft))

-- ---- sizes

bufsize_makes : (draft : Draft) (n : ℕ) → draft.section ≡ sections.Global → least_size ≤ n → n ≤ most_size → Makes (line_text (codes "tune.bufsize" ∷ decimal n ∷ [])) draft (record draft { bufsize = Some n }) 1
unfolding setting_line
bufsize_makes draft n section low high =
    let next = record draft { bufsize = Some n } in
    made_by_words (codes "tune.bufsize" ∷ decimal n ∷ []) draft next
    (line_makes draft next sections.Global (codes "tune.bufsize") Bufsize InGlobal (decimal n ∷ []) bufsize_word section refl refl (ap plain (bufsize_back draft n low high)))

maxrewrite_makes : (draft : Draft) (n : ℕ) → draft.section ≡ sections.Global → n ≤ most_size → Makes (line_text (codes "tune.maxrewrite" ∷ decimal n ∷ [])) draft (record draft { maxrewrite = Some n }) 1
unfolding setting_line
maxrewrite_makes draft n section high =
    let next = record draft { maxrewrite = Some n } in
    made_by_words (codes "tune.maxrewrite" ∷ decimal n ∷ []) draft next
    (line_makes draft next sections.Global (codes "tune.maxrewrite") Maxrewrite InGlobal (decimal n ∷ []) maxrewrite_word section refl refl (ap plain (maxrewrite_back draft n high)))

pub global_back : (draft : Draft) (limits : Limits) → AreLimits limits → Makes (global_text limits) draft (with_limits draft limits) 3
unfolding global_text
global_back draft limits are =
    let leaves = are.leaves in
    let most = are.most in
    let first = record draft { section = sections.Global } in
    let second = record draft { section = sections.Global; bufsize = Some limits.bufsize } in
    let sized = line_text (codes "tune.bufsize" ∷ decimal limits.bufsize ∷ []) in
    let left_free = line_text (codes "tune.maxrewrite" ∷ decimal limits.maxrewrite ∷ []) in
    made_by_both (codes "global\n" ++ sized) left_free draft second (with_limits draft limits) 2 1
    (made_by_both (codes "global\n") sized draft first second 1 1
    (made_by_line (codes "global") (codes "global\n") (codes "global" ∷ []) draft first global_is (global_words draft))
    (bufsize_makes first limits.bufsize refl are.least are.most))
    (maxrewrite_makes second limits.maxrewrite refl (omega arith))

-- ---- addresses

mode_makes : (draft : Draft) → draft.section ≡ sections.Listen → Makes (line_text (codes "mode" ∷ codes "http" ∷ [])) draft draft 1
unfolding setting_line
mode_makes draft section =
    made_by_words (codes "mode" ∷ codes "http" ∷ []) draft draft
    (line_makes draft draft sections.Listen (codes "mode") Mode InBoth (codes "http" ∷ []) mode_word section refl refl (ap plain (mode_back draft)))

-- behind `bind`
abbrev bound : Draft → Config → Draft
bound draft config = record (begun draft) { bind = Some config.bind; accept_proxy = config.accept_proxy }

bind_makes : (draft : Draft) (config : Config) → IsValid config → is_spelled_host config.bind.host ≡ true → Makes (bind_line config) (begun draft) (bound draft config) 1
unfolding setting_line
bind_makes draft config valid spelled =
    let arguments = address_text config.bind ∷ accept_words config.accept_proxy in
    made_by_words (codes "bind" ∷ arguments) (begun draft) (bound draft config)
    (line_makes (begun draft) (bound draft config) sections.Listen (codes "bind") Bind InListen arguments bind_word refl refl refl
    (ap plain (bind_back (begun draft) config.bind config.accept_proxy valid.bind_port spelled refl)))

-- what a `server` line says of an application
abbrev asked : Option Application → ApplicationLines
asked app = record no_application { is_asked = is_some app }

-- behind `server`
abbrev served : Draft → Config → Draft
served draft config = record (bound draft config) { server = Some config.server; send_proxy = config.send_proxy; application = asked config.application }

server_makes : (draft : Draft) (config : Config) → IsValid config → is_spelled_host config.server.host ≡ true → is_manner config.application config.send_proxy ≡ true
    → Makes (server_line config) (bound draft config) (served draft config) 1
unfolding setting_line
server_makes draft config valid spelled manner =
    let arguments = codes "app" ∷ address_text config.server ∷ manner_words config.application config.send_proxy in
    made_by_words (codes "server" ∷ arguments) (bound draft config) (served draft config)
    (line_makes (bound draft config) (served draft config) sections.Listen (codes "server") Server InListen arguments server_word refl refl refl
    (ap plain (server_back (bound draft config) config.server config.application config.send_proxy valid.server_port valid.server_host spelled manner valid.send_proxy refl)))

-- ---- times

time_makes : (draft : Draft) (word : List ℕ) (name : TimeoutName) (time : ℕ) → timeout_of word ≡ Some name → draft.section ≡ sections.Listen → is_time time ≡ true
    → Makes (time_line word time) draft (timed draft name time) 1
unfolding setting_line
time_makes draft word name time is section short =
    let arguments = word ∷ (decimal time ++ codes "ms") ∷ [] in
    made_by_words (codes "timeout" ∷ arguments) draft (timed draft name time)
    (line_makes draft (timed draft name time) sections.Listen (codes "timeout") Timeout InBoth arguments timeout_word section refl refl
    (ap plain (timeout_back draft word name time is section (leb-true time most_time short))))

client_word : timeout_of (codes "client") ≡ Some names.Client
unfolding timed_wait is_idle_timeout
client_word = refl

server_time_word : timeout_of (codes "server") ≡ Some names.Server
unfolding timed_wait is_idle_timeout
server_time_word = refl

connect_word : timeout_of (codes "connect") ≡ Some names.Connect
unfolding timed_wait is_idle_timeout
connect_word = refl

request_word : timeout_of (codes "http-request") ≡ Some names.HttpRequest
unfolding timed_wait is_idle_timeout
request_word = refl

keep_alive_word : timeout_of (codes "http-keep-alive") ≡ Some names.HttpKeepAlive
unfolding timed_wait is_idle_timeout
keep_alive_word = refl

times_make : (draft : Draft) (times : Timeouts) → draft.section ≡ sections.Listen → are_times times ≡ true → Makes (times_text times) draft (record draft { timeouts = times }) 5
unfolding times_text are_times
times_make draft times section h =
    let of_last : Bool = is_time times.http_request && is_time times.http_keep_alive in
    let of_third : Bool = is_time times.connect && of_last in
    let of_later : Bool = is_time times.server && of_third in
    let later = both_right (is_time times.client) of_later h in
    let third = both_right (is_time times.server) of_third later in
    let last = both_right (is_time times.connect) of_last third in
    let a = timed draft names.Client times.client in
    let b = timed a names.Server times.server in
    let c = timed b names.Connect times.connect in
    let d = timed c names.HttpRequest times.http_request in
    let e = timed d names.HttpKeepAlive times.http_keep_alive in
    let one = time_line (codes "client") times.client in
    let two = time_line (codes "server") times.server in
    let three = time_line (codes "connect") times.connect in
    let four = time_line (codes "http-request") times.http_request in
    let five = time_line (codes "http-keep-alive") times.http_keep_alive in
    made_by_both (one ++ two ++ three ++ four) five draft d e 4 1
    (made_by_both (one ++ two ++ three) four draft c d 3 1
    (made_by_both (one ++ two) three draft b c 2 1
    (made_by_both one two draft a b 1 1
    (time_makes draft (codes "client") names.Client times.client client_word section (both_left (is_time times.client) of_later h))
    (time_makes a (codes "server") names.Server times.server server_time_word section (both_left (is_time times.server) of_third later)))
    (time_makes b (codes "connect") names.Connect times.connect connect_word section (both_left (is_time times.connect) of_last third)))
    (time_makes c (codes "http-request") names.HttpRequest times.http_request request_word section (both_left (is_time times.http_request) (is_time times.http_keep_alive) last)))
    (time_makes d (codes "http-keep-alive") names.HttpKeepAlive times.http_keep_alive keep_alive_word section (both_right (is_time times.http_request) (is_time times.http_keep_alive) last))

-- ---- what an application is

-- with these files told
abbrev filed : Draft → (root : Option (List ℕ)) → (index script : Option (List ℕ)) → Draft
filed draft root index script = record draft { application = record { is_asked = true; root = root; index = index; script = script; params = [] } }

root_makes : (draft : Draft) (path : List ℕ) → draft.section ≡ sections.Listen → IsPath path → Makes (line_text (codes "fcgi-docroot" ∷ path ∷ [])) (filed draft None None None) (filed draft (Some path) None None) 1
unfolding setting_line
root_makes draft path section is =
    let before = filed draft None None None in
    let next = filed draft (Some path) None None in
    made_by_words (codes "fcgi-docroot" ∷ path ∷ []) before next
    (line_makes before next sections.Listen (codes "fcgi-docroot") Docroot InListen (path ∷ []) docroot_word section refl refl (ap plain (root_back before path is refl)))

index_makes : (draft : Draft) (root index : Option (List ℕ)) → draft.section ≡ sections.Listen → IfSome index IsPath
    → Makes (path_line (codes "fcgi-index") index) (filed draft root None None) (filed draft root index None) (count_path index)
unfolding setting_line
index_makes draft root None section is = made_by_none (filed draft root None None)
index_makes draft root (Some path) section is =
    let before = filed draft root None None in
    let next = filed draft root (Some path) None in
    made_by_words (codes "fcgi-index" ∷ path ∷ []) before next
    (line_makes before next sections.Listen (codes "fcgi-index") Index InListen (path ∷ []) index_word section refl refl (ap plain (index_back before path is refl refl)))

script_makes : (draft : Draft) (root index script : Option (List ℕ)) → draft.section ≡ sections.Listen → IfSome script IsScript → not (is_some index && is_some script) ≡ true
    → Makes (path_line (codes "fcgi-script") script) (filed draft root index None) (filed draft root index script) (count_path script)
unfolding setting_line
script_makes draft root index None section is one = made_by_none (filed draft root index None)
script_makes draft root (Some file) (Some path) section is one = absurd (false≢true one)
script_makes draft root None (Some path) section is one =
    let before = filed draft root None None in
    let next = filed draft root None (Some path) in
    made_by_words (codes "fcgi-script" ∷ path ∷ []) before next
    (line_makes before next sections.Listen (codes "fcgi-script") Script InListen (path ∷ []) script_word section refl refl (ap plain (script_back before path is refl refl)))

application_makes : (draft : Draft) (app : Option Application) (send_proxy : Option ℕ) → draft.section ≡ sections.Listen → IfSome app IsApplication → is_manner app send_proxy ≡ true
    → Makes (application_text app) (record draft { application = asked app }) (record draft { application = application_lines app }) (count_application app)
unfolding application_text is_manner
application_makes draft None send_proxy section is h = made_by_none (record draft { application = no_application })
application_makes draft (Some app) send_proxy section is h =
    let one = both_right (is_none send_proxy) (not (is_some app.index && is_some app.script)) h in
    let root = line_text (codes "fcgi-docroot" ∷ app.root ∷ []) in
    let index = path_line (codes "fcgi-index") app.index in
    let script = path_line (codes "fcgi-script") app.script in
    let a = filed draft None None None in
    let b = filed draft (Some app.root) None None in
    let c = filed draft (Some app.root) app.index None in
    let d = filed draft (Some app.root) app.index app.script in
    let count : 1 + count_path app.index + count_path app.script ≡ 1 + (count_path app.index + count_path app.script) = omega arith in
    made_by_count (root ++ index ++ script) a d (1 + count_path app.index + count_path app.script) (1 + (count_path app.index + count_path app.script)) count
    (made_by_both (root ++ index) script a c d (1 + count_path app.index) (count_path app.script)
    (made_by_both root index a b c 1 (count_path app.index) (root_makes draft app.root section is.root) (index_makes draft (Some app.root) app.index section is.index))
    (script_makes draft (Some app.root) app.index app.script section is.script one))

-- ---- all of them

fresh_is : (draft : Draft) → IsFresh draft → fresh draft ≡ draft
fresh_is draft is =
    ap (λ (a : ApplicationLines). record draft { listen = listens.Missing; bind = None; server = None; application = a }) (sym is.application)
    ∙ ap (λ (a : Option Address). record draft { listen = listens.Missing; bind = None; server = a }) (sym is.server)
    ∙ ap (λ (a : Option Address). record draft { listen = listens.Missing; bind = a }) (sym is.bind)
    ∙ ap (λ (l : Listen). record draft { listen = l }) (sym is.listen)

settings_make : (draft : Draft) (config : Config) → IsValid config → are_spelled_settings config ≡ true → Makes (settings_text config) (fresh draft) (with_settings draft config) (10 + count_application config.application)
unfolding settings_text are_spelled_settings
settings_make draft config valid h =
    let of_hosts : Bool = is_spelled_host config.bind.host && is_spelled_host config.server.host in
    let of_rest : Bool = are_times config.timeouts && is_manner config.application config.send_proxy in
    let hosts = both_left of_hosts of_rest h in
    let rest = both_right of_hosts of_rest h in
    let times = both_left (are_times config.timeouts) (is_manner config.application config.send_proxy) rest in
    let manner = both_right (are_times config.timeouts) (is_manner config.application config.send_proxy) rest in
    let front = codes "\nlisten proxy\n" in
    let mode = line_text (codes "mode" ∷ codes "http" ∷ []) in
    let a = fresh draft in
    let b = begun draft in
    let c = bound draft config in
    let d = served draft config in
    let e = record (served draft config) { timeouts = config.timeouts } in
    let last = with_settings draft config in
    made_by_both (front ++ mode ++ bind_line config ++ server_line config ++ times_text config.timeouts) (application_text config.application) a e last 10 (count_application config.application)
    (made_by_both (front ++ mode ++ bind_line config ++ server_line config) (times_text config.timeouts) a d e 5 5
    (made_by_both (front ++ mode ++ bind_line config) (server_line config) a c d 4 1
    (made_by_both (front ++ mode) (bind_line config) a b c 3 1
    (made_by_both front mode a b b 2 1 (listen_begins draft) (mode_makes b refl))
    (bind_makes draft config valid (both_left (is_spelled_host config.bind.host) (is_spelled_host config.server.host) hosts)))
    (server_makes draft config valid (both_right (is_spelled_host config.bind.host) (is_spelled_host config.server.host) hosts) manner))
    (times_make d config.timeouts refl times))
    (application_makes e config.application config.send_proxy refl valid.application manner)

pub settings_back : (draft : Draft) (config : Config) → IsValid config → are_spelled_settings config ≡ true → IsFresh draft
    → Makes (settings_text config) draft (with_settings draft config) (10 + count_application config.application)
settings_back draft config valid h is =
    subst (λ (d : Draft). Makes (settings_text config) d (with_settings draft config) (10 + count_application config.application)) (fresh_is draft is) (settings_make draft config valid h)
