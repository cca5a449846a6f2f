-- Words of settings, and what their lines make.
use Rattle.std.proofs.Common.{◌≡◌, ℕ, ◌≤◌, inl, inr, Bool, true, false, cond, List, [], ◌∷◌, ◌++◌, length, take, refl, sym, ap, ◌∙◌, subst, arith}
use Rattle.std.proofs.lemmas.Bool.{false≢true, le-leb}
use Rattle.std.specs.Prelude.{◌==◌, ◌&&◌, ◌||◌, not, nat_le, Option, Some, None, is_some, IfSome, Result, Ok, Err, codes}
use Rattle.std.specs.Fmt.{decimal}
use Rattle.std.specs.Str.{bytes_eq}
use Rattle.http_model.specs.Sizes.{least_size, most_size}
use Rattle.px_link.specs.declared.address.Address.{Address}
use Rattle.fcgi_model.specs.Application.{Application}
use Rattle.http_rules.specs.Valid.{HasPort, HasHost, IsVersion, IsPath, IsScript}
use Rattle.cfg_expr.specs.Reading.{plain}
use Rattle.cfg_parse.specs.declared.fault.CfgKind.{CfgKind}
use Rattle.cfg_parse.specs.declared.fault.CfgKind.TheVariants.{Argument, Keyword, Section}
use Rattle.cfg_parse.specs.declared.keywords.FirstWord.{FirstWord}
use Rattle.cfg_parse.specs.declared.keywords.FirstWord.TheVariants.{Sets}
use Rattle.cfg_parse.specs.declared.keywords.Setting.{Setting}
use Rattle.cfg_parse.specs.declared.keywords.Setting.TheVariants.{Bufsize, Maxrewrite, Mode, Timeout, Bind, Server, Filter, Docroot, Index, Script}
use Rattle.cfg_parse.specs.declared.keywords.Places.{Places}
use Rattle.cfg_parse.specs.declared.keywords.Places.TheVariants.{InGlobal, InBoth, InListen}
use Rattle.cfg_parse.specs.declared.keywords.TimeoutName.{TimeoutName}
use Rattle.cfg_parse.specs.declared.draft.Draft.{Draft}
use Rattle.cfg_parse.specs.declared.draft.Section.{Section as Sections}
use Rattle.cfg_parse.specs.declared.draft.Section.TheVariants as sections
use Rattle.cfg_parse.specs.Reading.{◌>>=◌}
use Rattle.cfg_parse.specs.Keywords.{section_word, general_setting, listen_setting, application_setting, first_word_of, header_version, timeout_of}
use Rattle.cfg_parse.specs.Numbers.{most_time, time_of}
use Rattle.cfg_parse.specs.Addresses.{address_of, server_address_of}
use Rattle.cfg_parse.specs.Draft.{is_before, belongs, is_listen, has_listen}
use Rattle.cfg_parse.specs.Settings.{bufsize_line, maxrewrite_line, mode_line, with_time, has_effect, named, timeout_line, bind_options, bind_line, Manner, protocol, server_options, server_line}
use Rattle.cfg_parse.specs.Applications.{path_of, last_path, docroot_line, index_line, begins_with_slash, script_of, script_line}
use Rattle.cfg_parse.specs.Lines.{setting_line, known_line, line_by, words_line}
use Rattle.cfg_print.specs.Printed.{address_text, accept_words, header_words, manner_words}
use Rattle.cfg_laws.specs.SpelledSettings.{is_spelled_host, is_manner}
use Rattle.cfg_laws.proofs.LawLemmas.Words.{both_left}
use Rattle.cfg_laws.proofs.LawLemmas.Sizes.{number_back, size_back, time_back}
use Rattle.cfg_laws.proofs.LawLemmas.Addresses.{address_back, server_address_back}

-- ---- lines by their first words

in_section : (draft : Draft) (section : Sections) (setting : Setting) (places : Places) (arguments : List (List ℕ)) → draft.section ≡ section → is_before section ≡ false → belongs places section ≡ true
    → known_line draft setting places arguments ≡ setting_line draft setting arguments
unfolding known_line
in_section draft section setting places arguments is begun knows =
    ap (λ (s : Sections). cond (is_before s) (plain (Err Section)) (cond (not (belongs places s)) (plain (Err Keyword)) (setting_line draft setting arguments))) is
    ∙ ap (λ t. cond t (plain (Err Section)) (cond (not (belongs places section)) (plain (Err Keyword)) (setting_line draft setting arguments))) begun
    ∙ ap (λ t. cond (not t) (plain (Err Keyword)) (setting_line draft setting arguments)) knows

-- what a line of a section makes
pub line_makes : (draft next : Draft) (section : Sections) (first : List ℕ) (setting : Setting) (places : Places) (arguments : List (List ℕ)) → first_word_of first ≡ Sets setting places
    → draft.section ≡ section → is_before section ≡ false → belongs places section ≡ true → setting_line draft setting arguments ≡ plain (Ok next) → words_line draft (first ∷ arguments) ≡ plain (Ok next)
unfolding words_line
line_makes draft next section first setting places arguments word is begun knows makes =
    ap (λ (w : FirstWord). line_by draft w arguments) word ∙ in_section draft section setting places arguments is begun knows ∙ makes

pub bufsize_word : first_word_of (codes "tune.bufsize") ≡ Sets Bufsize InGlobal
unfolding section_word general_setting
bufsize_word = refl

pub maxrewrite_word : first_word_of (codes "tune.maxrewrite") ≡ Sets Maxrewrite InGlobal
unfolding section_word general_setting
maxrewrite_word = refl

pub mode_word : first_word_of (codes "mode") ≡ Sets Mode InBoth
unfolding section_word general_setting
mode_word = refl

pub timeout_word : first_word_of (codes "timeout") ≡ Sets Timeout InBoth
unfolding section_word general_setting
timeout_word = refl

pub bind_word : first_word_of (codes "bind") ≡ Sets Bind InListen
unfolding section_word general_setting listen_setting
bind_word = refl

pub server_word : first_word_of (codes "server") ≡ Sets Server InListen
unfolding section_word general_setting listen_setting
server_word = refl

pub filter_word : first_word_of (codes "filter") ≡ Sets Filter InListen
unfolding section_word general_setting listen_setting
filter_word = refl

pub docroot_word : first_word_of (codes "fcgi-docroot") ≡ Sets Docroot InListen
unfolding section_word general_setting listen_setting application_setting
docroot_word = refl

pub index_word : first_word_of (codes "fcgi-index") ≡ Sets Index InListen
unfolding section_word general_setting listen_setting application_setting
index_word = refl

pub script_word : first_word_of (codes "fcgi-script") ≡ Sets Script InListen
unfolding section_word general_setting listen_setting application_setting
script_word = refl

-- ---- sizes

pub bufsize_back : (draft : Draft) (n : ℕ) → least_size ≤ n → n ≤ most_size → bufsize_line draft (decimal n ∷ []) ≡ Ok (record draft { bufsize = Some n })
unfolding bufsize_line
bufsize_back draft n low high =
    ap (λ (read : Result ℕ CfgKind). read >>= λ size. Ok (record draft { bufsize = Some size })) (size_back least_size most_size n low high (omega arith))

pub maxrewrite_back : (draft : Draft) (n : ℕ) → n ≤ most_size → maxrewrite_line draft (decimal n ∷ []) ≡ Ok (record draft { maxrewrite = Some n })
unfolding maxrewrite_line
maxrewrite_back draft n high =
    ap (λ (read : Result ℕ CfgKind). read >>= λ size. Ok (record draft { maxrewrite = Some size })) (number_back most_size n high (omega arith))

-- ---- times

pub mode_back : (draft : Draft) → mode_line draft (codes "http" ∷ []) ≡ Ok draft
unfolding mode_line
mode_back draft = refl

-- with one more time told
abbrev pub timed : Draft → TimeoutName → ℕ → Draft
timed draft name time = record draft { timeouts = with_time draft.timeouts name time }

pub timeout_back : (draft : Draft) (word : List ℕ) (name : TimeoutName) (time : ℕ) → timeout_of word ≡ Some name → draft.section ≡ sections.Listen → time ≤ most_time
    → timeout_line draft (word ∷ (decimal time ++ codes "ms") ∷ []) ≡ Ok (timed draft name time)
unfolding timeout_line
timeout_back draft word name time is section short =
    let text = decimal time ++ codes "ms" in
    ap (λ (read : Option TimeoutName). named read >>= λ n. time_of text >>= λ t. Ok (record draft { timeouts = cond (has_effect draft) (with_time draft.timeouts n t) draft.timeouts })) is
    ∙ ap (λ (read : Result ℕ CfgKind). read >>= λ t. Ok (record draft { timeouts = cond (has_effect draft) (with_time draft.timeouts name t) draft.timeouts })) (time_back time short)
    ∙ ap (λ (s : Sections). Ok (record draft { timeouts = cond (is_listen s || not (has_listen draft.listen)) (with_time draft.timeouts name time) draft.timeouts })) section

-- ---- addresses

accept_back : (accept : Bool) → bind_options (accept_words accept) ≡ Ok accept
unfolding bind_options
accept_back true = refl
accept_back false = refl

pub bind_back : (draft : Draft) (address : Address) (accept : Bool) → HasPort address → is_spelled_host address.host ≡ true → draft.bind ≡ None
    → bind_line draft (address_text address ∷ accept_words accept) ≡ Ok (record draft { bind = Some address; accept_proxy = accept })
unfolding bind_line
bind_back draft address accept has spelled none =
    let words = accept_words accept in
    ap (λ (before : Option Address). cond (is_some before) (Err Argument) (address_of (address_text address) >>= λ a. bind_options words >>= λ b. Ok (record draft { bind = Some a; accept_proxy = b }))) none
    ∙ ap (λ (read : Result Address CfgKind). read >>= λ a. bind_options words >>= λ b. Ok (record draft { bind = Some a; accept_proxy = b })) (address_back address has spelled)
    ∙ ap (λ (read : Result Bool CfgKind). read >>= λ b. Ok (record draft { bind = Some address; accept_proxy = b })) (accept_back accept)

header_back : (version : ℕ) → IsVersion version → server_options (header_words (Some version)) ≡ Ok (Some version, false)
unfolding server_options header_version
header_back version (inl e) = subst (λ n. server_options (header_words (Some n)) ≡ Ok (Some n, false)) (sym e) refl
header_back version (inr e) = subst (λ n. server_options (header_words (Some n)) ≡ Ok (Some n, false)) (sym e) refl

manner_back : (app : Option Application) (send_proxy : Option ℕ) → is_manner app send_proxy ≡ true → IfSome send_proxy IsVersion → server_options (manner_words app send_proxy) ≡ Ok (send_proxy, is_some app)
unfolding is_manner server_options protocol
manner_back None None h good = refl
manner_back None (Some version) h good = header_back version good
manner_back (Some app) None h good = refl
manner_back (Some app) (Some version) h good = absurd (false≢true h)

pub server_back : (draft : Draft) (address : Address) (app : Option Application) (send_proxy : Option ℕ) → HasPort address → HasHost address → is_spelled_host address.host ≡ true
    → is_manner app send_proxy ≡ true → IfSome send_proxy IsVersion → draft.server ≡ None
    → server_line draft (codes "app" ∷ address_text address ∷ manner_words app send_proxy)
    ≡ Ok (record draft { server = Some address; send_proxy = send_proxy; application = record draft.application { is_asked = is_some app } })
unfolding server_line
server_back draft address app send_proxy has host spelled manner good none =
    let words = manner_words app send_proxy in
    let made : Address → Manner → Draft = λ a m. record draft { server = Some a; send_proxy = m.0; application = record draft.application { is_asked = m.1 } } in
    ap (λ (before : Option Address). cond (is_some before) (Err Argument) (server_address_of (address_text address) >>= λ a. server_options words >>= λ m. Ok (made a m))) none
    ∙ ap (λ (read : Result Address CfgKind). read >>= λ a. server_options words >>= λ m. Ok (made a m)) (server_address_back address has host spelled)
    ∙ ap (λ (read : Result Manner CfgKind). read >>= λ m. Ok (made address m)) (manner_back app send_proxy manner good)

-- ---- paths

a_path : (some short : Bool) (path : List ℕ) → some ≡ true → short ≡ true → cond (some && short) (Ok path) (Err Argument) ≡ Ok path
a_path some short path x y = cc

path_back : (path : List ℕ) → IsPath path → last_path (path ∷ []) ≡ Ok path
unfolding last_path path_of
path_back path is =
    ap (λ (read : Result (List ℕ) CfgKind). read >>= λ p. Ok p) (a_path (nat_le 1 (length path)) (nat_le (length path) 255) path (le-leb 1 (length path) is.some) (le-leb (length path) 255 is.short))

pub root_back : (draft : Draft) (path : List ℕ) → IsPath path → draft.application.root ≡ None
    → docroot_line draft (path ∷ []) ≡ Ok (record draft { application = record draft.application { root = Some path } })
unfolding docroot_line
root_back draft path is none =
    ap (λ (before : Option (List ℕ)). cond (is_some before) (Err Argument) (last_path (path ∷ []) >>= λ p. Ok (record draft { application = record draft.application { root = Some p } }))) none
    ∙ ap (λ (read : Result (List ℕ) CfgKind). read >>= λ p. Ok (record draft { application = record draft.application { root = Some p } })) (path_back path is)

no_file : (draft : Draft) → draft.application.index ≡ None → draft.application.script ≡ None → (is_some draft.application.index || is_some draft.application.script) ≡ false
no_file draft index script = ap (λ (o : Option (List ℕ)). is_some o || is_some draft.application.script) index ∙ ap is_some script

pub index_back : (draft : Draft) (path : List ℕ) → IsPath path → draft.application.index ≡ None → draft.application.script ≡ None
    → index_line draft (path ∷ []) ≡ Ok (record draft { application = record draft.application { index = Some path } })
unfolding index_line
index_back draft path is index script =
    ap (λ t. cond t (Err Argument) (last_path (path ∷ []) >>= λ p. Ok (record draft { application = record draft.application { index = Some p } }))) (no_file draft index script)
    ∙ ap (λ (read : Result (List ℕ) CfgKind). read >>= λ p. Ok (record draft { application = record draft.application { index = Some p } })) (path_back path is)

slash_front : (path : List ℕ) → bytes_eq (take 1 path) (codes "/") ≡ true → begins_with_slash path ≡ true
slash_front [] h = absurd (false≢true h)
slash_front (b ∷ path) h = both_left (b == 47) true h

script_of_back : (path : List ℕ) → IsScript path → script_of (path ∷ []) ≡ Ok path
unfolding script_of
script_of_back path is =
    ap (λ (read : Result (List ℕ) CfgKind). read >>= λ p. cond (begins_with_slash p) (Ok p) (Err Argument)) (path_back path is.file)
    ∙ ap (λ t. cond t (Ok path) (Err Argument)) (slash_front path is.slash)

pub script_back : (draft : Draft) (path : List ℕ) → IsScript path → draft.application.index ≡ None → draft.application.script ≡ None
    → script_line draft (path ∷ []) ≡ Ok (record draft { application = record draft.application { script = Some path } })
unfolding script_line
script_back draft path is index script =
    ap (λ t. cond t (Err Argument) (script_of (path ∷ []) >>= λ p. Ok (record draft { application = record draft.application { script = Some p } }))) (no_file draft index script)
    ∙ ap (λ (read : Result (List ℕ) CfgKind). read >>= λ p. Ok (record draft { application = record draft.application { script = Some p } })) (script_of_back path is)
