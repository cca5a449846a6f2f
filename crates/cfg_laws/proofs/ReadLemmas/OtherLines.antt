-- What each line leaves of `acl` lines, rules and pairs can be said again: lines that tell of none of them.
use Rattle.std.proofs.Common.{ℕ, Bool, true, false, cond, List, Result}
use Rattle.std.specs.Prelude.{◌||◌, Option, None, is_some, IfSome, codes}
use Rattle.std.specs.Str.{bytes_eq}
use Rattle.http_model.specs.Sizes.{least_size, most_size}
use Rattle.body_filter.specs.declared.filter_spec.FilterSpec.{FilterSpec}
use Rattle.http_rules.specs.declared.rule.rule.Rule.{Rule}
use Rattle.cfg_expr.specs.declared.side.Side.{Side}
use Rattle.cfg_expr.specs.declared.side.Side.TheVariants.{Request, Response}
use Rattle.cfg_parse.specs.declared.fault.CfgKind.{CfgKind}
use Rattle.cfg_parse.specs.declared.fault.CfgKind.TheVariants.{Section, Argument}
use Rattle.cfg_parse.specs.declared.keywords.SectionWord.{SectionWord}
use Rattle.cfg_parse.specs.declared.keywords.SectionWord.TheVariants.{Global, Defaults, Listen, Other}
use Rattle.cfg_parse.specs.declared.draft.Draft.{Draft}
use Rattle.cfg_parse.specs.Reading.{argument, no_more}
use Rattle.cfg_parse.specs.Keywords.{timeout_of}
use Rattle.cfg_parse.specs.Draft.{has_listen}
use Rattle.cfg_parse.specs.Numbers.{number_up_to, size_of, time_of}
use Rattle.cfg_parse.specs.Addresses.{address_of, server_address_of}
use Rattle.cfg_parse.specs.Settings.{section_line, bufsize_line, maxrewrite_line, mode_line, named, timeout_line, bind_options, bind_line, server_options, server_line}
use Rattle.cfg_parse.specs.Applications.{last_path, docroot_line, index_line, script_of, script_line}
use Rattle.cfg_parse.specs.Filters.{with_filter, filter_line, filter_added, filter_setting}
use Rattle.cfg_laws.specs.Laws.ReadDrafts.{CanSayLast, CanSayRules}
use Rattle.cfg_laws.proofs.ReadLemmas.Steps.{GivesSo}
use Rattle.cfg_laws.proofs.ReadLemmas.SettingSteps.{so_step, so_unless, so_if}

-- what a line leaves
abbrev pub Kept : Result Draft CfgKind → Type 0
Kept told = GivesSo CanSayRules told

-- ---- sections

last_kept : (t : Bool) (last : Option Rule) → IfSome last CanSayLast → IfSome (cond t last None) CanSayLast
last_kept true last h = h
last_kept false last h = tt

pub section_keeps : (draft : Draft) (word : SectionWord) (arguments : List (List ℕ)) → CanSayRules draft → Kept (section_line draft word arguments)
unfolding section_line
section_keeps draft Global arguments c = so_step CanSayRules (no_more arguments) _ (λ ended is. record { lines = c.lines; lists = c.lists; pairs = c.pairs; last = c.last })
section_keeps draft Defaults arguments c =
    so_step CanSayRules (no_more arguments) _ (λ ended is. record { lines = c.lines; lists = c.lists; pairs = c.pairs; last = last_kept (has_listen draft.listen) draft.forwarding c.last })
section_keeps draft Listen arguments c =
    so_unless CanSayRules (has_listen draft.listen) Section _
    (λ first. so_step CanSayRules (argument arguments) _
    (λ name a. so_step CanSayRules (no_more name.1) _ (λ ended b. record { lines = c.lines; lists = c.lists; pairs = c.pairs; last = c.last })))
section_keeps draft Other arguments c = tt

-- ---- sizes, the mode and times

pub bufsize_keeps : (draft : Draft) (arguments : List (List ℕ)) → CanSayRules draft → Kept (bufsize_line draft arguments)
unfolding bufsize_line
bufsize_keeps draft arguments c =
    so_step CanSayRules (argument arguments) _
    (λ word a. so_step CanSayRules (size_of least_size most_size word.0) _
    (λ size b. so_step CanSayRules (no_more word.1) _ (λ ended d. record { lines = c.lines; lists = c.lists; pairs = c.pairs; last = c.last })))

pub maxrewrite_keeps : (draft : Draft) (arguments : List (List ℕ)) → CanSayRules draft → Kept (maxrewrite_line draft arguments)
unfolding maxrewrite_line
maxrewrite_keeps draft arguments c =
    so_step CanSayRules (argument arguments) _
    (λ word a. so_step CanSayRules (number_up_to most_size word.0) _
    (λ size b. so_step CanSayRules (no_more word.1) _ (λ ended d. record { lines = c.lines; lists = c.lists; pairs = c.pairs; last = c.last })))

pub mode_keeps : (draft : Draft) (arguments : List (List ℕ)) → CanSayRules draft → Kept (mode_line draft arguments)
unfolding mode_line
mode_keeps draft arguments c =
    so_step CanSayRules (argument arguments) _
    (λ word a. so_if CanSayRules (bytes_eq word.0 (codes "http")) Argument _
    (λ http. so_step CanSayRules (no_more word.1) _ (λ ended b. c)))

pub timeout_keeps : (draft : Draft) (arguments : List (List ℕ)) → CanSayRules draft → Kept (timeout_line draft arguments)
unfolding timeout_line
timeout_keeps draft arguments c =
    so_step CanSayRules (argument arguments) _
    (λ word a. so_step CanSayRules (named (timeout_of word.0)) _
    (λ name b. so_step CanSayRules (argument word.1) _
    (λ second d. so_step CanSayRules (time_of second.0) _
    (λ time e. so_step CanSayRules (no_more second.1) _ (λ ended f. record { lines = c.lines; lists = c.lists; pairs = c.pairs; last = c.last })))))

-- ---- addresses

pub bind_keeps : (draft : Draft) (arguments : List (List ℕ)) → CanSayRules draft → Kept (bind_line draft arguments)
unfolding bind_line
bind_keeps draft arguments c =
    so_unless CanSayRules (is_some draft.bind) Argument _
    (λ first. so_step CanSayRules (argument arguments) _
    (λ word a. so_step CanSayRules (address_of word.0) _
    (λ address b. so_step CanSayRules (bind_options word.1) _ (λ accepts d. record { lines = c.lines; lists = c.lists; pairs = c.pairs; last = c.last }))))

pub server_keeps : (draft : Draft) (arguments : List (List ℕ)) → CanSayRules draft → Kept (server_line draft arguments)
unfolding server_line
server_keeps draft arguments c =
    so_unless CanSayRules (is_some draft.server) Argument _
    (λ first. so_step CanSayRules (argument arguments) _
    (λ name a. so_step CanSayRules (argument name.1) _
    (λ word b. so_step CanSayRules (server_address_of word.0) _
    (λ address d. so_step CanSayRules (server_options word.1) _ (λ manner e. record { lines = c.lines; lists = c.lists; pairs = c.pairs; last = c.last })))))

-- ---- files of an application

pub docroot_keeps : (draft : Draft) (arguments : List (List ℕ)) → CanSayRules draft → Kept (docroot_line draft arguments)
unfolding docroot_line
docroot_keeps draft arguments c =
    so_unless CanSayRules (is_some draft.application.root) Argument _
    (λ first. so_step CanSayRules (last_path arguments) _ (λ root a. record { lines = c.lines; lists = c.lists; pairs = c.pairs; last = c.last }))

pub index_keeps : (draft : Draft) (arguments : List (List ℕ)) → CanSayRules draft → Kept (index_line draft arguments)
unfolding index_line
index_keeps draft arguments c =
    so_unless CanSayRules (is_some draft.application.index || is_some draft.application.script) Argument _
    (λ first. so_step CanSayRules (last_path arguments) _ (λ file a. record { lines = c.lines; lists = c.lists; pairs = c.pairs; last = c.last }))

pub script_keeps : (draft : Draft) (arguments : List (List ℕ)) → CanSayRules draft → Kept (script_line draft arguments)
unfolding script_line
script_keeps draft arguments c =
    so_unless CanSayRules (is_some draft.application.index || is_some draft.application.script) Argument _
    (λ first. so_step CanSayRules (script_of arguments) _ (λ file a. record { lines = c.lines; lists = c.lists; pairs = c.pairs; last = c.last }))

-- ---- filters

added_keeps : (draft : Draft) (side : Side) (filter : FilterSpec) → CanSayRules draft → Kept (filter_added draft side filter)
added_keeps draft Request filter c = so_step CanSayRules (with_filter draft.req_filters filter) _ (λ filters made. record { lines = c.lines; lists = c.lists; pairs = c.pairs; last = c.last })
added_keeps draft Response filter c = so_step CanSayRules (with_filter draft.res_filters filter) _ (λ filters made. record { lines = c.lines; lists = c.lists; pairs = c.pairs; last = c.last })

pub filter_keeps : (draft : Draft) (arguments : List (List ℕ)) → CanSayRules draft → Kept (filter_setting draft arguments)
unfolding filter_setting
filter_keeps draft arguments c = so_step CanSayRules (filter_line arguments) _ (λ taken is. added_keeps draft taken.0 taken.1 c)
