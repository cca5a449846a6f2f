-- The configuration of a text.
use Rattle.std.specs.Prelude.{◌≡◌, ℕ, ◌+◌, ◌-◌, ◌/◌, min, List, [], ◌∷◌, ◌++◌, map, length, Bool, true, false, ◌&&◌, ◌||◌, nat_lt, if◌then◌else◌, Option, Some, None, is_some, unwrap_or, IsSomeAnd, slice_get, Result, Ok, Err}
use Rattle.std.specs.List.{list_any}
use Rattle.std.specs.Str.Lines.{lines}
use Rattle.http_model.specs.Sizes.{least_head}
use Rattle.http_model.specs.declared.Limits.{Limits}
use Rattle.px_link.specs.declared.address.Address.{Address}
use Rattle.fcgi_model.specs.Application.{Application, param_field}
use Rattle.px_pattern.specs.Pattern.{Pattern}
use Rattle.px_pattern.specs.Refusals.{Kept, Rose}
use Rattle.http_rules.specs.declared.config.Config.{Config}
use Rattle.http_rules.specs.declared.rule.action.Action.{Action}
use Rattle.http_rules.specs.declared.rule.action.Action.TheVariants.{DelHeader}
use Rattle.http_rules.specs.declared.rule.action.Action.TheVariants as actions
use Rattle.http_rules.specs.declared.rule.action.DelBy.TheVariants.{Str}
use Rattle.http_rules.specs.declared.rule.rule.Rule.{Rule}
use Rattle.cfg_parse.specs.declared.fault.CfgKind.{CfgKind}
use Rattle.cfg_parse.specs.declared.fault.CfgKind.TheVariants.{Argument, Limit, Missing}
use Rattle.cfg_parse.specs.declared.fault.CfgKind.TheVariants as kinds
use Rattle.cfg_parse.specs.declared.fault.CfgFault.{CfgFault}
use Rattle.cfg_parse.specs.declared.fault.CfgFault.TheVariants as faults
use Rattle.cfg_parse.specs.declared.fault.LineRefusal.{LineRefusal}
use Rattle.cfg_parse.specs.declared.fault.LineRefusal.TheVariants as refusals
use Rattle.cfg_parse.specs.declared.draft.ApplicationLines.{ApplicationLines}
use Rattle.cfg_parse.specs.declared.draft.Draft.{Draft}
use Rattle.cfg_parse.specs.Draft.{start, has_listen}
use Rattle.cfg_parse.specs.Asking.{LineReading}
use Rattle.cfg_parse.specs.Reading.{◌>>=◌}
use Rattle.cfg_parse.specs.Limits.{default_bufsize, default_maxrewrite, most_rules, most_text}
use Rattle.cfg_parse.specs.Lines.{line_of}

-- a line, counted from 1, or 0 for the text as a whole, and what is wrong there
abbrev pub Refusal : Type 0
Refusal = ℕ × CfgKind

-- ---- after all lines

-- the size of the buffer
abbrev pub bufsize_of : Draft → ℕ
bufsize_of draft = unwrap_or draft.bufsize default_bufsize

-- what a received head leaves free; where no line gives it, at most half of the buffer
abbrev pub maxrewrite_of : Draft → ℕ
maxrewrite_of draft = unwrap_or draft.maxrewrite (min default_maxrewrite (bufsize_of draft / 2))

abbrev pub limits_of : Draft → Limits
limits_of draft = record { bufsize = bufsize_of draft; maxrewrite = maxrewrite_of draft }

-- rules with one more behind them, where there is one and room for it
abbrev pub with_last : List Rule → Option Rule → Result (List Rule) CfgKind
with_last rules None = Ok rules
with_last rules (Some rule) = if nat_lt (length rules) most_rules then Ok (rules ++ rule ∷ []) else Err Limit

-- the action ends the rules on a request, and lets it pass
unfoldable pub is_allow : Action → Bool
is_allow actions.Allow = true
is_allow action = false

abbrev pub ends_rules : Rule → Bool
ends_rules rule = is_allow rule.action

-- a rule would keep those of pairs from running, of which there are some
abbrev pub stops_pairs : Draft → Bool
stops_pairs draft = nat_lt 0 (length draft.application.params) && list_any ends_rules draft.request

-- the rule that takes away what a client sends as the field of a pair
abbrev pub param_removal : (name : List ℕ) → Rule
param_removal name = record { action = DelHeader (Str (param_field name)); cond = None }

-- the rules of pairs: no field of one is the client's, and then what the lines tell, in their order
abbrev pub pair_rules : (names : List (List ℕ)) → (sets : List Rule) → List Rule
pair_rules names sets = map param_removal names ++ sets

-- rules with those of pairs behind them, where there is room for all
abbrev pub with_pairs : List Rule → (names : List (List ℕ)) → (sets : List Rule) → Result (List Rule) CfgKind
with_pairs rules names sets = if nat_lt most_rules (length rules + (length names + length sets)) then Err Limit else Ok (rules ++ pair_rules names sets)

-- an application whose files lie below this root
abbrev pub application_below : ApplicationLines → Option (List ℕ) → Result (Option Application) CfgKind
application_below lines None = Err Missing
application_below lines (Some root) = Ok (Some (record { root = root; index = lines.index; script = lines.script; params = lines.params }))

-- a line says which file of an application is asked, or a pair
abbrev pub tells_more : ApplicationLines → Bool
tells_more lines = is_some lines.index || (is_some lines.script || nat_lt 0 (length lines.params))

-- How the server is asked, where it is an application: one has a root, and no other server has a file or a pair. A root alone says nothing.
unfoldable pub application_of : ApplicationLines → Result (Option Application) CfgKind
application_of lines =
    if lines.is_asked then application_below lines lines.root
    else (if tells_more lines then Err Missing else Ok None)

-- what the lines said, with these rules on requests, this application and these addresses; no peer is told
abbrev pub made_config : Draft → List Rule → Option Application → Address → Address → Config
made_config draft rules application bind server =
    record {
      limits = limits_of draft;
      timeouts = draft.timeouts;
      bind = bind;
      accept_proxy = draft.accept_proxy;
      server = server;
      send_proxy = draft.send_proxy;
      application = application;
      request = rules;
      response = draft.response;
      after = draft.after;
      req_filters = draft.req_filters;
      res_filters = draft.res_filters;
      peer = None;
    }

-- a configuration with these addresses, where all that it needs is there
abbrev pub with_addresses : Draft → List Rule → Option Application → Option Address → Option Address → Result Config CfgKind
with_addresses draft rules application (Some bind) (Some server) =
    if has_listen draft.listen then Ok (made_config draft rules application bind server) else Err Missing
with_addresses draft rules application (Some bind) None = Err Missing
with_addresses draft rules application None server = Err Missing

-- The configuration of all lines: sizes that do not suit each other come first, then a rule that would keep those of pairs from running, then the rule of
-- `option forwardfor` and those of pairs behind as many rules as there may be, then what is missing.
unfoldable pub whole : Draft → Result Config CfgKind
whole draft =
    if nat_lt (bufsize_of draft - least_head) (maxrewrite_of draft) then Err Limit
    else (if stops_pairs draft then Err Argument
    else (with_last draft.request draft.forwarding >>= λ rules.
    with_pairs rules draft.application.params draft.param_rules >>= λ all.
    application_of draft.application >>= λ application.
    with_addresses draft all application draft.bind draft.server))

-- ---- lines in turn

-- what lines come to, with the number of the line beside each pattern that they ask for
pub record Placed (A : Type 0) : Type 0 where
  pub asks : List (ℕ × Pattern)
  pub gives : Result A Refusal

-- what the lines behind a line ask for
abbrev pub later_asks : Result Draft CfgKind → (Draft → Placed Draft) → List (ℕ × Pattern)
later_asks (Ok draft) others = (others draft).asks
later_asks (Err kind) others = []

abbrev pub placed_asks : ℕ → LineReading Draft → (Draft → Placed Draft) → List (ℕ × Pattern)
placed_asks number line others = map (λ p. (number, p)) line.asks ++ later_asks line.gives others

-- what follows a line of this number; a refused line decides
abbrev pub placed_gives : ℕ → Result Draft CfgKind → (Draft → Placed Draft) → Result Draft Refusal
placed_gives number (Ok draft) others = (others draft).gives
placed_gives number (Err kind) others = Err (number, kind)

abbrev pub behind : ℕ → LineReading Draft → (Draft → Placed Draft) → Placed Draft
behind number line others = record { asks = placed_asks number line others; gives = placed_gives number line.gives others }

-- lines from left to right, the first with this number
unfoldable pub lines_from : ℕ → Draft → List (List ℕ) → Placed Draft
lines_from number draft [] = record { asks = []; gives = Ok draft }
lines_from number draft (line ∷ others) = behind number (line_of draft line) (λ next. lines_from (number + 1) next others)

-- a refusal of the text as a whole
abbrev pub of_text : Result Config CfgKind → Result Config Refusal
of_text (Ok config) = Ok config
of_text (Err kind) = Err (0, kind)

-- what all lines come to
abbrev pub after_lines : Result Draft Refusal → Result Config Refusal
after_lines (Ok draft) = of_text (whole draft)
after_lines (Err refusal) = Err refusal

abbrev pub of_lines : Placed Draft → Placed Config
of_lines lines = record { asks = lines.asks; gives = after_lines lines.gives }

-- What a text comes to where each of its patterns is built. A line ends with a line feed, and one carriage return in front of
-- that is dropped; a last line needs no line feed.
unfoldable pub read_whole : List ℕ → Placed Config
read_whole text =
    if nat_lt most_text (length text) then record { asks = []; gives = Err (0, Limit) }
    else of_lines (lines_from 1 start (lines text))

abbrev pub refused_at : Placed Config → Option (ℕ × Pattern) → Result Config Refusal
refused_at read None = read.gives
refused_at read (Some (number, p)) = Err (number, kinds.Pattern)

-- where the builder refuses the pattern of this number, counted from 0 in the order of the text, its line is refused
abbrev pub decided : Placed Config → Option ℕ → Result Config Refusal
decided read None = read.gives
decided read (Some number) = refused_at read (slice_get read.asks number)

-- The configuration of a text, or its first refused line with what is wrong there; r is none, or the number of the first
-- pattern, in the order of the text, that the builder refused.
unfoldable pub config_of : List ℕ → (r : Option ℕ) → Result Config Refusal
config_of text r = decided (read_whole text) r

-- the pattern of this number, and the line that it stands in
unfoldable pub pattern_at : List ℕ → ℕ → Option (ℕ × Pattern)
pattern_at text number = slice_get (read_whole text).asks number

-- ---- what code gives

-- what was returned is what the definition gives, unless memory ran out
abbrev pub Configures : Result Config CfgFault → Result Config Refusal → Type 0
Configures (Ok config) meaning = meaning ≡ Ok config
Configures (Err (faults.Refused line kind)) meaning = meaning ≡ Err (line, kind)
Configures (Err faults.OutOfMemory) meaning = Unit {0}

-- No build was refused in this call; or one was, and the last refused build is that pattern's.
abbrev pub Builds : List ℕ → Option ℕ → (before after : ℕ) → Kept → Type 0
Builds text None before after kept = after ≡ before
Builds text (Some number) before after kept =
    Rose before after × IsSomeAnd (pattern_at text number) (λ (line, p). kept ≡ Some (p.text, p.icase))

-- what a load answers, for one r
pub record Loads (text : List ℕ) (before after : ℕ) (kept : Kept) (result : Result Config CfgFault) : Type 0 where
  pub r : Option ℕ
  pub configures : Configures result (config_of text r)
  pub builds : Builds text r before after kept

-- what is told of a line's refusal
abbrev pub fault_at : ℕ → LineRefusal → CfgFault
fault_at line (refusals.Refused kind) = faults.Refused line kind
fault_at line refusals.Pattern = faults.Refused line kinds.Pattern
fault_at line refusals.OutOfMemory = faults.OutOfMemory
