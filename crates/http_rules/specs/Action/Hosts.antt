-- Target and Host that name one authority (RFC 9112 section 3.2.2).
use Rattle.std.specs.Prelude.{ℕ, List, ◌∷◌, Bool, true, not, ◌||◌, codes, Option, Some, None, if◌then◌else◌, Result, Ok, Err}
use Rattle.std.specs.List.{list_all}
use Rattle.http_model.specs.declared.Why.{Why}
use Rattle.http_model.specs.declared.Why.TheVariants.{Bytes}
use Rattle.http_model.specs.Block.{Block, Header}
use Rattle.http_model.specs.Fields.{is_named, set_field}
use Rattle.http_model.specs.Head.{Field, StartLine, RequestLine, StatusLine}
use Rattle.px_bytes.specs.Blanks.{trimmed}
use Rattle.uri_parts.specs.Same.{host_agrees}
use Rattle.http_rules.specs.declared.action.part.TargetPart.TheVariants.{Uri}
use Rattle.http_rules.specs.Action.Given.{Env}
use Rattle.http_rules.specs.Action.Edits.{by_value}
use Rattle.http_rules.specs.Action.Lines.{on_request, sent_to, with_part}

-- the field is not named Host, or names the authority of the target where the target has one
abbrev pub stands_beside : (target : List ℕ) → Field → Bool
stands_beside target field = not (is_named (codes "host") field) || host_agrees target field.1

-- each field may stand beside the target
abbrev pub hosts_agree : (target : List ℕ) → List Field → Bool
hosts_agree target fields = list_all (stands_beside target) fields

-- the field may stand behind this start line; of an answer nothing is asked
abbrev pub stands_behind : StartLine → Field → Bool
stands_behind (RequestLine method target version) field = stands_beside target field
stands_behind (StatusLine version status reason) field = true

-- one field in place of all of its name, where it may stand behind the start line
abbrev pub reset : (size : ℕ) → Env → (name text : List ℕ) → Result Env Why
reset size env name text =
    if stands_behind env.head.line (name, trimmed text) then by_value size env text (λ value. set_field name value env.head)
    else Err Bytes

-- a text in the place of the target, where each Host field may stand beside it
abbrev pub reuri : (size : ℕ) → Env → (text : List ℕ) → Result Env Why
reuri size env text =
    on_request env (λ method target version.
    if hosts_agree text env.head.fields then sent_to size env method (with_part Uri target text) version else Err Bytes)

-- ---- in an array

-- the block is no header named Host, or names the authority of the target
abbrev pub is_beside : (target : List ℕ) → Block → Bool
is_beside target (Header name value) = stands_beside target (name, value)
is_beside target block = true

-- each block may stand beside the target
abbrev pub blocks_agree : (target : List ℕ) → List Block → Bool
blocks_agree target blocks = list_all (is_beside target) blocks

-- the field may stand behind a request line of these parts, where there is one
abbrev pub is_behind : Option (List ℕ × List ℕ × List ℕ) → Field → Bool
is_behind None field = true
is_behind (Some parts) field = stands_beside parts.1 field
