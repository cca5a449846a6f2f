-- Start lines that rules make (RFC 9112 sections 3 and 4), and the parts of a target.
use Rattle.std.specs.Prelude.{ℕ, List, [], ◌∷◌, ◌++◌, Bool, true, false, not, ◌&&◌, ◌||◌, ◌==◌, length, nat_lt, codes, decimal, Option, Some, None, if◌then◌else◌, Result, Ok, Err}
use Rattle.std.specs.List.{list_all}
use Rattle.std.specs.Str.{bytes_eq}
use Rattle.http_model.specs.declared.Why.{Why}
use Rattle.http_model.specs.declared.Why.TheVariants.{Bytes}
use Rattle.http_model.specs.Head.{Head, StartLine, RequestLine, StatusLine}
use Rattle.http_model.specs.Refusal.{reason_of}
use Rattle.px_bytes.specs.Tokens.{is_token}
use Rattle.uri_parts.specs.Target.{TargetParts, target_parts}
use Rattle.uri_parts.specs.Cut.{origin_text, query_text}
use Rattle.http_rules.specs.declared.action.part.TargetPart.{TargetPart}
use Rattle.http_rules.specs.declared.action.part.TargetPart.TheVariants.{Path, Pathq, Uri}
use Rattle.http_rules.specs.Action.Given.{Env}
use Rattle.http_rules.specs.Action.Edits.{edited, are_value_bytes}

-- the head with another start line
abbrev pub with_line : Head → StartLine → Head
with_line head line = record { line = line; fields = head.fields }

-- ---- targets

-- what stands in front of the path: a scheme, `://` and an authority, or nothing
abbrev pub origin_of : List ℕ → List ℕ
origin_of target = origin_text (target_parts target).scheme (target_parts target).authority

-- the query with its `?`, or nothing
abbrev pub query_of : List ℕ → List ℕ
query_of target = query_text (target_parts target).query

-- the path, which may be empty
abbrev pub path_of : List ℕ → List ℕ
path_of target = (target_parts target).path

-- path and query
abbrev pub pathq_of : List ℕ → List ℕ
pathq_of target = path_of target ++ query_of target

-- a part of a target
abbrev pub part_of : TargetPart → List ℕ → List ℕ
part_of Path target = path_of target
part_of Pathq target = pathq_of target
part_of Uri target = target

-- what stands in front of it
abbrev pub front_of : TargetPart → List ℕ → List ℕ
front_of Path target = origin_of target
front_of Pathq target = origin_of target
front_of Uri target = []

-- what stands behind it
abbrev pub back_of : TargetPart → List ℕ → List ℕ
back_of Path target = query_of target
back_of Pathq target = []
back_of Uri target = []

-- the target with another text in the place of a part
abbrev pub with_part : TargetPart → (target text : List ℕ) → List ℕ
with_part part target text = front_of part target ++ (text ++ back_of part target)

-- another query where there is one, or none: a `?` that is there stays, and no text makes none
abbrev pub queried : Option (List ℕ) → (text : List ℕ) → List ℕ
queried None [] = []
queried None (b ∷ text) = 63 ∷ b ∷ text
queried (Some query) text = 63 ∷ text

-- the `?` in front of a text, where a query, with its own `?`, stood there before
abbrev pub mark_by : (query text : List ℕ) → List ℕ
mark_by [] [] = []
mark_by [] (b ∷ text) = 63 ∷ []
mark_by (b ∷ query) text = 63 ∷ []

-- the target with another query
abbrev pub with_query : (target text : List ℕ) → List ℕ
with_query target text = origin_of target ++ (path_of target ++ queried (target_parts target).query text)

-- a byte of a target: no control byte, no blank
abbrev pub is_target_byte : ℕ → Bool
is_target_byte b = nat_lt 32 b && not (b == 127)

-- each byte of the text is one
abbrev pub are_target_bytes : List ℕ → Bool
are_target_bytes text = list_all is_target_byte text

-- a target that may be sent: not empty, without another byte
abbrev pub is_target : List ℕ → Bool
is_target target = nat_lt 0 (length target) && are_target_bytes target

-- the edit of a target, where it may be sent
abbrev pub sent_to : (size : ℕ) → Env → (method target version : List ℕ) → Result Env Why
sent_to size env method target version =
    if is_target target then edited size env (with_line env.head (RequestLine method target version)) else Err Bytes

-- what is made of a request line; nothing is made of an answer's
abbrev pub made_of : StartLine → Env → ((method target version : List ℕ) → Result Env Why) → Result Env Why
made_of (RequestLine method target version) env make = make method target version
made_of (StatusLine version status reason) env make = Ok env

abbrev pub on_request : Env → ((method target version : List ℕ) → Result Env Why) → Result Env Why
on_request env make = made_of env.head.line env make

-- another target, made of the one so far
abbrev pub retargeted : (size : ℕ) → Env → (List ℕ → List ℕ) → Result Env Why
retargeted size env make = on_request env (λ method target version. sent_to size env method (make target) version)

-- ---- methods

-- the method is HEAD, to which no body is sent
abbrev pub is_head : List ℕ → Bool
is_head method = bytes_eq method (codes "HEAD")

-- both are so, or neither is
abbrev pub agree : Bool → Bool → Bool
agree true b = b
agree false b = not b

-- A method that may take the place of another: a token other than CONNECT, and HEAD only for HEAD.
abbrev pub may_become : (old new : List ℕ) → Bool
may_become old new = is_token new && (not (bytes_eq new (codes "CONNECT")) && agree (is_head old) (is_head new))

-- the edit of a method, where it may take the other's place
abbrev pub sent_by : (size : ℕ) → Env → (method text target version : List ℕ) → Result Env Why
sent_by size env method text target version =
    if may_become method text then edited size env (with_line env.head (RequestLine text target version)) else Err Bytes

-- another method
abbrev pub remethoded : (size : ℕ) → Env → (text : List ℕ) → Result Env Why
remethoded size env text =
    on_request env (λ method target version. sent_by size env method text target version)

-- ---- statuses

-- a status with which no body is sent
abbrev pub is_bodiless_text : List ℕ → Bool
is_bodiless_text status = bytes_eq status (codes "204") || bytes_eq status (codes "304")

-- the reason that is given, or the table's
abbrev pub reason_by : (code : ℕ) → Option (List ℕ) → List ℕ
reason_by code None = reason_of code
reason_by code (Some reason) = reason

-- what is made of a status line; nothing is made of a request's
abbrev pub made_of_status : StartLine → Env → ((version status reason : List ℕ) → Result Env Why) → Result Env Why
made_of_status (RequestLine method target version) env make = Ok env
made_of_status (StatusLine version status reason) env make = make version status reason

-- a status and a reason in the place of others; the status of an answer without a body stays
abbrev pub stated : (size : ℕ) → Env → (code : ℕ) → (reason version status : List ℕ) → Result Env Why
stated size env code reason version status =
    if not (is_bodiless_text status) && are_value_bytes reason
    then edited size env (with_line env.head (StatusLine version (decimal code) reason)) else Err Bytes

-- another status and reason
abbrev pub restated : (size : ℕ) → Env → (code : ℕ) → (reason : List ℕ) → Result Env Why
restated size env code reason = made_of_status env.head.line env (λ version status old. stated size env code reason version status)
