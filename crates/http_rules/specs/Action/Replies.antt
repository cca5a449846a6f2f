-- What `redirect` and `return` send, without the field that speaks of the connection.
use Rattle.std.specs.Prelude.{ℕ, List, [], ◌++◌, map, Bool, true, not, ◌&&◌, ◌||◌, ◌==◌, length, nat_le, nat_eq, codes, Option, Some, None, option_map, if◌then◌else◌, Result, Ok, Err}
use Rattle.std.specs.List.{list_all, ends_with}
use Rattle.std.specs.Str.{bytes_eq}
use Rattle.http_model.specs.declared.Why.{Why}
use Rattle.http_model.specs.declared.Why.TheVariants.{Room, Bytes}
use Rattle.http_model.specs.declared.Framing.{Framing}
use Rattle.http_model.specs.declared.Framing.TheVariants.{Absent, Length}
use Rattle.http_model.specs.Blocks.{load}
use Rattle.http_model.specs.Head.{Field, StartLine, RequestLine, StatusLine, Message, message_blocks, front_blocks}
use Rattle.http_model.specs.Refusal.{closing}
use Rattle.http_model.specs.Reply.{reply_head, with_fields, redirect_reply}
use Rattle.px_bytes.specs.Blanks.{trimmed}
use Rattle.uri_parts.specs.Target.{TargetParts, target_parts}
use Rattle.uri_parts.specs.Cut.{query_text}
use Rattle.http_fetch.specs.Fetches.{host_in}
use Rattle.log_format.specs.declared.fmt.Fmt.{Fmt}
use Rattle.http_rules.specs.Rule.Valid.{is_bodiless}
use Rattle.http_rules.specs.declared.rule.reply.RedirectTo.{RedirectTo}
use Rattle.http_rules.specs.declared.rule.reply.RedirectTo.TheVariants.{Location, Prefix, Scheme}
use Rattle.http_rules.specs.declared.rule.reply.Payload.{Payload}
use Rattle.http_rules.specs.declared.rule.reply.Payload.TheVariants as payloads
use Rattle.http_rules.specs.declared.rule.reply.Hdr.{Hdr}
use Rattle.http_rules.specs.Action.Given.{Env, text_on}
use Rattle.http_rules.specs.Action.Edits.{by_text, are_value_bytes}

-- a reply, where it fits with `connection: close` behind its fields
abbrev pub fitting : (size : ℕ) → Message → Result Message Why
fitting size m = if nat_le (load (message_blocks (closing m))) size then Ok m else Err Room

-- ---- redirects

-- the target of a request, and nothing of an answer
abbrev pub target_of : StartLine → List ℕ
target_of (RequestLine method target version) = target
target_of (StatusLine version status reason) = []

-- the path is `*`, which stands for the server as a whole
abbrev pub is_star : List ℕ → Bool
is_star path = bytes_eq path (codes "*")

-- the path that a client is led to: `/` where there is none
abbrev pub led_path : TargetParts → List ℕ
led_path parts = if length parts.path == 0 || is_star parts.path then codes "/" else parts.path

-- the query with its `?`
abbrev pub led_query : TargetParts → List ℕ
led_query parts = if is_star parts.path then [] else query_text parts.query

-- a prefix, and nothing where it is `/`
abbrev pub led_prefix : List ℕ → List ℕ
led_prefix text = if bytes_eq text (codes "/") then [] else text

-- A `/` behind the path, where it is asked for and the path does not end with one. A path is never empty here.
abbrev pub slash_behind : Bool → (path : List ℕ) → List ℕ
slash_behind asked path = if asked && not (ends_with nat_eq path (codes "/")) then codes "/" else []

-- what stands behind the path of a location: the query, or in its place a `/` where it is asked for
abbrev pub behind_prefixed : (drop_query append_slash : Bool) → TargetParts → List ℕ
behind_prefixed drop_query append_slash parts = if drop_query then slash_behind append_slash (led_path parts) else led_query parts

abbrev pub behind_schemed : (drop_query : Bool) → TargetParts → List ℕ
behind_schemed drop_query parts = if drop_query then [] else led_query parts

-- the location behind a prefix
abbrev pub prefixed : (drop_query append_slash : Bool) → (text : List ℕ) → TargetParts → List ℕ
prefixed drop_query append_slash text parts = led_prefix text ++ (led_path parts ++ behind_prefixed drop_query append_slash parts)

-- the location of the same host under a scheme
abbrev pub schemed : (drop_query : Bool) → (text host : List ℕ) → TargetParts → List ℕ
schemed drop_query text host parts = text ++ (codes "://" ++ (host ++ (led_path parts ++ behind_schemed drop_query parts)))

-- the location, by the text of the format, the first Host value and the parts of the target
abbrev pub location_by : RedirectTo → (drop_query append_slash : Bool) → (text host : List ℕ) → TargetParts → List ℕ
location_by (Location fmt) drop_query append_slash text host parts = text
location_by (Prefix fmt) drop_query append_slash text host parts = prefixed drop_query append_slash text parts
location_by (Scheme fmt) drop_query append_slash text host parts = schemed drop_query text host parts

-- the same on an environment
abbrev pub location_on : RedirectTo → (drop_query append_slash : Bool) → (text : List ℕ) → Env → List ℕ
location_on to drop_query append_slash text env =
    location_by to drop_query append_slash text (host_in (front_blocks env.head env.body)) (target_parts (target_of env.head.line))

-- the format of a location
abbrev pub format_of : RedirectTo → Fmt
format_of (Location fmt) = fmt
format_of (Prefix fmt) = fmt
format_of (Scheme fmt) = fmt

-- what a redirect makes of a location; it fails for its bytes before it fails for room
abbrev pub led_to : (size code : ℕ) → (location : List ℕ) → Result Message Why
led_to size code location = if are_value_bytes location then fitting size (redirect_reply code (trimmed location)) else Err Bytes

-- one step
unfoldable pub redirected : (size : ℕ) → RedirectTo → (code : ℕ) → (drop_query append_slash : Bool) → Env → Result Message Why
redirected size to code drop_query append_slash env =
    by_text size (text_on size env (format_of to)) (λ text. led_to size code (location_on to drop_query append_slash text env))

-- ---- replies

-- the bytes of a payload
abbrev pub payload_text : (size : ℕ) → Env → Option Payload → List ℕ
payload_text size env None = []
payload_text size env (Some (payloads.Literal text)) = text
payload_text size env (Some (payloads.Format fmt)) = text_on size env fmt

-- a text of a format is within the buffer
abbrev pub is_good_payload : (size : ℕ) → Env → Option Payload → Bool
is_good_payload size env None = true
is_good_payload size env (Some (payloads.Literal text)) = true
is_good_payload size env (Some (payloads.Format fmt)) = nat_le (length (text_on size env fmt)) size

-- the type that is written: none without a payload
abbrev pub type_by : Option Payload → Option (List ℕ) → Option (List ℕ)
type_by None content_type = None
type_by (Some payload) content_type = content_type

-- it may stand in a field value
abbrev pub is_good_type : Option (List ℕ) → Bool
is_good_type None = true
is_good_type (Some text) = are_value_bytes text

-- the text of a field is within the buffer and may stand in a field value
abbrev pub is_good_hdr : (size : ℕ) → Env → Hdr → Bool
is_good_hdr size env hdr = nat_le (length (text_on size env hdr.value)) size && are_value_bytes (text_on size env hdr.value)

abbrev pub hdr_field : (size : ℕ) → Env → Hdr → Field
hdr_field size env hdr = (hdr.name, trimmed (text_on size env hdr.value))

-- the length of the payload, but for a status with which no body is sent
abbrev pub length_by : (status len : ℕ) → Option ℕ
length_by status len = if is_bodiless status then None else Some len

abbrev pub framing_by : (status len : ℕ) → Framing
framing_by status len = if is_bodiless status then Absent else Length len

-- the reply, by its type, its payload and its fields
abbrev pub returning : (status : ℕ) → (content_type : Option (List ℕ)) → (body : List ℕ) → List Field → Message
returning status content_type body fields =
    record {
      head = with_fields fields (reply_head status (option_map trimmed content_type) (length_by status (length body)));
      framing = framing_by status (length body);
      body = body;
      trailers = [];
    }

-- each text of the reply is good
abbrev pub are_good_texts : (size : ℕ) → (content_type : Option (List ℕ)) → Option Payload → List Hdr → Env → Bool
are_good_texts size content_type payload hdrs env =
    is_good_payload size env payload && (is_good_type (type_by payload content_type) && list_all (is_good_hdr size env) hdrs)

-- one step
unfoldable pub returned : (size status : ℕ) → (content_type : Option (List ℕ)) → Option Payload → List Hdr → Env → Result Message Why
returned size status content_type payload hdrs env =
    if are_good_texts size content_type payload hdrs env
    then fitting size (returning status (type_by payload content_type) (payload_text size env payload) (map (hdr_field size env) hdrs))
    else Err Bytes
