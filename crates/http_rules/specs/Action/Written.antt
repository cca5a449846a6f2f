-- What stands in a reply's array while it is made.
use Rattle.std.specs.Prelude.{◌≡◌, ℕ, List, [], Bool, true, false, map, Option, Some, None, unwrap_or, Result, Ok, Err}
use Rattle.std.specs.List.{list_all}
use Rattle.http_model.specs.declared.Why.TheVariants.{Room, Bytes}
use Rattle.http_model.specs.Block.{Block, Header}
use Rattle.http_model.specs.Blocks.{Fits}
use Rattle.http_model.specs.declared.Why.{Why}
use Rattle.http_model.specs.Head.{Field, Head, Message, head_blocks, front_blocks, message_blocks}
use Rattle.http_model.specs.Finish.{close_field}
use Rattle.http_model.specs.Reply.{with_fields}
use Rattle.header_ops.specs.Headers.{with_header}
use Rattle.http_fetch.specs.Fetches.{target_in}
use Rattle.http_rules.specs.declared.rule.reply.Payload.{Payload}
use Rattle.http_rules.specs.declared.rule.reply.Payload.TheVariants as payloads
use Rattle.http_rules.specs.declared.rule.reply.Hdr.{Hdr}
use Rattle.http_rules.specs.declared.action.stepped.Stepped.{Stepped}
use Rattle.http_rules.specs.declared.action.stepped.Stepped.TheVariants.{Done, Failed}
use Rattle.http_rules.specs.Action.Given.{Env, text_on}
use Rattle.http_rules.specs.Action.Replies.{is_good_hdr, hdr_field, is_good_payload, payload_text}

-- the target that a redirect is made of: that of a request, and nothing of an answer
abbrev pub led_target : List Block → List ℕ
led_target blocks = unwrap_or (target_in blocks) []

-- the bytes of a payload, where the text of its format is held
abbrev pub body_by : Option Payload → (held : List ℕ) → List ℕ
body_by None held = []
body_by (Some (payloads.Literal text)) held = text
body_by (Some (payloads.Format fmt)) held = held

-- whether the payload is within the buffer; where it is, the text of its format is held
pub record IsBody (size : ℕ) (env : Env) (payload : Option Payload) (good : Bool) (held : List ℕ) : Type 0 where
  pub within : is_good_payload size env payload ≡ good
  pub holds : good ≡ true → body_by payload held ≡ payload_text size env payload

-- whether the text of a field is within the buffer and may stand in a field value; where it may, it is held
pub record IsValue (size : ℕ) (env : Env) (hdr : Hdr) (good : Bool) (held : List ℕ) : Type 0 where
  pub good_is : is_good_hdr size env hdr ≡ good
  pub holds : good ≡ true → held ≡ text_on size env hdr.value

-- the blocks are those of a head
abbrev pub IsHead : List Block → Type 0
IsHead blocks = (head : Head) × (blocks ≡ head_blocks head)

-- the array, of this size, holds a head with these fields behind its own; or this would not fit
abbrev pub IsPut : (size : ℕ) → Head → List Field → (fits : Bool) → List Block → Type 0
IsPut size head fields true blocks = blocks ≡ head_blocks (with_fields fields head)
IsPut size head fields false blocks = Fits (head_blocks (with_fields fields head)) size → ⊥

-- the step of fields whose texts are good
abbrev pub put_step : (fits : Bool) → Stepped
put_step true = Done
put_step false = Failed Room

-- what the fields of a reply came to behind its head: they fail for a text that is not good before they fail for room
abbrev pub ArePut : (size room : ℕ) → Env → Head → List Hdr → Stepped → List Block → Type 0
ArePut size room env head hdrs Done blocks = (list_all (is_good_hdr size env) hdrs ≡ true) × IsPut room head (map (hdr_field size env) hdrs) true blocks
ArePut size room env head hdrs (Failed Room) blocks = (list_all (is_good_hdr size env) hdrs ≡ true) × IsPut room head (map (hdr_field size env) hdrs) false blocks
ArePut size room env head hdrs (Failed Bytes) blocks = list_all (is_good_hdr size env) hdrs ≡ false

-- the body stands behind a head, and `connection: close` fits too; or this would not fit
abbrev pub IsEnded : (size : ℕ) → Head → (body : List ℕ) → Stepped → List Block → Type 0
IsEnded size head body Done blocks = (blocks ≡ front_blocks head body) × Fits (with_header (Header close_field.0 close_field.1) (front_blocks head body)) size
IsEnded size head body (Failed Room) blocks = Fits (with_header (Header close_field.0 close_field.1) (front_blocks head body)) size → ⊥
IsEnded size head body (Failed Bytes) blocks = ⊥

-- what a reply behind its head came to: for a text that is not good before it is for room
abbrev pub IsReply : (size room : ℕ) → Env → Head → List Hdr → (body : List ℕ) → Stepped → List Block → Type 0
IsReply size room env head hdrs body Done blocks = (list_all (is_good_hdr size env) hdrs ≡ true) × IsEnded room (with_fields (map (hdr_field size env) hdrs) head) body Done blocks
IsReply size room env head hdrs body (Failed Room) blocks = (list_all (is_good_hdr size env) hdrs ≡ true) × IsEnded room (with_fields (map (hdr_field size env) hdrs) head) body (Failed Room) blocks
IsReply size room env head hdrs body (Failed Bytes) blocks = list_all (is_good_hdr size env) hdrs ≡ false

-- what a reply came to, of which some may stand in the array where it failed
abbrev pub IsWritten : Result Message Why → Stepped → List Block → Type 0
IsWritten (Ok m) Done blocks = blocks ≡ message_blocks m
IsWritten (Ok m) (Failed reason) blocks = ⊥
IsWritten (Err why) Done blocks = ⊥
IsWritten (Err why) (Failed reason) blocks = reason ≡ why
