-- How long the texts of a session are.
use Rattle.std.specs.Prelude.{◌≡◌, ◌≢◌, ℕ, ◌+◌, ◌*◌, ◌≤◌, List, length, sum_by, Bool, Option, Some, None}
use Rattle.http_model.specs.declared.Framing.{Framing}
use Rattle.http_model.specs.declared.Framing.TheVariants.{Chunked}
use Rattle.http_model.specs.declared.Ending.{Ending}
use Rattle.http_model.specs.Head.{Field, Message}
use Rattle.http_model.specs.Finish.{finish_interim}
use Rattle.http_model.specs.Spelling.{head_text, fields_text}
use Rattle.http_model.specs.Reading.{Received}
use Rattle.http_model.specs.Reading as reading
use Rattle.session_model.specs.Stream.{Server, NotThere, Open, Sent}
use Rattle.session_model.specs.Env.{Env, Reply}
use Rattle.session_model.specs.Meaning.{Meaning}
use Rattle.session_model.specs.Session.{Exchange, After, Over, Next, SpellsRefusal}

abbrev pub sent_size : Option Sent → ℕ
sent_size None = 0
sent_size (Some sent) = length sent.bytes

abbrev pub server_size : Server → ℕ
server_size NotThere = 0
server_size (Open stream stopped) = length stream.bytes

-- the bytes that an exchange puts out to all sides
abbrev pub exchange_size : {Vars : Type 0} → Exchange Vars → ℕ
exchange_size e = length e.client + sum_by sent_size e.connects

-- the bytes of the client's stream that are left behind an exchange
abbrev pub rest_size : {Vars : Type 0} → After Vars → ℕ
rest_size (Over how) = 0
rest_size (Next rest vars) = length rest.bytes

-- a refusal with this code, on which no rule runs, has at most so many bytes
abbrev pub IsShort : (limit : ℕ) → (code : ℕ) → Type 0
IsShort limit code = (no_body : Bool) (text : List ℕ) → SpellsRefusal code no_body text → length text ≤ limit

-- What the layers below a session keep: readers use up what they read, a filter makes at most 256 bytes of one, the refusals
-- on which no rule runs are no longer than the buffer, and no reply of the rules is chunked. What other refusals and replies
-- come to is within the buffer by their meaning.
pub record IsBounded (M : Meaning) : Type 0 where
  pub request_heads : (bytes : List ℕ) (received : Received) (rest : List ℕ) → M.reads_request bytes (reading.Begins received rest) → length rest ≤ length bytes
  pub response_heads : (head_asked : Bool) (bytes : List ℕ) (received : Received) (rest : List ℕ) → M.reads_response head_asked bytes (reading.Begins received rest)
      → length (head_text (finish_interim received.head)) + 1536 * length rest ≤ 1536 * length bytes
  pub whole_bodies : (framing : Framing) (bytes : List ℕ) (ending : Ending) (body : List ℕ) (trailers : List Field) (rest : List ℕ) → M.reads_body framing bytes ending (reading.Whole body trailers rest)
      → 1536 * length body + length (fields_text trailers) + 1536 * length rest ≤ 1536 * length bytes
  pub broken_bodies : (framing : Framing) (bytes : List ℕ) (ending : Ending) (body : List ℕ) → M.reads_body framing bytes ending (reading.Broke body) → length body ≤ length bytes
  pub bad_bodies : (framing : Framing) (bytes : List ℕ) (ending : Ending) (body : List ℕ) → M.reads_body framing bytes ending (reading.Bad body) → length body ≤ length bytes
  pub request_filters : (body : List ℕ) → length (M.request_filters.filter body).output ≤ 256 * length body
  pub response_filters : (body : List ℕ) → length (M.response_filters.filter body).output ≤ 256 * length body
  pub filtered_requests : (body : List ℕ) (code : ℕ) → (M.request_filters.filter body).refused ≡ Some code → IsShort M.limits.bufsize code
  pub malformed : IsShort M.limits.bufsize 400
  pub plain : IsShort M.limits.bufsize 500
  pub request_replies : (env after : Env M.Vars) (m : Message) → M.request_rules env ≡ Reply m after → m.framing ≢ Chunked
  pub response_replies : (env after : Env M.Vars) (m : Message) → M.response_rules env ≡ Reply m after → m.framing ≢ Chunked
