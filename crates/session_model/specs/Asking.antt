-- What a client's stream asks for next.
use Rattle.std.specs.Prelude.{◌≡◌, ℕ, List, [], Bool, false, not, ◌&&◌, nat_le, if◌then◌else◌, Option, Some, None}
use Rattle.http_model.specs.declared.Ending.{Ending}
use Rattle.http_model.specs.Blocks.{load}
use Rattle.http_model.specs.Head.{Field, Head, Message, head_blocks}
use Rattle.http_model.specs.Finish.{finish_request, request_framing}
use Rattle.http_model.specs.Reading.{Received, HeadReading, BodyReading}
use Rattle.http_model.specs.Reading as reading
use Rattle.session_model.specs.Stream.{Stream}
use Rattle.session_model.specs.Env.{Verdict, Pass, Reply, Deny, Fail, request_env, method_of, method_in}
use Rattle.session_model.specs.Meaning.{Meaning, Filtered, keeps, is_head_request, is_http_11, is_bodiless, declares_too_much, sent_body}

-- what an answer has to know of its request
pub record Asker : Type 0 where
  -- the method of the head that was sent
  pub method : List ℕ
  -- it is HEAD
  pub head_asked : Bool
  -- the client knows chunks and interim responses
  pub is_http_11 : Bool
  -- the connection may be kept
  pub keep : Bool

-- A head that goes to a server: as it was received and as the rules left it, the variables behind them, and what follows it.
-- What its body is, is asked only where the server is there: a request whose server is refused is never read.
pub record Forwarded (Vars : Type 0) : Type 0 where
  pub received : Received
  pub head : Head
  pub vars : Vars
  pub rest : Stream

-- a request that goes to a server: its message, the code of its cut where it is cut, and what goes on behind it
pub record Request (Vars : Type 0) : Type 0 where
  pub message : Message
  pub cut : Option ℕ
  pub asker : Asker
  pub rest : Stream
  pub vars : Vars

-- What is asked for. A refusal and a reply have the method of the request at that moment, none where no head was read, and
-- the variables.
pub data Asked (Vars : Type 0) : Type 0 where
  -- nothing more
  Nothing : Asked Vars
  -- a refusal with this code, whose body is left out where the request was a HEAD
  Refused : (code : ℕ) → (no_body : Bool) → (method : List ℕ) → Vars → Asked Vars
  -- a reply, and whether the connection is kept behind it
  Replied : Message → (no_body keep : Bool) → (rest : Stream) → (method : List ℕ) → Vars → Asked Vars
  -- a request to a server
  Sends : Forwarded Vars → Asked Vars

abbrev pub asker_of : Received → Head → Asker
asker_of received head =
    record {
      method = method_of head.line;
      head_asked = is_head_request received.head;
      is_http_11 = is_http_11 received.head;
      keep = keeps received;
    }

-- The request that a body's reading makes: whole, or cut with the filter's code, or with 400 where the body itself broke
-- off or was malformed.
abbrev pub request_by : (M : Meaning) → Received → Head → M.Vars → Ending → BodyReading → Request M.Vars
request_by M received head vars ending body = by_reading body
  where
    made : Filtered → List Field → Stream → Request M.Vars
    made sent trailers rest =
        record {
          message = record {
            head = finish_request head (request_framing M.request_filters.replaces received.framing);
            framing = request_framing M.request_filters.replaces received.framing;
            body = sent.output;
            trailers = trailers;
          };
          cut = sent.refused;
          asker = asker_of received head;
          rest = rest;
          vars = vars;
        }

    over : Stream
    over = record { bytes = []; ending = ending }

    by_reading : BodyReading → Request M.Vars
    by_reading (reading.Whole bytes trailers rest) =
        made (sent_body M.request_filters None bytes) trailers (record { bytes = rest; ending = ending })
    by_reading (reading.Broke bytes) = made (sent_body M.request_filters (Some 400) bytes) [] over
    by_reading (reading.Bad bytes) = made (sent_body M.request_filters (Some 400) bytes) [] over

-- the finished head is within the buffer
abbrev pub request_fits : (M : Meaning) → Received → Head → Bool
request_fits M received head =
    nat_le (load (head_blocks (finish_request head (request_framing M.request_filters.replaces received.framing)))) M.limits.bufsize

-- Behind the rules: a declared length that passes a limit, then a finished head that doesn't fit, then the server.
abbrev pub forwards : (M : Meaning) → Received → Head → M.Vars → (rest : Stream) → Asked M.Vars
forwards M received head vars rest =
    if declares_too_much M.request_filters received.declared then refused 413
    else if not (request_fits M received head) then refused 500
    else Sends (record { received = received; head = head; vars = vars; rest = rest })
  where
    refused : ℕ → Asked M.Vars
    refused code = Refused code (is_head_request received.head) (method_of head.line) vars

-- what the rules' verdict on a head asks for
abbrev pub asked_by : (M : Meaning) → Received → (rest : Stream) → Verdict M.Vars → Asked M.Vars
asked_by M received rest (Deny code env) = Refused code (is_head_request received.head) (method_in env) env.vars
asked_by M received rest (Fail why env) = Refused 500 (is_head_request received.head) (method_in env) env.vars
asked_by M received rest (Reply m env) =
    Replied m (is_head_request received.head) (keeps received && is_bodiless received.framing) rest (method_in env) env.vars
asked_by M received rest (Pass env) = forwards M received env.head env.vars rest

-- what a head, or none, asks for; the refusal of a head itself always has its body
abbrev pub asked_of : (M : Meaning) → M.Vars → Ending → HeadReading → Asked M.Vars
asked_of M vars ending reading.Nothing = Nothing
asked_of M vars ending (reading.Refused code) = Refused code false [] vars
asked_of M vars ending (reading.Begins received rest) =
    asked_by M received (record { bytes = rest; ending = ending }) (M.request_rules (request_env vars received.head))

-- the client's stream asks for this
pub record Asks (M : Meaning) (vars : M.Vars) (client : Stream) (asked : Asked M.Vars) : Type 0 where
  pub head : HeadReading
  pub reads : M.reads_request client.bytes head
  pub asks : asked ≡ asked_of M vars client.ending head
