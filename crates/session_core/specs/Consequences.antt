-- What a core that stands for its history has put out, in words of the session.
use Rattle.std.specs.Prelude.{ℕ, ◌<◌, List, ◌++◌, Bool, length, map, replicate}
use Rattle.std.specs.List.{AllZip}
use Rattle.http_model.specs.declared.End.{End}
use Rattle.http_model.specs.Reading.{HeadReading, Begins, Received}
use Rattle.session_model.specs.Stream.{Stream, Server, NotThere}
use Rattle.session_model.specs.Meaning.{Meaning}
use Rattle.session_model.specs.Session.{Session, Out, close_of}
use Rattle.session_core.specs.History.{Past, Continues, ContinuesServer, broken, broken_server, sent_of, IsPrefix, Fronts, BitFits}

-- Each stream has a head's reading, and a head is at least one byte.
pub record IsTotal (M : Meaning) : Type 0 where
  pub heads : (bytes : List ℕ) → (r : HeadReading) × M.reads_request bytes r
  pub shorter : (bytes : List ℕ) (received : Received) (rest : List ℕ) → M.reads_request bytes (Begins received rest) → length rest < length bytes

-- what a past that is over comes to
abbrev pub out_of_past : Past → (client : List ℕ) → (exchanges : ℕ) → End → Out
out_of_past past client exchanges how =
    record {
      exchanges = exchanges;
      how = how;
      cut = past.note;
      client = record { bytes = client; close = close_of how };
      servers = map sent_of past.connects;
    }

-- the session is over: it is the session of each way in which the open streams go on
abbrev pub IsFinal : (M : Meaning) → Past → Out → Type 0
IsFinal M past out =
    (client : Stream) (servers : List Server) → Continues past.client client → AllZip ContinuesServer past.connects servers
    → Session M client servers out

-- What was put out is a front of what a session puts out in which each stream without an ending breaks off here and each
-- further connect is refused.
pub record IsFront (M : Meaning) (past : Past) (client_window server_window : List ℕ) (begun : Bool) : Type 0 where
  pub out : Out
  pub refused : ℕ
  pub session : Session M (broken past.client) (map broken_server past.connects ++ replicate refused NotThere) out
  pub client : IsPrefix (past.taken ++ client_window) out.client.bytes
  pub servers : Fronts past.connects server_window out.servers
  pub bit : BitFits past.note begun out.cut
