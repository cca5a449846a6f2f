-- What a session comes to whose servers are applications, which are asked by records.
use Rattle.std.specs.Prelude.{ℕ, List, map, option_map}
use Rattle.fcgi_model.specs.Application.{Application}
use Rattle.fcgi_lane.specs.Answer.Cgi.{cgi_of}
use Rattle.session_model.specs.Meaning.{Meaning}
use Rattle.session_model.specs.Stream.{Stream}
use Rattle.session_model.specs.Session.{Out}
use Rattle.session_core.specs.History.{Past}
use Rattle.px_link.specs.Link.{Asks}
use Rattle.px_link.specs.declared.turns.Turn.{Turn}
use Rattle.rec_format.specs.Entries.{ServerEntry}
use Rattle.rec_format.specs.Recorded.{Visit}
use Rattle.htx_drive.specs.Machine.{CoreSeen}
use Rattle.htx_drive.specs.Replay.Replayed.{GivesOwn}
use Rattle.htx_drive.specs.Replay.Headed.{PassesBy}

-- The HTTP stream that an application's records are, whose head has at most so many bytes. How the records' own stream ends says nothing.
abbrev pub http_of : (limit : ℕ) → Stream → Stream
http_of limit stream = record { bytes = (cgi_of limit stream.bytes).bytes; ending = (cgi_of limit stream.bytes).ending }

-- a server of a record that is an application
abbrev pub entry_asked : (limit : ℕ) → ServerEntry → ServerEntry
entry_asked limit entry = record entry { stream = http_of limit entry.stream }

-- a connection of a record whose servers are applications
abbrev pub visit_asked : (limit : ℕ) → Visit → Visit
visit_asked limit visit = record visit { servers = map (option_map (entry_asked limit)) visit.servers }

-- The outcome is that of a session by these turns, whose servers gave what their records are as HTTP; but what it says of each server is the records that
-- ask the application what the session's text does, or of a server that stopped a front of such.
abbrev pub ReplaysAsking : {C : Type 0} → Application → (limit : ℕ) → Meaning → (C → Past → Type 0) → (C → CoreSeen) → List Turn → Visit → Out → Type 0
ReplaysAsking application limit M stands seen turns visit = PassesBy (Asks application) GivesOwn M stands seen turns (visit_asked limit visit)
