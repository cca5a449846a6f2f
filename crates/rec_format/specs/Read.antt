-- What was read, in the words of a record's meaning.
use Rattle.std.specs.Prelude.{◌≡◌, ℕ, List, map, Option, option_map, Result, Ok, Err, ⊤}
use denote.Bor.{Bor}
use Rattle.session_model.specs.Stream as session
use Rattle.rec_format.specs.declared.record.Stream.{Stream}
use Rattle.rec_format.specs.declared.record.ServerSpec.{ServerSpec}
use Rattle.rec_format.specs.declared.record.Connection.{Connection}
use Rattle.rec_format.specs.declared.record.Record.{Record}
use Rattle.rec_format.specs.declared.record.RecFault.{RecFault}
use Rattle.rec_format.specs.declared.record.RecFault.TheVariants as faults
use Rattle.rec_format.specs.Entries.{ServerEntry}
use Rattle.rec_format.specs.Recorded.{Visit, Recorded, Refusal}

-- a stream
abbrev pub stream : Stream → session.Stream
stream read = record { bytes = read.bytes; ending = read.ending }

-- a server that is there
abbrev pub server : ServerSpec → ServerEntry
server read = record { stream = stream read.stream; takes = read.takes }

-- servers, some of them refused
abbrev pub servers : List (Option ServerSpec) → List (Option ServerEntry)
servers read = map (option_map server) read

-- a connection
abbrev pub visit : Connection → Visit
visit read = record { client = stream read.client; servers = servers read.servers.items }

-- connections
abbrev pub visits : List Connection → List Visit
visits read = map visit read

-- a record
abbrev pub meaning_of : Record → Recorded
meaning_of read = record { version = read.version; connections = visits read.conns.items; turns = read.turns.items }

-- a stream, and what stands behind it
abbrev pub stream_behind : Stream × Bor (List ℕ) → session.Stream × List ℕ
stream_behind parts = (stream parts.0, parts.1.now)

-- a server or a refused one, and what stands behind it
abbrev pub server_behind : Option ServerSpec × Bor (List ℕ) → Option ServerEntry × List ℕ
server_behind parts = (option_map server parts.0, parts.1.now)

-- the fault of a refusal
abbrev pub fault_of : Refusal → RecFault
fault_of refusal = faults.Refused refusal.place refusal.kind

-- The answer is what the definition says: its value or its refusal; want of memory says nothing.
abbrev pub Gives : {A B : Type 0} → (A → B) → Result A RecFault → Result B Refusal → Type 0
Gives seen (Ok value) said = said ≡ Ok (seen value)
Gives seen (Err (faults.Refused place kind)) said = said ≡ Err (record { place = place; kind = kind })
Gives seen (Err faults.OutOfMemory) said = ⊤
