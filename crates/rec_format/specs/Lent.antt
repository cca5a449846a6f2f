-- Entries that lend their bytes out of a record's text, in the words of its meaning.
use Rattle.std.specs.Prelude.{ℕ, List, Option, option_map}
use denote.Bor.{Bor}
use Rattle.px_link.specs.declared.turns.Turn.{Turn}
use Rattle.session_model.specs.Stream.{Stream}
use Rattle.rec_format.specs.declared.entries.LentStream.{LentStream}
use Rattle.rec_format.specs.declared.entries.LentServer.{LentServer}
use Rattle.rec_format.specs.Entries.{ServerEntry}

-- a stream
abbrev pub stream_seen : LentStream → Stream
stream_seen stream = record { bytes = stream.bytes.now; ending = stream.ending }

-- a server
abbrev pub server_seen : LentServer → ServerEntry
server_seen server = record { stream = stream_seen server.stream; takes = server.takes }

-- a stream, and what stands behind it
abbrev pub lent_stream : LentStream × Bor (List ℕ) → Stream × List ℕ
lent_stream parts = (stream_seen parts.0, parts.1.now)

-- a server or a refused one, and what stands behind it
abbrev pub lent_server : Option LentServer × Bor (List ℕ) → Option ServerEntry × List ℕ
lent_server parts = (option_map server_seen parts.0, parts.1.now)

-- a turn, and what stands behind it
abbrev pub lent_turn : (ℕ × Turn) × Bor (List ℕ) → (ℕ × Turn) × List ℕ
lent_turn parts = (parts.0, parts.1.now)

-- what stands behind
abbrev pub slice_of : Bor (List ℕ) → List ℕ
slice_of text = text.now
