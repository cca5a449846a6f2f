-- The text of a record in the second format.
use Rattle.std.specs.Prelude.{ℕ, ◌<◌, ◌≤◌, ◌^◌, List, [], ◌∷◌, ◌++◌, Option, Some, None, length, codes, decimal, sum_by, All, ⊤}
use Rattle.std.specs.List.{flat_map}
use Rattle.http_model.specs.declared.Ending.{Ending}
use Rattle.http_model.specs.declared.Ending.TheVariants.{Closed, Broke}
use Rattle.px_link.specs.declared.turns.Turn.{Turn}
use Rattle.px_link.specs.declared.turns.Turn.TheVariants.{ClientGives, ClientTakes, ServerGives, ServerTakes}
use Rattle.session_model.specs.Stream.{Stream}
use Rattle.rec_format.specs.Entries.{ServerEntry}
use Rattle.rec_format.specs.Recorded.{Visit, Recorded}

-- the word for how a stream ended
abbrev pub ending_word : Ending → List ℕ
ending_word Closed = codes "closed"
ending_word Broke = codes "broke"

-- the word for how much a server takes
abbrev pub takes_word : Option ℕ → List ℕ
takes_word None = codes "all"
takes_word (Some n) = decimal n

-- the line of a client, and its bytes
abbrev pub client_text : Stream → List ℕ
client_text s = codes "client " ++ (decimal (length s.bytes) ++ 32 ∷ (ending_word s.ending ++ 10 ∷ (s.bytes ++ 10 ∷ [])))

-- the line of a server, and its bytes
abbrev pub server_text : Option ServerEntry → List ℕ
server_text None = codes "server refused\n"
server_text (Some s) = codes "server " ++ (decimal (length s.stream.bytes) ++ 32 ∷ (ending_word s.stream.ending ++ 32 ∷ (takes_word s.takes ++ 10 ∷ (s.stream.bytes ++ 10 ∷ []))))

-- a client, and its servers
abbrev pub visit_text : Visit → List ℕ
visit_text v = client_text v.client ++ flat_map server_text v.servers

-- who moves
abbrev pub letter_of : Turn → List ℕ
letter_of (ClientGives n) = codes "c"
letter_of (ClientTakes n) = codes "C"
letter_of (ServerGives n) = codes "s"
letter_of (ServerTakes n) = codes "S"

-- how many bytes at most
abbrev pub moved_of : Turn → ℕ
moved_of (ClientGives n) = n
moved_of (ClientTakes n) = n
moved_of (ServerGives n) = n
moved_of (ServerTakes n) = n

-- the line of a turn, with the number of its connection in front
abbrev pub turn_text : ℕ × Turn → List ℕ
turn_text turn = decimal turn.0 ++ 32 ∷ (letter_of turn.1 ++ 32 ∷ (decimal (moved_of turn.1) ++ 10 ∷ []))

-- connections, with a number in front
abbrev pub numbered_text : ℕ → List Visit → List ℕ
numbered_text n visits = codes "connections " ++ (decimal n ++ 10 ∷ flat_map visit_text visits)

-- the connections, with their number in front
abbrev pub visits_text : List Visit → List ℕ
visits_text visits = numbered_text (length visits) visits

-- the turns, with their number in front
abbrev pub turns_text : List (ℕ × Turn) → List ℕ
turns_text turns = codes "turns " ++ (decimal (length turns) ++ 10 ∷ flat_map turn_text turns)

-- the record
unfoldable pub written : Recorded → List ℕ
written r = codes "PXREC 2\n" ++ (visits_text r.connections ++ (turns_text r.turns ++ codes "end\n"))

-- ---- what can be written so that it is read back

-- a count is one of a u64
abbrev pub IsSmallTakes : Option ℕ → Type 0
IsSmallTakes None = ⊤
IsSmallTakes (Some n) = n < 2 ^ 64

-- a server's length and count are
abbrev pub IsSmallServer : Option ServerEntry → Type 0
IsSmallServer None = ⊤
IsSmallServer (Some s) = (length s.stream.bytes < 2 ^ 64) × IsSmallTakes s.takes

-- a turn of one of so many connections, of 1 to 262144 bytes
pub record IsTurnOf (connections : ℕ) (turn : ℕ × Turn) : Type 0 where
  pub first : 1 ≤ turn.0
  pub last : turn.0 ≤ connections
  pub some : 1 ≤ moved_of turn.1
  pub most : moved_of turn.1 ≤ 262144

-- a connection's lengths and counts are
pub record IsSmallVisit (v : Visit) : Type 0 where
  pub client : length v.client.bytes < 2 ^ 64
  pub servers : All IsSmallServer v.servers

-- 1 to 1024 connections, servers and turns within their limits, turns of these connections, and a text within its limit
pub record IsWritable (r : Recorded) : Type 0 where
  pub some : 1 ≤ length r.connections
  pub few : length r.connections ≤ 1024
  pub servers : sum_by (λ (v : Visit). length v.servers) r.connections ≤ 65536
  pub small : All IsSmallVisit r.connections
  pub turns : length r.turns ≤ 1000000
  pub each : All (IsTurnOf (length r.connections)) r.turns
  pub whole : length (written r) ≤ 67108864
