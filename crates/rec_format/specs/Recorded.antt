-- What a record's text says: its meaning, or the place and the kind of its refusal.
use Rattle.std.specs.Prelude.{ℕ, zero, suc, ◌+◌, ◌-◌, ◌==◌, Bool, true, false, ◌&&◌, nat_le, List, [], ◌∷◌, length, Option, Some, None, option_map, Result, Ok, Err, if◌then◌else◌, codes}
use Rattle.std.specs.Option.{option_and_then}
use Rattle.std.specs.Str.{bytes_eq}
use Rattle.px_link.specs.declared.turns.Turn.{Turn}
use Rattle.session_model.specs.Stream.{Stream}
use Rattle.rec_format.specs.declared.record.RecKind.{RecKind}
use Rattle.rec_format.specs.declared.record.RecKind.TheVariants as kinds
use Rattle.rec_format.specs.Pieces.{before, behind, number_of}
use Rattle.rec_format.specs.Entries.{ServerEntry, client_entry, server_entry, turn_entry}

-- a client, and the servers in the order of the connects, none for a refused one
pub record Visit : Type 0 where
  pub client : Stream
  pub servers : List (Option ServerEntry)

-- a record: its format, its connections, and turns with the number of their connection
pub record Recorded : Type 0 where
  pub version : ℕ
  pub connections : List Visit
  pub turns : List (ℕ × Turn)

-- where and why a record is refused
pub record Refusal : Type 0 where
  pub place : ℕ
  pub kind : RecKind

-- The refusal of the line in front of a text, which is the end of a record of so many bytes: the place is the line's first byte.
abbrev pub refusal_at : ℕ → List ℕ → RecKind → Refusal
refusal_at total text kind = record { place = total - length text; kind = kind }

-- the line in front is refused
abbrev pub refuse : {A : Type 0} → ℕ → List ℕ → RecKind → Result A Refusal
refuse total text kind = Err (refusal_at total text kind)

-- what reads, or the refusal of the line in front
abbrev pub or_refuse : {A : Type 0} → ℕ → List ℕ → RecKind → Option A → Result A Refusal
or_refuse total text kind (Some value) = Ok value
or_refuse total text kind None = refuse total text kind

-- what is done with what reads
abbrev pub and_then : {A B : Type 0} → (A → Result B Refusal) → Result A Refusal → Result B Refusal
and_then f (Ok value) = f value
and_then f (Err refusal) = Err refusal

-- the first word of the line in front
abbrev pub word_of : List ℕ → List ℕ
word_of text = before 32 (before 10 text)

-- a client's entry in front
abbrev pub client_of : ℕ → List ℕ → Result (Stream × List ℕ) Refusal
client_of total text = or_refuse total text kinds.Length (client_entry (before 10 text) (behind 10 text))

-- a server's entry in front
abbrev pub server_of : ℕ → List ℕ → Result (Option ServerEntry × List ℕ) Refusal
server_of total text = or_refuse total text kinds.Length (server_entry (before 10 text) (behind 10 text))

-- the line in front begins with `server`
abbrev pub is_server : List ℕ → Bool
is_server text = bytes_eq (word_of text) (codes "server")

-- servers, how many more there may be, and what stands behind them
pub record Servers : Type 0 where
  pub servers : List (Option ServerEntry)
  pub room : ℕ
  pub rest : List ℕ

-- a server in front of others
abbrev pub with_server : Option ServerEntry → Servers → Result Servers Refusal
with_server server more = Ok (record { servers = server ∷ more.servers; room = more.room; rest = more.rest })

-- the servers in front, as long as lines begin with `server`; one more than may be passes the limit at its line
abbrev pub servers_of : ℕ → ℕ → List ℕ → Result Servers Refusal
servers_of total zero text =
    if is_server text then refuse total text kinds.Limit else Ok (record { servers = []; room = 0; rest = text })
servers_of total (suc room) text =
    if is_server text then and_then (λ entry. and_then (with_server entry.0) (servers_of total room entry.1)) (server_of total text) else Ok (record { servers = []; room = suc room; rest = text })

-- What stands behind a connection's servers where more connections are to come: a client, and in its place the turns are too
-- early.
abbrev pub next_client : ℕ → List ℕ → Result (List ℕ) Refusal
next_client total text =
    if bytes_eq (word_of text) (codes "client") then Ok text
    else (if bytes_eq (word_of text) (codes "turns") then refuse total text kinds.Count else refuse total text kinds.Turn)

-- What stands behind the last connection's servers: the turns. In the second format one more client is counted.
abbrev pub last_turns : ℕ → Bool → List ℕ → Result (List ℕ) Refusal
last_turns total numbered text =
    if bytes_eq (word_of text) (codes "turns") then Ok text
    else (if numbered && bytes_eq (word_of text) (codes "client") then refuse total text kinds.Count else refuse total text kinds.Turn)

-- connections and what stands behind them
abbrev pub Visits : Type 0
Visits = List Visit × List ℕ

-- a connection in front of others
abbrev pub with_visit : Visit → Visits → Result Visits Refusal
with_visit visit more = Ok (visit ∷ more.0, more.1)

-- a connection, how many more servers there may be, and what stands behind it
pub record Visited : Type 0 where
  pub visit : Visit
  pub room : ℕ
  pub rest : List ℕ

-- a client's entry and those of its servers
abbrev pub visit_of : ℕ → ℕ → List ℕ → Result Visited Refusal
visit_of total room text =
    and_then (λ client. and_then (λ servers. Ok (record { visit = record { client = client.0; servers = servers.servers }; room = servers.room; rest = servers.rest })) (servers_of total room client.1)) (client_of total text)

-- the last connection, and the turns behind it
abbrev pub last_visit : ℕ → Bool → Visited → Result Visits Refusal
last_visit total numbered last = and_then (λ rest. Ok (last.visit ∷ [], rest)) (last_turns total numbered last.rest)

-- a connection, and so many more behind it; so many servers may come in all of them
abbrev pub visits_of : ℕ → Bool → ℕ → ℕ → List ℕ → Result Visits Refusal
visits_of total numbered zero room text = and_then (last_visit total numbered) (visit_of total room text)
visits_of total numbered (suc more) room text =
    and_then (λ first. and_then (λ rest. and_then (with_visit first.visit) (visits_of total numbered more first.room rest)) (next_client total first.rest)) (visit_of total room text)

-- a number of turns within its limit, and what stands behind its line
abbrev pub within_turns : ℕ → List ℕ → ℕ × List ℕ → Result (ℕ × List ℕ) Refusal
within_turns total text count = if nat_le count.0 1000000 then Ok count else refuse total text kinds.Limit

-- the line `turns COUNT`, of which the first word is known
abbrev pub turn_count : ℕ → List ℕ → Result (ℕ × List ℕ) Refusal
turn_count total text =
    and_then (within_turns total text) (or_refuse total text kinds.Turn (option_and_then (λ rest. option_and_then (λ word. option_map (λ count. (count, rest)) (number_of word)) (behind 32 (before 10 text))) (behind 10 text)))

-- turns and what stands behind them
abbrev pub Moves : Type 0
Moves = List (ℕ × Turn) × List ℕ

-- a turn in front of others
abbrev pub with_turn : ℕ × Turn → Moves → Result Moves Refusal
with_turn turn more = Ok (turn ∷ more.0, more.1)

-- so many turns of so many connections, which are numbered or not
abbrev pub turns_of : ℕ → Bool → ℕ → ℕ → List ℕ → Result Moves Refusal
turns_of total numbered connections zero text = Ok ([], text)
turns_of total numbered connections (suc more) text =
    and_then (λ entry. and_then (with_turn entry.0) (turns_of total numbered connections more entry.1)) (or_refuse total text kinds.Turn (turn_entry numbered connections (before 10 text) (behind 10 text)))

-- nothing stands behind the last line
abbrev pub nothing_behind : ℕ → List ℕ → Result (List ℕ) Refusal
nothing_behind total [] = Ok []
nothing_behind total (first ∷ rest) = refuse total (first ∷ rest) kinds.Rest

-- the line `end`, and nothing behind it
abbrev pub end_of : ℕ → List ℕ → Result (List ℕ) Refusal
end_of total text =
    and_then (nothing_behind total) (or_refuse total text kinds.Rest (option_and_then (λ rest. if bytes_eq (before 10 text) (codes "end") then Some rest else None) (behind 10 text)))

-- connections and turns, as a record of this format
abbrev pub recorded : ℕ → List Visit → List (ℕ × Turn) → List ℕ → Result Recorded Refusal
recorded version connections turns rest = Ok (record { version = version; connections = connections; turns = turns })

-- what stands behind the lines that tell the format and how many connections there are behind the first
abbrev pub entries_of : ℕ → ℕ → Bool → ℕ → List ℕ → Result Recorded Refusal
entries_of total version numbered more text =
    and_then (λ visits. and_then (λ count. and_then (λ turns. and_then (recorded version visits.0 turns.0) (end_of total turns.1)) (turns_of total numbered (more + 1) count.0 count.1)) (turn_count total visits.1)) (visits_of total numbered more 65536 text)

-- the number of connections within its limit, and what stands behind its line; the turns may not be the next line
abbrev pub within_connections : ℕ → List ℕ → ℕ × List ℕ → Result (ℕ × List ℕ) Refusal
within_connections total text count =
    if nat_le count.0 1024 then (if bytes_eq (word_of count.1) (codes "turns") then refuse total count.1 kinds.Count else Ok count) else refuse total text kinds.Limit

-- a number from 1 on
abbrev pub some_number : List ℕ → Option ℕ
some_number word = option_and_then (λ n. if nat_le 1 n then Some n else None) (number_of word)

-- the line `connections COUNT`
abbrev pub connection_count : ℕ → List ℕ → Result (ℕ × List ℕ) Refusal
connection_count total text =
    and_then (within_connections total text) (or_refuse total text kinds.Count (option_and_then (λ rest. option_and_then (λ word. if bytes_eq (word_of text) (codes "connections") then option_map (λ count. (count, rest)) (some_number word) else None) (behind 32 (before 10 text))) (behind 10 text)))

-- the format that the first line names, and what stands behind it
abbrev pub format_of : List ℕ → Option (ℕ × List ℕ)
format_of text =
    option_and_then (λ rest. if bytes_eq (before 10 text) (codes "PXREC 1") then Some (1, rest) else (if bytes_eq (before 10 text) (codes "PXREC 2") then Some (2, rest) else None)) (behind 10 text)

-- a record of this format behind its first line: in the first there is one connection
abbrev pub in_format : ℕ → ℕ × List ℕ → Result Recorded Refusal
in_format total format =
    if format.0 == 1 then entries_of total 1 false 0 format.1 else and_then (λ count. entries_of total 2 true (count.0 - 1) count.1) (connection_count total format.1)

-- the record that a text is
unfoldable pub record_of : List ℕ → Result Recorded Refusal
record_of text =
    if nat_le (length text) 67108864 then and_then (in_format (length text)) (or_refuse (length text) text kinds.Header (format_of text)) else Err (record { place = 67108864; kind = kinds.Limit })
