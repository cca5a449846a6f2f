-- What the loops of the reader have so far, in the words of a record's meaning.
use Rattle.std.specs.Prelude.{◌≡◌, ℕ, Bool, List, [], ◌++◌, Option, Some, None, option_map, Result, Ok, Err, if◌then◌else◌, codes, ⊤}
use Rattle.std.specs.Option.{option_and_then}
use Rattle.std.specs.Str.{bytes_eq}
use Rattle.std.specs.declared.alloc.Global.{Global}
use Rattle.std.specs.declared.vec.Vec.{Vec}
use denote.Bor.{Bor}
use Rattle.px_link.specs.declared.turns.Turn.{Turn}
use Rattle.rec_format.specs.declared.parts.ServersRead.{ServersRead}
use Rattle.rec_format.specs.declared.parts.VisitRead.{VisitRead}
use Rattle.rec_format.specs.declared.parts.VisitsRead.{VisitsRead}
use Rattle.rec_format.specs.declared.parts.TurnsRead.{TurnsRead}
use Rattle.rec_format.specs.Entries.{ServerEntry}
use Rattle.rec_format.specs.Read.{servers, visit, visits}
use Rattle.rec_format.specs.declared.record.RecFault.{RecFault}
use Rattle.rec_format.specs.declared.record.RecFault.TheVariants as faults
use Rattle.rec_format.specs.Pieces.{before, behind, number_of}
use Rattle.rec_format.specs.Recorded.{Refusal, Recorded, Servers, Visit, Visited, Visits, Moves, and_then, next_client, last_turns, visit_of, word_of, some_number, end_of, turns_of, turn_count}

-- servers, how many more there may be, and what stands behind them
abbrev pub servers_read : ServersRead → Servers
servers_read read = record { servers = servers read.servers.items; room = read.room; rest = read.rest.now }

-- a connection, how many more servers there may be, and what stands behind it
abbrev pub visit_read : VisitRead → Visited
visit_read read = record { visit = visit read.conn; room = read.room; rest = read.rest.now }

-- connections, and what stands behind them
abbrev pub visits_read : VisitsRead → Visits
visits_read read = (visits read.conns.items, read.rest.now)

-- turns, and what stands behind them
abbrev pub turns_read : TurnsRead → Moves
turns_read read = (read.turns.items, read.rest.now)

-- ---- what was read in front of what is still to be read

abbrev pub behind_servers : List (Option ServerEntry) → Result Servers Refusal → Result Servers Refusal
behind_servers front said = and_then (λ more. Ok (record { servers = front ++ more.servers; room = more.room; rest = more.rest })) said

abbrev pub behind_visits : List Visit → Result Visits Refusal → Result Visits Refusal
behind_visits front said = and_then (λ more. Ok (front ++ more.0, more.1)) said

abbrev pub behind_turns : List (ℕ × Turn) → Result Moves Refusal → Result Moves Refusal
behind_turns front said = and_then (λ more. Ok (front ++ more.0, more.1)) said

-- ---- a connection, and what must stand behind it

-- with a client behind it
abbrev pub visit_before : ℕ → ℕ → List ℕ → Result Visited Refusal
visit_before total room text =
    and_then (λ first. and_then (λ rest. Ok (record { visit = first.visit; room = first.room; rest = rest })) (next_client total first.rest)) (visit_of total room text)

-- with the turns behind it
abbrev pub visit_last : ℕ → Bool → ℕ → List ℕ → Result Visited Refusal
visit_last total numbered room text =
    and_then (λ last. and_then (λ rest. Ok (record { visit = last.visit; room = last.room; rest = rest })) (last_turns total numbered last.rest)) (visit_of total room text)

-- ---- lines with a number

-- a number, and what stands behind it
abbrev pub count_behind : ℕ × Bor (List ℕ) → ℕ × List ℕ
count_behind parts = (parts.0, parts.1.now)

-- the line `turns COUNT`, of which the first word is known
abbrev pub turns_line : List ℕ → Option (ℕ × List ℕ)
turns_line text = option_and_then (λ rest. option_and_then (λ word. option_map (λ count. (count, rest)) (number_of word)) (behind 32 (before 10 text))) (behind 10 text)

-- the line `connections COUNT`
abbrev pub connections_line : List ℕ → Option (ℕ × List ℕ)
connections_line text =
    option_and_then (λ rest. option_and_then (λ word. if bytes_eq (word_of text) (codes "connections") then option_map (λ count. (count, rest)) (some_number word) else None) (behind 32 (before 10 text))) (behind 10 text)

-- the line `end`
abbrev pub end_line : List ℕ → Option (List ℕ)
end_line text = option_and_then (λ rest. if bytes_eq (before 10 text) (codes "end") then Some rest else None) (behind 10 text)

-- nothing stands behind
abbrev pub nothing : Unit {0} → List ℕ
nothing done = []

-- a record without its connections: turns
abbrev pub turns_seen : Vec (ℕ × Turn) Global → List (ℕ × Turn)
turns_seen turns = turns.items

-- the turns, their number in front and the end behind them
abbrev pub moves_of : ℕ → Bool → ℕ → List ℕ → Result (List (ℕ × Turn)) Refusal
moves_of total numbered connections text =
    and_then (λ count. and_then (λ turns. and_then (λ rest. Ok turns.0) (end_of total turns.1)) (turns_of total numbered connections count.0 count.1)) (turn_count total text)

-- ---- what callers see

-- the refusal, where it is one; want of memory says nothing
abbrev pub Refuses : Result Recorded Refusal → RecFault → Type 0
Refuses said (faults.Refused place kind) = said ≡ Err (record { place = place; kind = kind })
Refuses said faults.OutOfMemory = ⊤
