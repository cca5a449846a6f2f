-- The entries of a record as links that are to come, and the turns of one connection.
use Rattle.std.specs.Prelude.{ℕ, ◌≤◌, ◌==◌, List, map, filter, length, sum_by, true, Option, Some, None, option_map}
use Rattle.px_link.specs.Net.{Coming}
use Rattle.px_link.specs.MemLink.{limit_of}
use Rattle.px_link.specs.declared.turns.Turn.{Turn}
use Rattle.htx_drive.specs.Budget.{enough}
use Rattle.rec_format.specs.Entries.{ServerEntry}
use Rattle.rec_format.specs.Recorded.{Visit}

-- a server's link
abbrev pub coming_of : ServerEntry → Coming
coming_of entry = record { bytes = entry.stream.bytes; ending = entry.stream.ending; plain = true; takes = limit_of entry.takes }

-- the answer to a connect: a link, or none for a refused one
abbrev pub answer_of : Option ServerEntry → Option Coming
answer_of entry = option_map coming_of entry

-- how many bytes a server gives
abbrev pub size_of : Option ServerEntry → ℕ
size_of None = 0
size_of (Some entry) = length entry.stream.bytes

-- the turns of the connection of this number, in their order
abbrev pub turns_of : (owner : ℕ) → List (ℕ × Turn) → List Turn
turns_of owner turns = map (λ (t : ℕ × Turn). t.1) (filter (λ (t : ℕ × Turn). t.0 == owner) turns)

-- what a connection needs of a budget, by its bytes, with buffers of this size; the client's bytes stand in the place of its requests
abbrev pub needed_by : Visit → (bufsize : ℕ) → ℕ
needed_by visit bufsize = enough (length visit.client.bytes) (sum_by size_of visit.servers) (length visit.client.bytes) bufsize

-- this budget is enough for a connection
abbrev pub IsEnough : Visit → (bufsize budget : ℕ) → Type 0
IsEnough visit bufsize budget = needed_by visit bufsize ≤ budget
