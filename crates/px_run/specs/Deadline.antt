-- When a connection has waited too long. Times are in milliseconds since the start.
use Rattle.std.specs.Prelude.{◌≡◌, ℕ, ◌+◌, ◌^◌, ◌≤◌, ◌⊎◌, Bool, false, ◌==◌, nat_lt, nat_le, if◌then◌else◌, List, [], ◌∷◌, Option, Some, None, ⊤}
use Rattle.std.specs.List.{AllByRecursion}
use Rattle.session_core.specs.declared.machine.Wants.{Wants}
use Rattle.px_run.specs.declared.deadline.Phase.{Phase}
use Rattle.px_run.specs.declared.deadline.Phase.TheVariants as phase
use Rattle.px_run.specs.declared.deadline.Times.{Times}
use Rattle.px_run.specs.declared.deadline.Marks.{Marks}
use Rattle.px_run.specs.declared.deadline.Call.{Call}
use Rattle.px_run.specs.declared.deadline.Call.TheVariants as call

-- this time, or the other where it is 0
abbrev pub time_or : ℕ → ℕ → ℕ
time_or time other = if time == 0 then other else time

-- What is waited for is over so long behind this moment. A time of 0 has no end, and neither has one that no number of the clock reaches.
abbrev pub due : (waits : Bool) → (from time : ℕ) → Option ℕ
due waits from time = if waits then (if time == 0 then None else (if nat_lt (from + time) (2 ^ 64) then Some (from + time) else None)) else None

-- the sooner of two
abbrev pub sooner : Option ℕ → Option ℕ → Option ℕ
sooner None other = other
sooner (Some at) None = Some at
sooner (Some at) (Some other) = if nat_le at other then Some at else Some other

-- it has come
abbrev pub is_due : (now : ℕ) → Option ℕ → Bool
is_due now None = false
is_due now (Some at) = nat_le at now

-- The head that is waited for: `timeout http-request` for the first one and for one that has begun, which no byte renews; `timeout http-keep-alive` for
-- a later one of which nothing has come. A line that is missing leaves the next one in its place (Configuration Manual 4.2).
abbrev pub head_due : Wants → Phase → Times → Marks → Option ℕ
head_due wants phase.First times marks = due wants.client_read marks.accepted (time_or times.http_request times.client)
head_due wants phase.Kept times marks = due wants.client_read marks.answered (time_or times.http_keep_alive (time_or times.http_request times.client))
head_due wants phase.Head times marks = due wants.client_read marks.head times.http_request
head_due wants phase.Exchange times marks = None

-- the next bytes of a head that has begun, or of a body: `timeout client`
abbrev pub bytes_due : Wants → Phase → Times → Marks → Option ℕ
bytes_due wants phase.First times marks = None
bytes_due wants phase.Kept times marks = None
bytes_due wants phase.Head times marks = due wants.client_read marks.client_read times.client
bytes_due wants phase.Exchange times marks = due wants.client_read marks.client_read times.client

-- a call that is waited for, and when it fails
pub record Row : Type 0 where
  pub call : Call
  pub at : Option ℕ

abbrev pub row : Call → Option ℕ → Row
row call at = record { call = call; at = at }

-- The table: what is waited for has its time, and all of them run side by side. A server's calls stand before its client's.
abbrev pub rows_of : Wants → Phase → Times → Marks → List Row
rows_of wants phase times marks =
    row call.Connect (due wants.server_open marks.connect times.connect)
    ∷ row call.ServerRead (due wants.server_read marks.server times.server)
    ∷ row call.ServerWrite (due wants.server_write marks.server times.server)
    ∷ row call.ClientWrite (due wants.client_write marks.client_write times.client)
    ∷ row call.ClientRead (head_due wants phase times marks)
    ∷ row call.ClientRead (bytes_due wants phase times marks)
    ∷ []

-- one of them is over at this time
abbrev pub IsOneOf : (at : ℕ) → List Row → Type 0
IsOneOf at [] = ⊥
IsOneOf at (row ∷ rows) = (row.at ≡ Some at) ⊎ IsOneOf at rows

-- it isn't over before this time
abbrev pub IsNotBefore : (at : ℕ) → Option ℕ → Type 0
IsNotBefore at None = ⊤
IsNotBefore at (Some other) = at ≤ other

-- the first time at which one of them is over; none where none of them ends
abbrev pub IsLeast : Option ℕ → List Row → Type 0
IsLeast None rows = AllByRecursion (λ (row : Row). row.at ≡ None) rows
IsLeast (Some at) rows = IsOneOf at rows × AllByRecursion (λ (row : Row). IsNotBefore at row.at) rows

-- the first of them that is over
abbrev pub first_due : (now : ℕ) → List Row → Option Call
first_due now [] = None
first_due now (row ∷ rows) = if is_due now row.at then Some row.call else first_due now rows
