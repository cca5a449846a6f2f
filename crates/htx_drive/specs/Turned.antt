-- What a list of turns makes of a session: each turn moves at most its number of bytes.
use Rattle.std.specs.Prelude.{◌≡◌, ℕ, ◌+◌, ◌<◌, ◌≤◌, List, length, Bool, true, false, ⊤}
use Rattle.px_link.specs.declared.turns.Turn.{Turn}
use Rattle.px_link.specs.Turns.{first_of, rest_of}
use Rattle.session_core.specs.History.{Event, FromClient, ClientEnded, ClientTook, ServerOpened, FromServer, ServerEnded, ServerTook, ServerStopped, ServerClosed, Work, Past, nothing_yet, after}
use Rattle.htx_drive.specs.Acts.{act_of, is_nothing, is_write, TakesTurn}
use Rattle.htx_drive.specs.Machine.{CoreSeen}
use Rattle.htx_drive.specs.declared.act.Act.{Act}
use Rattle.htx_drive.specs.declared.act.Act.TheVariants as act

-- at least a byte, and at most so many
abbrev pub IsUpTo : ℕ → List ℕ → Type 0
IsUpTo most bytes = (0 < length bytes) × (length bytes ≤ most)

-- the most bytes that one read of a client asks for, and one of a server
abbrev pub most_of_client : ℕ
most_of_client = 16376

abbrev pub most_of_server : ℕ
most_of_server = 65536

-- what one read brings, of which none asks for more than the limit
abbrev pub IsRead : (limit most : ℕ) → List ℕ → Type 0
IsRead limit most bytes = IsUpTo most bytes × (length bytes ≤ limit)

-- What an act may add to a history: bytes that come or are taken, at least one and no more than its number, nor than a read asks for; or a stream
-- ends, or a server stops.
abbrev pub Makes : Act → Event → Type 0
Makes (act.ClientRead most) (FromClient bytes) = IsRead most_of_client most bytes
Makes (act.ClientRead most) (ClientEnded how) = ⊤
Makes (act.ClientWrite most) (ClientTook bytes) = IsUpTo most bytes
Makes (act.ServerRead most) (FromServer bytes) = IsRead most_of_server most bytes
Makes (act.ServerRead most) (ServerEnded how) = ⊤
Makes (act.ServerWrite most) (ServerTook bytes) = IsUpTo most bytes
Makes (act.ServerWrite most) ServerStopped = ⊤
Makes _ _ = ⊥

-- what takes no turn: the core works, a server is opened or refused, its link is closed
abbrev pub takes_no_turn : Event → Bool
takes_no_turn (ServerOpened _) = true
takes_no_turn ServerClosed = true
takes_no_turn (Work _) = true
takes_no_turn _ = false

-- an opening takes one of the budget, as a turn does that moves something
abbrev pub and_opening : Event → ℕ → ℕ
and_opening (ServerOpened _) count = 1 + count
and_opening _ count = count

abbrev pub is_work : Event → Bool
is_work (Work _) = true
is_work _ = false

-- These turns led to this past, one after another, and those are left; `worked` where the core has worked behind the last event. Each is taken where
-- a core that stands for the past so far has worked, wants bytes to be moved and nothing to be opened or closed. It does what that core's wants make of
-- it (`act_of`): it moves something, no more than its number of bytes and for a read no more than one asks for, or it moves nothing where it is to do
-- nothing. Behind the list each takes the first want that stands.
pub data InTurns {C : Type 0} (stands : C → Past → Type 0) (seen : C → CoreSeen) (turns : List Turn) : (worked : Bool) → List Turn → Past → Type 0 where
  starts : InTurns stands seen turns false turns nothing_yet
  takes_none : (worked : Bool) (left : List Turn) (past : Past) (event : Event) → takes_no_turn event ≡ true → InTurns stands seen turns worked left past
      → InTurns stands seen turns (is_work event) left (after past event)
  rests : (left : List Turn) (past : Past) (core : C) → stands core past → TakesTurn (seen core).wants → is_nothing (act_of (first_of left) (seen core).wants) ≡ true
      → InTurns stands seen turns true left past → InTurns stands seen turns true (rest_of left) past
  moves : (left : List Turn) (past : Past) (core : C) (event : Event) → stands core past → TakesTurn (seen core).wants → Makes (act_of (first_of left) (seen core).wants) event
      → InTurns stands seen turns true left past → InTurns stands seen turns false (rest_of left) (after past event)

-- how many openings and turns that moved something led there: each is one, whatever the number of its bytes
abbrev pub turns_in : {C : Type 0} {stands : C → Past → Type 0} {seen : C → CoreSeen} {turns : List Turn} {worked : Bool} {left : List Turn} {past : Past} → InTurns stands seen turns worked left past → ℕ
turns_in starts = 0
turns_in (takes_none worked left past event none before) = and_opening event (turns_in before)
turns_in (rests left past core stand takes nothing before) = turns_in before
turns_in (moves left past core event stand takes makes before) = 1 + turns_in before

-- The same, where the last turn may have failed: it was a write, and moved nothing.
pub data UpToAFault {C : Type 0} (stands : C → Past → Type 0) (seen : C → CoreSeen) (turns left : List Turn) (past : Past) : Type 0 where
  none_failed : (worked : Bool) → InTurns stands seen turns worked left past → UpToAFault stands seen turns left past
  last_failed : (before : List Turn) (core : C) → left ≡ rest_of before → stands core past → TakesTurn (seen core).wants → is_write (act_of (first_of before) (seen core).wants) ≡ true
      → InTurns stands seen turns true before past → UpToAFault stands seen turns left past

-- a turn that failed moved nothing
abbrev pub turns_up_to : {C : Type 0} {stands : C → Past → Type 0} {seen : C → CoreSeen} {turns left : List Turn} {past : Past} → UpToAFault stands seen turns left past → ℕ
turns_up_to (none_failed worked before) = turns_in before
turns_up_to (last_failed before core rest stand takes write turned) = turns_in turned

-- So many turns led to this past: each is an opening, or moved at least a byte, an ending or a stop, as one act does (`Makes`). Between them a core worked and
-- links were closed.
pub data LedIn : ℕ → Past → Type 0 where
  none_yet : LedIn 0 nothing_yet
  took_none : (count : ℕ) (past : Past) (event : Event) → takes_no_turn event ≡ true → LedIn count past → LedIn (and_opening event count) (after past event)
  moved_one : (count : ℕ) (past : Past) (did : Act) (event : Event) → Makes did event → LedIn count past → LedIn (1 + count) (after past event)

-- at least so many turns led to this past
abbrev pub LedInAtLeast : ℕ → Past → Type 0
LedInAtLeast least past = (count : ℕ) × (least ≤ count) × LedIn count past

-- A core stands for the past, and turns led to it. Of this budget so much is left, and each of the rest was for one of them that moved something.
pub record StandsIn {C : Type 0} (stands : C → Past → Type 0) (seen : C → CoreSeen) (turns left : List Turn) (budget spare : ℕ) (core : C) (past : Past) : Type 0 where
  pub stand : stands core past
  pub worked : Bool
  pub turned : InTurns stands seen turns worked left past
  pub paid : budget ≤ turns_in turned + spare

-- the same of a core that has worked
pub record WorkedIn {C : Type 0} (stands : C → Past → Type 0) (seen : C → CoreSeen) (turns left : List Turn) (budget spare : ℕ) (core : C) (past : Past) : Type 0 where
  pub stand : stands core past
  pub turned : InTurns stands seen turns true left past
  pub paid : budget ≤ turns_in turned + spare

-- the same up to a fault
pub record FailsIn {C : Type 0} (stands : C → Past → Type 0) (seen : C → CoreSeen) (turns left : List Turn) (budget spare : ℕ) (core : C) (past : Past) : Type 0 where
  pub stand : stands core past
  pub turned : UpToAFault stands seen turns left past
  pub paid : budget ≤ turns_up_to turned + spare
