-- A session that is driven: a past that is tied to its links and its net.
use Rattle.std.specs.Prelude.{◌≡◌, ℕ, ◌+◌, ◌<◌, ◌≤◌, List, [], ◌∷◌, ◌++◌, length, sum_by, Bool, true, false, None, is_some, if◌then◌else◌, Result, Ok, Err}
use Rattle.std.specs.List.{AllByRecursion}
use Rattle.session_model.specs.Meaning.{Meaning}
use Rattle.htx_drive.specs.Machine.{CoreSeen, TookFront}
use Rattle.htx_drive.specs.Turned.{Makes, UpToAFault, turns_up_to}
use Rattle.htx_drive.specs.declared.act.Act.{Act}
use Rattle.px_link.specs.declared.turns.Turn.{Turn}
use Rattle.session_core.specs.History.{Past, Coming, Connect, Event, after}
use Rattle.px_link.specs.Link.{Seen}
use Rattle.htx_drive.specs.Came.{Came, Put, size_of}
use Rattle.htx_drive.specs.declared.SessionFault.{SessionFault}
use Rattle.htx_drive.specs.declared.SessionFault.TheVariants as faults

-- ---- what moved

abbrev pub moved_by : Connect → ℕ
moved_by c = 1 + size_of c.stream + length c.taken + (if c.stopped then 1 else 0) + (if is_some c.closed then 1 else 0)

abbrev pub client_moved : Coming → List ℕ → ℕ
client_moved came taken = size_of came + length taken

-- the bytes, endings, openings, stops and closings of a history
abbrev pub moved : Past → ℕ
moved past = client_moved past.client past.taken + sum_by moved_by past.connects

-- ---- between exchanges

-- S holds of the past, and the client's link is tied to it; whether a write to the client failed
pub record Idle {L : Type 0} (S : Past → Type 0) (seen : L → Seen) (wrote : L → List ℕ → Type 0) (first client : L) (failed : Bool) (past : Past) : Type 0 where
  pub stand : S past
  pub came : Came (seen first) (seen client) past.client
  pub put : Put (wrote first) (wrote client) (seen first) (seen client) past.taken failed
  pub closed : (seen client).closed ≡ (seen first).closed

-- a connect that found a server is over: its link was closed
abbrev pub IsOver : Connect → Type 0
IsOver c = c.there ≡ true → is_some c.closed ≡ true

-- S holds of the past, and all of its connects are over
pub record Rests (S : Past → Type 0) (past : Past) : Type 0 where
  pub stand : S past
  pub over : AllByRecursion IsOver past.connects

-- the client gave or took something, as the act says
pub record ClientMoves {L : Type 0} (did : Act) (S : Past → Type 0) (seen : L → Seen) (wrote : L → List ℕ → Type 0) (first client : L) (past : Past) : Type 0 where
  pub came : Coming
  pub taken : List ℕ
  pub event : Event
  pub makes : Makes did event
  pub is : after past event ≡ record past { client = came; taken = taken }
  pub idle : Idle S seen wrote first client false (record past { client = came; taken = taken })
  pub more : client_moved past.client past.taken < client_moved came taken

-- client and past go on, with no connect made
pub record IdleGoes {L : Type 0} (S : Past → Type 0) (seen : L → Seen) (wrote : L → List ℕ → Type 0) (first client : L) (failed : Bool) (past : Past) (had has : ℕ) : Type 0 where
  pub now : Past
  pub idle : Idle S seen wrote first client failed now
  pub connects : now.connects ≡ past.connects
  pub more : moved past + had ≤ moved now + has

-- ---- an open server

pub record Linked {L : Type 0} (seen : L → Seen) (wrote : L → List ℕ → Type 0) (first link : L) (c : Connect) : Type 0 where
  pub there : c.there ≡ true
  pub unclosed : c.closed ≡ None
  pub came : Came (seen first) (seen link) c.stream
  pub put : Put (wrote first) (wrote link) (seen first) (seen link) c.taken c.stopped
  pub closed : (seen link).closed ≡ (seen first).closed

-- the server gave or took something, or stopped, as the act says
pub record ServerMoves {L : Type 0} (did : Act) (S : Past → Type 0) (seen : L → Seen) (wrote : L → List ℕ → Type 0) (first link : L) (before : List Connect) (past : Past) (c : Connect) : Type 0 where
  pub next : Connect
  pub event : Event
  pub makes : Makes did event
  pub is : after past event ≡ record past { connects = before ++ next ∷ [] }
  pub stand : S (record past { connects = before ++ next ∷ [] })
  pub linked : Linked seen wrote first link next
  pub more : moved_by c < moved_by next

-- both links are tied to the past
pub record Hand {L : Type 0} (S : Past → Type 0) (seen : L → Seen) (wrote : L → List ℕ → Type 0) (first client first_link link : L) (failed : Bool) (before : List Connect) (past : Past) (c : Connect) : Type 0 where
  pub idle : Idle S seen wrote first client failed past
  pub connects : past.connects ≡ before ++ c ∷ []
  pub linked : Linked seen wrote first_link link c

-- so they are still: of a budget that had so much so much is left, and what was spent was moved
pub record HandGoes {L : Type 0} (S : Past → Type 0) (seen : L → Seen) (wrote : L → List ℕ → Type 0) (first client first_link link : L) (failed : Bool) (before : List Connect) (past : Past) (had has : ℕ) : Type 0 where
  pub now : Past
  pub c : Connect
  pub hand : Hand S seen wrote first client first_link link failed before now c
  pub more : moved past + had ≤ moved now + has

-- ---- results

-- what is left of a core behind a fault: what was taken is a front, and a core that isn't lost stands for its history; up to the fault
-- turns led to it, and what isn't left of this budget was for them
pub record Left {C : Type 0} (M : Meaning) (stands : C → Past → Type 0) (seen : C → CoreSeen) (turns left : List Turn) (budget spare : ℕ) (core : C) (past : Past) : Type 0 where
  pub front : TookFront M past
  pub stand : (seen core).lost ≡ false → stands core past
  pub turned : UpToAFault stands seen turns left past
  pub paid : budget ≤ turns_up_to turned + spare

-- what a turn pays
abbrev pub paid_by : Bool → ℕ
paid_by true = 1
paid_by false = 0

-- so much, and what a turn pays
abbrev pub paid_more : Bool → ℕ → ℕ
paid_more true count = 1 + count
paid_more false count = count

abbrev pub failed_by : SessionFault → Bool
failed_by faults.ClientWrite = true
failed_by faults.Spent = false
failed_by faults.OutOfMemory = false

-- A behind success; behind a fault B, of whether a write to the client failed
abbrev pub Ends : {T : Type 0} → Result T SessionFault → (T → Type 0) → (Bool → Type 0) → Type 0
Ends (Ok x) A B = A x
Ends (Err fault) A B = B (failed_by fault)
