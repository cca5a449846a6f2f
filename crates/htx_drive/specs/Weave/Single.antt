-- A connection between two of its acts, each of which is done by its own.
use Rattle.std.specs.Prelude.{ℕ, List, Bool, Option, Result, Ok, Err}
use Rattle.session_model.specs.Meaning.{Meaning}
use Rattle.session_core.specs.History.{Past}
use Rattle.px_link.specs.declared.turns.Turn.{Turn}
use Rattle.px_link.specs.Link.{Seen}
use Rattle.px_link.specs.Net.{Place, NetSeen}
use Rattle.htx_drive.specs.Machine.{CoreSeen}
use Rattle.htx_drive.specs.Turned.{WorkedIn}
use Rattle.htx_drive.specs.Underway.{Runs, Stopped, LeftSo}

-- its core has worked, and what it wants is to be done next: these turns are ahead of it, and it has paid so much
abbrev pub Working : {C L : Type 0} → (stands : C → Past → Type 0) → (sees : C → CoreSeen) → (all ahead : List Turn) → C → (seen : L → Seen) → (wrote : L → List ℕ → Type 0) → (first client : L) → (server : Option L) → Place → (first_net net : NetSeen) → (count : ℕ) → Type 0
Working stands sees all ahead core seen wrote first client server to first_net net count = Runs (WorkedIn stands sees all ahead count 0 core) seen wrote first client server to first_net net count

-- it can't go on: no link of a server is open any more, and its client's is still to be closed; whether a write to that failed
abbrev pub GivesUp : {C L : Type 0} → (M : Meaning) → (stands : C → Past → Type 0) → (sees : C → CoreSeen) → (all : List Turn) → C → (seen : L → Seen) → (wrote : L → List ℕ → Type 0) → (first client : L) → Place → (first_net net : NetSeen) → (count : ℕ) → (failed : Bool) → Type 0
GivesUp M stands sees all core seen wrote first client to first_net net count failed = (left : List Turn) × Stopped (LeftSo M stands sees all left count core failed) seen wrote first client failed to first_net net count

-- A behind success, and B where it wanted memory
abbrev pub OrGivesUp : {T E : Type 0} → Result T E → (A B : Type 0) → Type 0
OrGivesUp (Ok done) A B = A
OrGivesUp (Err fault) A B = B
