-- A session under way: where its links stand between two of its steps, with no call that runs it; and what a turn, exchanges and a step come to.
use Rattle.std.specs.Prelude.{◌≡◌, ℕ, ◌+◌, ◌≤◌, List, [], Bool, true, false, Option, Some, None, Result, ⊤}
use Rattle.std.specs.List.{AllByRecursion}
use Rattle.px_link.specs.declared.turns.Turn.{Turn}
use Rattle.px_link.specs.Turns.{rest_of}
use Rattle.px_link.specs.Link.{Seen}
use Rattle.px_link.specs.Net.{Place, NetSeen, Connected}
use Rattle.session_core.specs.History.{Past, Connect}
use Rattle.session_core.specs.declared.machine.Wants.{Wants}
use Rattle.htx_drive.specs.Driven.{Idle, Hand, Rests, IsOver, Left, Ends, moved, paid_by, paid_more}
use Rattle.htx_drive.specs.Turned.{StandsIn, WorkedIn, FailsIn}
use Rattle.session_model.specs.Meaning.{Meaning}
use Rattle.htx_drive.specs.Machine.{CoreSeen}
use Rattle.htx_drive.specs.Dialled.{Goes, Dials}
use Rattle.htx_drive.specs.declared.SessionFault.{SessionFault}
use Rattle.htx_drive.specs.declared.step.Did.{Did}
use Rattle.htx_drive.specs.declared.step.Did.TheVariants as did

-- no server is open
pub record Idles {L : Type 0} (S : Past → Type 0) (seen : L → Seen) (wrote : L → List ℕ → Type 0) (first client : L) (to : Place) (first_net net : NetSeen) (past : Past) : Type 0 where
  pub idle : Idle (Rests S) seen wrote first client false past
  pub dials : Dials to first_net net past.connects

-- one is, over a link that was lent for it; the connects before it are over
pub record Opens {L : Type 0} (S : Past → Type 0) (seen : L → Seen) (wrote : L → List ℕ → Type 0) (first client link : L) (to : Place) (first_net net : NetSeen) (past : Past) : Type 0 where
  pub lent : L
  pub before : List Connect
  pub c : Connect
  pub prior : NetSeen
  pub hand : Hand S seen wrote first client lent link false before past c
  pub over : AllByRecursion IsOver before
  pub dials : Dials to first_net prior before
  pub connected : Connected prior net to (seen lent) (wrote lent [])

abbrev pub Underway : {L : Type 0} → (Past → Type 0) → (L → Seen) → (L → List ℕ → Type 0) → (first client : L) → (server : Option L) → Place → (first_net net : NetSeen) → Past → Type 0
Underway S seen wrote first client None to first_net net past = Idles S seen wrote first client to first_net net past
Underway S seen wrote first client (Some link) to first_net net past = Opens S seen wrote first client link to first_net net past

-- there is a past for which it is so, and that moved at least so much
pub record Runs {L : Type 0} (S : Past → Type 0) (seen : L → Seen) (wrote : L → List ℕ → Type 0) (first client : L) (server : Option L) (to : Place) (first_net net : NetSeen) (count : ℕ) : Type 0 where
  pub past : Past
  pub under : Underway S seen wrote first client server to first_net net past
  pub more : count ≤ moved past

-- it was given up: no server's link is open any more; whether a write to the client failed
pub record Stopped {L : Type 0} (S : Past → Type 0) (seen : L → Seen) (wrote : L → List ℕ → Type 0) (first client : L) (failed : Bool) (to : Place) (first_net net : NetSeen) (count : ℕ) : Type 0 where
  pub past : Past
  pub idle : Idle S seen wrote first client failed past
  pub dials : Dials to first_net net past.connects
  pub more : count ≤ moved past

-- What is left of a core behind a fault; one that couldn't write to its client stands for its history.
pub record LeftSo {C : Type 0} (M : Meaning) (stands : C → Past → Type 0) (seen : C → CoreSeen) (turns left : List Turn) (budget : ℕ) (core : C) (failed : Bool) (past : Past) : Type 0 where
  pub left_core : Left M stands seen turns left budget 0 core past
  pub stand : failed ≡ true → stands core past

-- the turns that are left behind a step
abbrev pub ahead_of : Did → List Turn → List Turn
ahead_of (did.Over end) ahead = ahead
ahead_of did.Opened ahead = ahead
ahead_of did.Closed ahead = ahead
ahead_of (did.Turned moved) ahead = rest_of ahead

-- what a step pays: one for an opening, and one for a turn that moved something
abbrev pub paid_with : Did → ℕ → ℕ
paid_with (did.Over end) count = count
paid_with did.Opened count = 1 + count
paid_with did.Closed count = count
paid_with (did.Turned moved) count = paid_more moved count

-- where it says that the session is over, it is
abbrev pub OverSays : Did → Wants → Type 0
OverSays (did.Over end) wants = wants.over ≡ Some end
OverSays did.Opened wants = ⊤
OverSays did.Closed wants = ⊤
OverSays (did.Turned moved) wants = ⊤

-- behind the list each turn moves something
abbrev pub MovesBehind : Option Turn → Did → Type 0
MovesBehind turn (did.Turned moved) = turn ≡ None → moved ≡ true
MovesBehind turn (did.Over end) = ⊤
MovesBehind turn did.Opened = ⊤
MovesBehind turn did.Closed = ⊤

-- ---- what they come to

-- what holds of a core and a past, by what it stands for and how it is seen, by all turns and those left, and by a budget and what is left of it
abbrev pub StateOf : Type 0 → Type 1
StateOf C = (C → Past → Type 0) → (C → CoreSeen) → (all left : List Turn) → (budget spare : ℕ) → C → Past → Type 0

-- from a core that has worked a turn leads to G: where it moved something it is paid for, and behind a fault it may be the one that failed
abbrev pub TakesOne : {C : Type 0} → Result Bool SessionFault → (C → Past → Type 0) → (C → CoreSeen) → (all ahead left : List Turn) → (budget spare : ℕ) → (old new : C) → (before : (Past → Type 0) → Type 0) → ((Past → Type 0) → (failed : Bool) → (had has : ℕ) → Type 0) → Type 0
TakesOne result stands seen all ahead left budget spare old new before G =
    before (WorkedIn stands seen all ahead budget spare old)
    → Ends result (λ moved. G (StandsIn stands seen all left (paid_more moved budget) spare new) false (paid_by moved) 0) (λ failed. G (FailsIn stands seen all left budget spare new) failed 0 0)

-- G of A of the core behind success, and of B of it behind a fault, with whether a write to the client failed
abbrev pub ComesTo : {C T : Type 0} → Result T SessionFault → (A B : StateOf C) → (C → Past → Type 0) → (C → CoreSeen) → (all left : List Turn) → (budget spare : ℕ) → C → ((Past → Type 0) → Bool → Type 0) → Type 0
ComesTo result A B stands seen all left budget spare core G = Ends result (λ _. G (A stands seen all left budget spare core) false) (λ failed. G (B stands seen all left budget spare core) failed)

-- a core stands for a past whose connects are over, and turns led to it
abbrev pub RestsIn : {C : Type 0} → StateOf C
RestsIn stands seen all left budget spare core = Rests (StandsIn stands seen all left budget spare core)

-- the same of a core that has worked
abbrev pub RestsWorked : {C : Type 0} → StateOf C
RestsWorked stands seen all left budget spare core = Rests (WorkedIn stands seen all left budget spare core)

-- from A of a core whose client and net are tied to the past exchanges lead to B of the core behind them, or to what is left of it
abbrev pub Exchanges : {S C L N T : Type 0} → Result T SessionFault → (A B : StateOf C) → (S → Meaning) → (S → C → Past → Type 0) → (C → CoreSeen) → (L → Seen) → (L → List ℕ → Type 0) → (N → NetSeen) → Place → (old new : C) → (client client_behind : L) → (net net_behind : N) → (ahead left : List Turn) → (had has : ℕ) → Type 0
Exchanges {S = S} {L = L} {N = N} result A B meaning stands seen sees wrote sees_net to old new client client_behind net net_behind ahead left had has =
    (cfg : S) (all : List Turn) (budget : ℕ) (first : L) (first_net : N) (past : Past) → Idle (A (stands cfg) seen all ahead budget had old) sees wrote first client false past → Dials to (sees_net first_net) (sees_net net) past.connects
    → ComesTo result B (Left (meaning cfg)) (stands cfg) seen all left budget has new (λ T failed. Goes T sees wrote first client_behind failed to (sees_net first_net) (sees_net net_behind) past had has)

-- the session goes on behind what was done, with this server's link, or it was given up with these turns left
abbrev pub StepsTo : {C L T : Type 0} → Result T SessionFault → (T → Did) → (T → Option L) → Meaning → (C → Past → Type 0) → (C → CoreSeen) → (all ahead left : List Turn) → C → (L → Seen) → (L → List ℕ → Type 0) → (first client : L) → Place → (first_net net : NetSeen) → ℕ → Type 0
StepsTo result did server M stands seen all ahead left core sees wrote first client to first_net net count =
    Ends result (λ x. Runs (StandsIn stands seen all (ahead_of (did x) ahead) (paid_with (did x) count) 0 core) sees wrote first client (server x) to first_net net (paid_with (did x) count)) (λ failed. Stopped (LeftSo M stands seen all left count core failed) sees wrote first client failed to first_net net count)

-- from a session under way a step leads to one that goes on behind what was done, with this server's link, or that was given up
abbrev pub Steps : {C L T : Type 0} → Result T SessionFault → (T → Did) → (T → Option L) → Meaning → (C → Past → Type 0) → (C → CoreSeen) → (all ahead : List Turn) → (old new : C) → (L → Seen) → (L → List ℕ → Type 0) → (first client behind : L) → Option L → Place → (first_net net net_behind : NetSeen) → ℕ → Type 0
Steps result did server M stands seen all ahead old new sees wrote first client behind held to first_net net net_behind count =
    Runs (StandsIn stands seen all ahead count 0 old) sees wrote first client held to first_net net count
    → Ends result (λ x. Runs (StandsIn stands seen all (ahead_of (did x) ahead) (paid_with (did x) count) 0 new) sees wrote first behind (server x) to first_net net_behind (paid_with (did x) count))
    (λ failed. (left : List Turn) × Stopped (LeftSo M stands seen all left count new failed) sees wrote first behind failed to first_net net_behind count)
