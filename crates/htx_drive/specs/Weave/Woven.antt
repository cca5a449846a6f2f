-- What a connection of many comes to, and what it pays of the budget that all share.
use Rattle.std.specs.Prelude.{◌≡◌, ℕ, ◌+◌, ◌<◌, ◌≤◌, List, Bool, Option, Some, None, ⊤}
use Rattle.http_model.specs.declared.Close.TheVariants.{Failed}
use Rattle.session_model.specs.Meaning.{Meaning}
use Rattle.session_core.specs.History.{Past}
use Rattle.session_core.specs.declared.machine.Wants.{Wants}
use Rattle.px_link.specs.declared.turns.Turn.{Turn}
use Rattle.px_link.specs.Turns.{rest_of}
use Rattle.px_link.specs.Link.{Seen, closed_by}
use Rattle.px_link.specs.Net.{Place, NetSeen, Keeps}
use Rattle.htx_drive.specs.Came.{Came, Put}
use Rattle.htx_drive.specs.Driven.{moved}
use Rattle.htx_drive.specs.Dialled.{Dials}
use Rattle.htx_drive.specs.Machine.{CoreSeen}
use Rattle.htx_drive.specs.Ran.{RanSo}
use Rattle.htx_drive.specs.Turned.{InTurns, StandsIn, turns_in}
use Rattle.htx_drive.specs.Underway.{Runs, LeftSo}
use Rattle.htx_drive.specs.declared.Ran.{Ran}
use Rattle.htx_drive.specs.declared.weave.moves.Moved.{Moved}
use Rattle.htx_drive.specs.declared.weave.moves.Moved.TheVariants as moves

-- the connection has paid so much that with what is left it comes to this total
pub record Pays (total left : ℕ) (P : ℕ → Type 0) : Type 0 where
  pub count : ℕ
  pub is : count + left ≡ total
  pub so : P count

-- its session is under way: these turns are ahead of it, and it has paid so much
abbrev pub Going : {C L : Type 0} → (stands : C → Past → Type 0) → (sees : C → CoreSeen) → (all ahead : List Turn) → C → (seen : L → Seen) → (wrote : L → List ℕ → Type 0) → (first client : L) → (server : Option L) → Place → (first_net net : NetSeen) → (count : ℕ) → Type 0
Going stands sees all ahead core seen wrote first client server to first_net net count = Runs (StandsIn stands sees all ahead count 0 core) seen wrote first client server to first_net net count

-- Its session is over, as a run of its own leaves it: these of its turns led there, and are left. It has paid so much, each for a turn or an opening
-- that moved something.
pub record EndedSo {C L : Type 0} (M : Meaning) (stands : C → Past → Type 0) (sees : C → CoreSeen) (all ahead : List Turn) (seen : L → Seen) (wrote : L → List ℕ → Type 0) (first client : L) (to : Place) (first_net net : NetSeen) (ran : Ran) (count : ℕ) : Type 0 where
  pub core : C
  pub so : RanSo M (stands core) seen wrote first client to first_net net ran
  pub worked : Bool
  pub turned : InTurns stands sees all worked ahead so.past
  pub paid : count ≤ turns_in turned + 0
  pub more : count ≤ moved so.past

-- It was given up: what was written is a front, each link that was still open is closed Failed, and a server's link is kept. Whether a write to the
-- client failed.
pub record GivenUp {C L : Type 0} (M : Meaning) (stands : C → Past → Type 0) (sees : C → CoreSeen) (all : List Turn) (seen : L → Seen) (wrote : L → List ℕ → Type 0) (first client : L) (failed : Bool) (to : Place) (first_net net : NetSeen) (count : ℕ) : Type 0 where
  pub core : C
  pub ahead : List Turn
  pub past : Past
  pub so : LeftSo M stands sees all ahead count core failed past
  pub came : Came (seen first) (seen client) past.client
  pub put : Put (wrote first) (wrote client) (seen first) (seen client) past.taken failed
  pub closed : (seen client).closed ≡ closed_by (seen first).closed Failed
  pub dials : Dials to first_net net past.connects
  pub more : count ≤ moved past

-- the turns that are ahead behind a move
abbrev pub ahead_behind : Moved → List Turn → List Turn
ahead_behind moves.Took ahead = rest_of ahead
ahead_behind (moves.Over end) ahead = ahead
ahead_behind moves.Spent ahead = ahead

-- where a move finds that the session is over, it is
abbrev pub OverIs : Moved → Wants → Type 0
OverIs moves.Took wants = ⊤
OverIs (moves.Over end) wants = wants.over ≡ Some end
OverIs moves.Spent wants = ⊤

-- where it finds that nothing is left, so it is
abbrev pub SpentIs : Moved → ℕ → Type 0
SpentIs moves.Took left = ⊤
SpentIs (moves.Over end) left = ⊤
SpentIs moves.Spent left = left ≡ 0

-- where it took its turn, and none was handed in, it took something of what was left
abbrev pub Lowers : Option Turn → Moved → (before left : ℕ) → Type 0
Lowers turn moves.Took before left = turn ≡ None → left < before
Lowers turn (moves.Over end) before left = ⊤
Lowers turn moves.Spent before left = ⊤

-- a server's link was closed Failed and kept, and without one nothing was done
pub record Shut {L : Type 0} (seen : L → Seen) (wrote : L → List ℕ → Type 0) (old new : NetSeen) (link : L) : Type 0 where
  pub shut : L
  pub is_seen : seen shut ≡ record (seen link) { closed = closed_by (seen link).closed Failed }
  pub written : (bytes : List ℕ) → wrote link bytes → wrote shut bytes
  pub keeps : Keeps (wrote shut) old new (seen shut)

abbrev pub Back : {L : Type 0} → (seen : L → Seen) → (wrote : L → List ℕ → Type 0) → (old new : NetSeen) → Option L → Type 0
Back seen wrote old new None = new ≡ old
Back seen wrote old new (Some link) = Shut seen wrote old new link
