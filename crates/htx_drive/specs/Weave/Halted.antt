-- A connection behind a fault, before it is left.
use Rattle.std.specs.Prelude.{◌≡◌, ℕ, ◌+◌, ◌<◌, ◌⊎◌, suc, List, length, get_or, slice_get, drop, true, false, is_some, Bool, Option, Some, None, Result}
use Rattle.std.specs.List.{sum_by}
use Rattle.session_model.specs.Meaning.{Meaning}
use Rattle.session_core.specs.History.{Past}
use Rattle.px_link.specs.declared.turns.Turn.{Turn}
use Rattle.px_link.specs.Link.{Seen}
use Rattle.px_link.specs.Net.{Place, NetSeen}
use Rattle.px_pool.specs.Seats.{Seats}
use Rattle.htx_drive.specs.Machine.{CoreSeen}
use Rattle.htx_drive.specs.Replay.Memory.{turns_of}
use Rattle.htx_drive.specs.Underway.{Stopped, LeftSo}
use Rattle.htx_drive.specs.declared.Ran.{Ran}
use Rattle.htx_drive.specs.declared.SessionFault.{SessionFault}
use Rattle.htx_drive.specs.Weave.Woven.{Going}
use Rattle.htx_drive.specs.Weave.State.{Done}
use Rattle.htx_drive.specs.Weave.All.{AllAt}
use Rattle.htx_drive.specs.declared.weave.conn.Conn.{Conn}

-- nothing of it was touched
pub record Unbegun {L : Type 0} (first client : L) (server : Option L) (first_net net : NetSeen) (count : ℕ) : Type 0 where
  pub same_client : client ≡ first
  pub same_net : net ≡ first_net
  pub no_server : server ≡ None
  pub paid_none : count ≡ 0

-- its session is under way
pub record Begun {C L : Type 0} (stands : C → Past → Type 0) (sees : C → CoreSeen) (turns : List Turn) (seen : L → Seen) (wrote : L → List ℕ → Type 0) (first client : L) (server : Option L) (to : Place) (first_net net : NetSeen) (count : ℕ) : Type 0 where
  pub waited : ℕ
  pub ahead : List Turn
  pub core : C
  pub going : Going stands sees (drop waited turns) ahead core seen wrote first client server to first_net net count

-- it found no memory: the link of a server is closed and kept, and its client's is still open
pub record Unroomed {C L : Type 0} (M : Meaning) (stands : C → Past → Type 0) (sees : C → CoreSeen) (turns : List Turn) (seen : L → Seen) (wrote : L → List ℕ → Type 0) (first client : L) (server : Option L) (to : Place) (first_net net : NetSeen) (count : ℕ) : Type 0 where
  pub waited : ℕ
  pub left : List Turn
  pub core : C
  pub no_server : server ≡ None
  pub stopped : Stopped (LeftSo M stands sees (drop waited turns) left count core false) seen wrote first client false to first_net net count

-- by what it came to
abbrev pub Halted : {C L : Type 0} → (M : Meaning) → (stands : C → Past → Type 0) → (sees : C → CoreSeen) → (turns : List Turn) → (seen : L → Seen) → (wrote : L → List ℕ → Type 0) → (first client : L) → (server : Option L) → Place → (first_net net : NetSeen) → Option (Result Ran SessionFault) → (count : ℕ) → Type 0
Halted M stands sees turns seen wrote first client server to first_net net None count =
    Unbegun first client server first_net net count
    ⊎ (Begun stands sees turns seen wrote first client server to first_net net count ⊎ Unroomed M stands sees turns seen wrote first client server to first_net net count)
Halted M stands sees turns seen wrote first client server to first_net net (Some ran) count = Done M stands sees turns seen wrote first client server to first_net net ran count

-- each is so, and what all paid and what is left is the budget
pub record AllHalted {C L N : Type 0} (M : Meaning) (stands : C → Past → Type 0) (sees : C → CoreSeen) (seen : L → Seen) (wrote : L → List ℕ → Type 0) (sees_net : N → NetSeen) (to : Place) (turns : List (ℕ × Turn)) (firsts conns : List (Conn L N)) (budget spare : ℕ) : Type 0 where
  pub counts : List ℕ
  pub counted : length counts ≡ length conns
  pub each : (place : ℕ) (first conn : Conn L N) → slice_get firsts place ≡ Some first → slice_get conns place ≡ Some conn
      → Halted M stands sees (turns_of (suc place) turns) seen wrote first.client conn.client conn.server to (sees_net first.net) (sees_net conn.net) conn.ran (get_or counts place 0)
  pub paid : sum_by (λ (n : ℕ). n) counts + spare ≡ budget

-- from their places to there
abbrev pub HaltsAll : {S C L N : Type 0} → (meaning : S → Meaning) → (stands : S → C → Past → Type 0) → (sees : C → CoreSeen) → (sound : C → Type 0) → (seen : L → Seen) → (wrote : L → List ℕ → Type 0) → (sees_net : N → NetSeen) → Place → (left : List (ℕ × Turn)) → (old new : List (Conn L N)) → (old_pool : Seats C) → (before after : ℕ) → Type 0
HaltsAll {S = S} {L = L} {N = N} meaning stands sees sound seen wrote sees_net to left old new old_pool before after =
    (cfg : S) (prompt : Bool) (turns : List (ℕ × Turn)) (firsts : List (Conn L N)) (budget : ℕ) → AllAt (meaning cfg) (stands cfg) sees sound seen wrote sees_net to prompt turns left firsts old old_pool budget before
    → AllHalted (meaning cfg) (stands cfg) sees seen wrote sees_net to turns firsts new budget after

-- of a server's link that is open, its net knows that it was lent
abbrev pub IsLent : {L : Type 0} → (server : Option L) → (lent : ℕ) → Type 0
IsLent server lent = is_some server ≡ true → 0 < lent

abbrev pub AllLent : {L N : Type 0} → (sees_net : N → NetSeen) → List (Conn L N) → Type 0
AllLent {L = L} {N = N} sees_net conns = (place : ℕ) (conn : Conn L N) → slice_get conns place ≡ Some conn → conn.ran ≡ None → IsLent conn.server (sees_net conn.net).lent
