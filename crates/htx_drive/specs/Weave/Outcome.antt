-- What many connections come to, each by its own turns of those in the list, numbered from 1 in their order.
use Rattle.std.specs.Prelude.{◌≡◌, ℕ, ◌≤◌, ◌⊎◌, suc, List, length, get_or, slice_get, drop, false, Option, Some, None, Result}
use Rattle.std.specs.List.{AllByRecursion, sum_by}
use Rattle.http_model.specs.declared.Close.TheVariants.{Failed}
use Rattle.session_model.specs.Meaning.{Meaning}
use Rattle.session_core.specs.History.{Past}
use Rattle.px_link.specs.declared.turns.Turn.{Turn}
use Rattle.px_link.specs.Link.{Seen, with_close}
use Rattle.px_link.specs.Net.{Place, NetSeen}
use Rattle.htx_drive.specs.Machine.{CoreSeen}
use Rattle.htx_drive.specs.Replay.Memory.{turns_of}
use Rattle.htx_drive.specs.declared.Ran.{Ran}
use Rattle.htx_drive.specs.declared.SessionFault.{SessionFault}
use Rattle.htx_drive.specs.Weave.Woven.{GivenUp}
use Rattle.htx_drive.specs.Weave.State.{Done}
use Rattle.htx_drive.specs.declared.weave.conn.Conn.{Conn}
use Rattle.htx_drive.specs.declared.weave.fault.WeaveFault.{WeaveFault}
use Rattle.htx_drive.specs.declared.weave.fault.WeaveFault.TheVariants as faults

-- nothing has happened to them
abbrev pub AreNew : {L N : Type 0} → List (Conn L N) → Type 0
AreNew {L = L} {N = N} conns = AllByRecursion (λ (conn : Conn L N). (conn.server ≡ None) × (conn.ran ≡ None)) conns

-- ---- all ended

-- it has ended, and says how: as the session that its turns led to, or given up, since a write to its client failed
pub record HasEnded {C L N : Type 0} (M : Meaning) (stands : C → Past → Type 0) (sees : C → CoreSeen) (turns : List Turn) (seen : L → Seen) (wrote : L → List ℕ → Type 0) (sees_net : N → NetSeen) (to : Place) (first conn : Conn L N) : Type 0 where
  pub ran : Result Ran SessionFault
  pub is : conn.ran ≡ Some ran
  pub count : ℕ
  pub done : Done M stands sees turns seen wrote first.client conn.client conn.server to (sees_net first.net) (sees_net conn.net) ran count

-- each has ended, by its own turns
abbrev pub AllEnded : {C L N : Type 0} → (M : Meaning) → (stands : C → Past → Type 0) → (sees : C → CoreSeen) → (seen : L → Seen) → (wrote : L → List ℕ → Type 0) → (sees_net : N → NetSeen) → Place → List (ℕ × Turn) → (firsts conns : List (Conn L N)) → Type 0
AllEnded {L = L} {N = N} M stands sees seen wrote sees_net to turns firsts conns =
    (place : ℕ) (first conn : Conn L N) → slice_get firsts place ≡ Some first → slice_get conns place ≡ Some conn → HasEnded M stands sees (turns_of (suc place) turns) seen wrote sees_net to first conn

-- none of its turns waited
pub record EndedAtOnce {C L N : Type 0} (M : Meaning) (stands : C → Past → Type 0) (sees : C → CoreSeen) (turns : List Turn) (seen : L → Seen) (wrote : L → List ℕ → Type 0) (sees_net : N → NetSeen) (to : Place) (first conn : Conn L N) : Type 0 where
  pub ended : HasEnded M stands sees turns seen wrote sees_net to first conn
  pub at_once : ended.done.waited ≡ 0

abbrev pub AllEndedAtOnce : {C L N : Type 0} → (M : Meaning) → (stands : C → Past → Type 0) → (sees : C → CoreSeen) → (seen : L → Seen) → (wrote : L → List ℕ → Type 0) → (sees_net : N → NetSeen) → Place → List (ℕ × Turn) → (firsts conns : List (Conn L N)) → Type 0
AllEndedAtOnce {L = L} {N = N} M stands sees seen wrote sees_net to turns firsts conns =
    (place : ℕ) (first conn : Conn L N) → slice_get firsts place ≡ Some first → slice_get conns place ≡ Some conn → EndedAtOnce M stands sees (turns_of (suc place) turns) seen wrote sees_net to first conn

-- ---- behind a fault

-- nothing of it was touched, but for its client's link, which is closed Failed
pub record Untouched {L : Type 0} (seen : L → Seen) (wrote : L → List ℕ → Type 0) (first client : L) (first_net net : NetSeen) (count : ℕ) : Type 0 where
  pub closed : seen client ≡ with_close (seen first) Failed
  pub written : (bytes : List ℕ) → wrote first bytes → wrote client bytes
  pub same_net : net ≡ first_net
  pub paid_none : count ≡ 0

-- its session was under way, and no write to its client had failed: it was given up
pub record Dropped {C L : Type 0} (M : Meaning) (stands : C → Past → Type 0) (sees : C → CoreSeen) (turns : List Turn) (seen : L → Seen) (wrote : L → List ℕ → Type 0) (first client : L) (to : Place) (first_net net : NetSeen) (count : ℕ) : Type 0 where
  pub waited : ℕ
  pub so : GivenUp M stands sees (drop waited turns) seen wrote first client false to first_net net count

-- by what it came to
abbrev pub LeftAt : {C L : Type 0} → (M : Meaning) → (stands : C → Past → Type 0) → (sees : C → CoreSeen) → (turns : List Turn) → (seen : L → Seen) → (wrote : L → List ℕ → Type 0) → (first client : L) → (server : Option L) → Place → (first_net net : NetSeen) → Option (Result Ran SessionFault) → (count : ℕ) → Type 0
LeftAt M stands sees turns seen wrote first client server to first_net net None count =
    (server ≡ None) × (Dropped M stands sees turns seen wrote first client to first_net net count ⊎ Untouched seen wrote first client first_net net count)
LeftAt M stands sees turns seen wrote first client server to first_net net (Some ran) count = Done M stands sees turns seen wrote first client server to first_net net ran count

-- Each has ended or was left. They paid so much each: all of the budget where it is spent.
pub record AllLeft {C L N : Type 0} (M : Meaning) (stands : C → Past → Type 0) (sees : C → CoreSeen) (seen : L → Seen) (wrote : L → List ℕ → Type 0) (sees_net : N → NetSeen) (to : Place) (turns : List (ℕ × Turn)) (firsts conns : List (Conn L N)) (budget : ℕ) (fault : WeaveFault) : Type 0 where
  pub counts : List ℕ
  pub counted : length counts ≡ length conns
  pub each : (place : ℕ) (first conn : Conn L N) → slice_get firsts place ≡ Some first → slice_get conns place ≡ Some conn
      → LeftAt M stands sees (turns_of (suc place) turns) seen wrote first.client conn.client conn.server to (sees_net first.net) (sees_net conn.net) conn.ran (get_or counts place 0)
  pub within : sum_by (λ (n : ℕ). n) counts ≤ budget
  pub spent : fault ≡ faults.Spent → sum_by (λ (n : ℕ). n) counts ≡ budget
