-- Where all connections stand between two moves, numbered from 1 in their order.
use Rattle.std.specs.Prelude.{◌≡◌, ℕ, ◌+◌, ◌<◌, ◌≤◌, suc, List, [], ◌∷◌, length, get_or, slice_get, true, Option, Some, None, Bool, zero}
use Rattle.std.specs.List.{AllByRecursion, sum_by}
use Rattle.session_model.specs.Meaning.{Meaning}
use Rattle.session_core.specs.History.{Past}
use Rattle.px_link.specs.declared.turns.Turn.{Turn}
use Rattle.px_link.specs.Link.{Seen}
use Rattle.px_link.specs.Net.{Place, NetSeen}
use Rattle.px_pool.specs.Owners.{has_one, count_out, one_if}
use Rattle.px_pool.specs.Seats.{Seats, core_of}
use Rattle.htx_drive.specs.Machine.{CoreSeen}
use Rattle.htx_drive.specs.Replay.Memory.{turns_of}
use Rattle.htx_drive.specs.Weave.State.{IsAt, AllReady, AllFresh, MayMove}
use Rattle.htx_drive.specs.declared.weave.conn.Conn.{Conn}

-- the turn that is handed in is the first that is left, and this connection's; none is handed in where none is left
abbrev pub IsNext : (number : ℕ) → Option Turn → List (ℕ × Turn) → Type 0
IsNext number None left = left ≡ []
IsNext number (Some turn) left = (rest : List (ℕ × Turn)) × (left ≡ (number, turn) ∷ rest)

-- each is a turn of one of so many connections
abbrev pub AreWithin : (conns : ℕ) → List (ℕ × Turn) → Type 0
AreWithin conns turns = AllByRecursion (λ (t : ℕ × Turn). (0 < t.0) × (t.0 ≤ conns)) turns

-- each may be moved
abbrev pub AllMay : {C L N : Type 0} → (sees : C → CoreSeen) → (sound : C → Type 0) → (sees_net : N → NetSeen) → Seats C → List (Conn L N) → Type 0
AllMay {L = L} {N = N} sees sound sees_net pool conns = (place : ℕ) (conn : Conn L N) → slice_get conns place ≡ Some conn → MayMove sees sound conn.server (sees_net conn.net).lent conn.ran (core_of (suc place) pool)

-- the connection of this number is one of these, and has not ended
pub record IsSeated {L N : Type 0} (number : ℕ) (conns : List (Conn L N)) : Type 0 where
  pub place : ℕ
  pub conn : Conn L N
  pub is : number ≡ suc place
  pub at : slice_get conns place ≡ Some conn
  pub goes_on : conn.ran ≡ None

-- how many of the first so many connections have a core
abbrev pub held_by : List (Option ℕ) → ℕ → ℕ
held_by owners zero = 0
held_by owners (suc number) = one_if (has_one (suc number) owners) + held_by owners number

-- There are cores; those that are free may be called, and each of the others is of a connection that has not ended. Each connection may be moved.
pub record MayGoOn {C L N : Type 0} (sees : C → CoreSeen) (sound : C → Type 0) (sees_net : N → NetSeen) (pool : Seats C) (conns : List (Conn L N)) : Type 0 where
  pub some : 0 < length pool.owners
  pub ready : AllReady sees sound pool
  pub counts : count_out pool.owners ≡ held_by pool.owners (length conns)
  pub seated : (number : ℕ) → has_one number pool.owners ≡ true → IsSeated number conns
  pub may : AllMay sees sound sees_net pool conns

-- the connection of this number is at its place between two moves, by its own turns of those in the list
abbrev pub AtPlace : {C L N : Type 0} → (M : Meaning) → (stands : C → Past → Type 0) → (sees : C → CoreSeen) → (sound : C → Type 0) → (seen : L → Seen) → (wrote : L → List ℕ → Type 0) → (sees_net : N → NetSeen) → Place → (prompt : Bool) → (turns left : List (ℕ × Turn)) → (first conn : Conn L N) → Seats C → (number count : ℕ) → Type 0
AtPlace M stands sees sound seen wrote sees_net to prompt turns left first conn pool number count =
    IsAt M stands sees sound prompt (turns_of number turns) (turns_of number left) seen wrote first.client conn.client conn.server to (sees_net first.net) (sees_net conn.net) conn.ran (core_of number pool) count

-- Each connection is at its place, and where `prompt` says so there are cores for all; what all paid and what is left is the budget; and nothing has happened to the cores that are free.
pub record AllAt {C L N : Type 0} (M : Meaning) (stands : C → Past → Type 0) (sees : C → CoreSeen) (sound : C → Type 0) (seen : L → Seen) (wrote : L → List ℕ → Type 0) (sees_net : N → NetSeen) (to : Place) (prompt : Bool) (turns left : List (ℕ × Turn)) (firsts conns : List (Conn L N)) (pool : Seats C) (budget spare : ℕ) : Type 0 where
  pub counts : List ℕ
  pub room : prompt ≡ true → length conns ≤ length pool.owners
  pub as_many : length firsts ≡ length conns
  pub counted : length counts ≡ length conns
  pub each : (place : ℕ) (first conn : Conn L N) → slice_get firsts place ≡ Some first → slice_get conns place ≡ Some conn → AtPlace M stands sees sound seen wrote sees_net to prompt turns left first conn pool (suc place) (get_or counts place 0)
  pub paid : sum_by (λ (n : ℕ). n) counts + spare ≡ budget
  pub fresh : AllFresh stands pool

-- from their places to their places, whatever the list of turns and the budget that they began with
abbrev pub LeadsAll : {S C L N : Type 0} → (meaning : S → Meaning) → (stands : S → C → Past → Type 0) → (sees : C → CoreSeen) → (sound : C → Type 0) → (seen : L → Seen) → (wrote : L → List ℕ → Type 0) → (sees_net : N → NetSeen) → Place → (left behind : List (ℕ × Turn)) → (old new : List (Conn L N)) → (old_pool new_pool : Seats C) → (before after : ℕ) → Type 0
LeadsAll {S = S} {L = L} {N = N} meaning stands sees sound seen wrote sees_net to left behind old new old_pool new_pool before after =
    (cfg : S) (prompt : Bool) (turns : List (ℕ × Turn)) (firsts : List (Conn L N)) (budget : ℕ) → AllAt (meaning cfg) (stands cfg) sees sound seen wrote sees_net to prompt turns left firsts old old_pool budget before
    → AllAt (meaning cfg) (stands cfg) sees sound seen wrote sees_net to prompt turns behind firsts new new_pool budget after
