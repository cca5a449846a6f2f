-- Where many connections stand between two moves.
use Rattle.std.specs.Prelude.{◌≡◌, ℕ, ◌<◌, List, drop, true, false, Option, Some, None, Result, is_some, ⊤, ◌⊎◌, Bool}
use Rattle.std.specs.List.{AllByRecursion}
use Rattle.session_model.specs.Meaning.{Meaning}
use Rattle.session_core.specs.History.{Past, nothing_yet}
use Rattle.px_link.specs.declared.turns.Turn.{Turn}
use Rattle.px_link.specs.Link.{Seen}
use Rattle.px_link.specs.Net.{Place, NetSeen}
use Rattle.px_pool.specs.Owners.{has_one, all_out}
use Rattle.px_pool.specs.Seats.{Seats, core_of, free_of, first_of, rest_of}
use Rattle.htx_drive.specs.Machine.{CoreSeen}
use Rattle.htx_drive.specs.declared.Ran.{Ran}
use Rattle.htx_drive.specs.declared.SessionFault.{SessionFault}
use Rattle.htx_drive.specs.Weave.Woven.{Pays, Going}
use Rattle.htx_drive.specs.Weave.Went.{OverSo}
use Rattle.htx_drive.specs.declared.weave.conn.Conn.{Conn}
use Rattle.htx_drive.specs.declared.weave.mover.Went.{Went}
use Rattle.htx_drive.specs.declared.weave.mover.Went.TheVariants as went

-- ---- the cores that are free

-- it may be called, and no server of it is open
abbrev pub IsReady : {C : Type 0} → (sees : C → CoreSeen) → (sound : C → Type 0) → C → Type 0
IsReady sees sound core = sound core × ((sees core).serving ≡ false)

-- nothing has happened to it
abbrev pub IsFresh : {C : Type 0} → (stands : C → Past → Type 0) → C → Type 0
IsFresh stands core = stands core nothing_yet

-- so it is of each core that is free
abbrev pub AllReady : {C : Type 0} → (C → CoreSeen) → (C → Type 0) → Seats C → Type 0
AllReady sees sound pool = AllByRecursion (IsReady sees sound) (free_of pool)

abbrev pub AllFresh : {C : Type 0} → (C → Past → Type 0) → Seats C → Type 0
AllFresh stands pool = AllByRecursion (IsFresh stands) (free_of pool)

-- a connection that had a core has the same, and another has the first that was free
pub record KeepsSet {C : Type 0} (number : ℕ) (old new : Seats C) : Type 0 where
  pub core : core_of number new ≡ core_of number old
  pub free : free_of new ≡ free_of old

pub record TakesSet {C : Type 0} (number : ℕ) (old new : Seats C) : Type 0 where
  pub none : core_of number old ≡ None
  pub core : core_of number new ≡ first_of (free_of old)
  pub free : free_of new ≡ rest_of (free_of old)

abbrev pub Seated : {C : Type 0} → (number : ℕ) → (old new : Seats C) → Type 0
Seated number old new = KeepsSet number old new ⊎ TakesSet number old new

-- behind a move it keeps its core and may be called again, or it has ended and has none
pub record KeepsOn {C L : Type 0} (sees : C → CoreSeen) (sound : C → Type 0) (held : Option C) (server : Option L) (lent : ℕ) (ran : Option (Result Ran SessionFault)) : Type 0 where
  pub core : C
  pub is : held ≡ Some core
  pub is_sound : sound core
  pub serving : (sees core).serving ≡ is_some server
  pub is_lent : is_some server ≡ true → 0 < lent
  pub goes_on : ran ≡ None

pub record HasDone {C L : Type 0} (held : Option C) (server : Option L) (ran : Option (Result Ran SessionFault)) : Type 0 where
  pub none : held ≡ None
  pub no_server : server ≡ None
  pub ended : is_some ran ≡ true

abbrev pub SetSo : {C L : Type 0} → Went → (sees : C → CoreSeen) → (sound : C → Type 0) → (held : Option C) → (server : Option L) → (lent : ℕ) → (ran : Option (Result Ran SessionFault)) → Type 0
SetSo went.On sees sound held server lent ran = KeepsOn sees sound held server lent ran
SetSo went.Ended sees sound held server lent ran = HasDone held server ran
SetSo went.Spent sees sound held server lent ran = KeepsOn sees sound held server lent ran

-- a connection may move: it has ended, or its core may be called, or it has none and no server of it is open
pub record MayCall {C L : Type 0} (sees : C → CoreSeen) (sound : C → Type 0) (server : Option L) (lent : ℕ) (core : C) : Type 0 where
  pub is_sound : sound core
  pub serving : (sees core).serving ≡ is_some server
  pub is_lent : is_some server ≡ true → 0 < lent

abbrev pub MayMove : {C L : Type 0} → (sees : C → CoreSeen) → (sound : C → Type 0) → (server : Option L) → (lent : ℕ) → (ran : Option (Result Ran SessionFault)) → (held : Option C) → Type 0
MayMove sees sound server lent None None = server ≡ None
MayMove sees sound server lent None (Some core) = MayCall sees sound server lent core
MayMove sees sound server lent (Some ran) held = ⊤

-- ---- one connection

-- where there are cores for all, no turn waits
abbrev pub AtOnce : (prompt : Bool) → (waited : ℕ) → Type 0
AtOnce prompt waited = prompt ≡ true → waited ≡ 0

-- a connection that has none finds one that is free
abbrev pub HasRoom : (prompt : Bool) → (number : ℕ) → (owners : List (Option ℕ)) → Type 0
HasRoom prompt number owners = prompt ≡ true → has_one number owners ≡ false → all_out owners ≡ true → ⊥

-- it has had no core yet, and nothing of it was touched; so many of its turns found all cores out
pub record Waits {L : Type 0} (prompt : Bool) (turns ahead : List Turn) (first client : L) (server : Option L) (first_net net : NetSeen) (count : ℕ) : Type 0 where
  pub waited : ℕ
  pub at_once : AtOnce prompt waited
  pub left : ahead ≡ drop waited turns
  pub same_client : client ≡ first
  pub same_net : net ≡ first_net
  pub no_server : server ≡ None
  pub paid_none : count ≡ 0

-- it has this core, and its session is under way
pub record Holds {C L : Type 0} (stands : C → Past → Type 0) (sees : C → CoreSeen) (sound : C → Type 0) (prompt : Bool) (turns ahead : List Turn) (seen : L → Seen) (wrote : L → List ℕ → Type 0) (first client : L) (server : Option L) (to : Place) (first_net net : NetSeen) (core : C) (count : ℕ) : Type 0 where
  pub waited : ℕ
  pub at_once : AtOnce prompt waited
  pub going : Going stands sees (drop waited turns) ahead core seen wrote first client server to first_net net count
  pub is_sound : sound core
  pub serving : (sees core).serving ≡ is_some server
  pub lent : is_some server ≡ true → 0 < net.lent

-- it has ended
pub record Done {C L : Type 0} (M : Meaning) (stands : C → Past → Type 0) (sees : C → CoreSeen) (turns : List Turn) (seen : L → Seen) (wrote : L → List ℕ → Type 0) (first client : L) (server : Option L) (to : Place) (first_net net : NetSeen) (ran : Result Ran SessionFault) (count : ℕ) : Type 0 where
  pub waited : ℕ
  pub no_server : server ≡ None
  pub so : OverSo M stands sees (drop waited turns) seen wrote first client to first_net net (Some ran) count

-- by what it came to, and by the core that it has
abbrev pub IsAt : {C L : Type 0} → (M : Meaning) → (stands : C → Past → Type 0) → (sees : C → CoreSeen) → (sound : C → Type 0) → (prompt : Bool) → (turns ahead : List Turn) → (seen : L → Seen) → (wrote : L → List ℕ → Type 0) → (first client : L) → (server : Option L) → Place → (first_net net : NetSeen) → Option (Result Ran SessionFault) → Option C → (count : ℕ) → Type 0
IsAt M stands sees sound prompt turns ahead seen wrote first client server to first_net net None None count = Waits prompt turns ahead first client server first_net net count
IsAt M stands sees sound prompt turns ahead seen wrote first client server to first_net net None (Some core) count = Holds stands sees sound prompt turns ahead seen wrote first client server to first_net net core count
IsAt M stands sees sound prompt turns ahead seen wrote first client server to first_net net (Some ran) None count = (done : Done M stands sees turns seen wrote first client server to first_net net ran count) × AtOnce prompt done.waited
IsAt M stands sees sound prompt turns ahead seen wrote first client server to first_net net (Some ran) (Some core) count = ⊥

-- so it is of this connection and the core that it has of the pool, and it has paid so much that with what is left it comes to this total
abbrev pub IsPlaced : {C L N : Type 0} → Meaning → (C → Past → Type 0) → (C → CoreSeen) → (C → Type 0) → (L → Seen) → (L → List ℕ → Type 0) → (N → NetSeen) → Place → (prompt : Bool) → (turns ahead : List Turn) → L → N → (total left number : ℕ) → Conn L N → Seats C → Type 0
IsPlaced M stands sees sound seen wrote sees_net to prompt turns ahead first first_net total left number conn pool =
    Pays total left (IsAt M stands sees sound prompt turns ahead seen wrote first conn.client conn.server to (sees_net first_net) (sees_net conn.net) conn.ran (core_of number pool))
