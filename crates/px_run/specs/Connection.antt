-- Where a connection of many stands between two looks at it.
use Rattle.std.specs.Prelude.{◌≡◌, ℕ, List, [], ◌∷◌, true, Option, Some, None, Result, is_some}
use Rattle.std.specs.List.{AllByRecursion}
use Rattle.session_model.specs.Meaning.{Meaning}
use Rattle.session_core.specs.History.{Past}
use Rattle.px_peer.specs.declared.Peer.{Peer}
use Rattle.px_peer.specs.declared.Pair.{Pair}
use Rattle.px_proxyproto.specs.Meeting.{source_in}
use Rattle.htx_drive.specs.Weave.State.{IsFresh}
use Rattle.px_link.specs.Link.{Seen}
use Rattle.px_link.specs.Net.{Place, NetSeen}
use Rattle.htx_drive.specs.Machine.{CoreSeen}
use Rattle.htx_drive.specs.declared.Ran.{Ran}
use Rattle.htx_drive.specs.declared.SessionFault.{SessionFault}
use Rattle.serve_run.specs.Lines.{answer_of}
use Rattle.px_run.specs.Lines.{outcomes_in}
use Rattle.px_run.specs.Course.{IsSame, GoesOn, CameTo, MayStep}
use Rattle.px_run.specs.declared.connection.Connection.{Connection}
use Rattle.px_run.specs.declared.held.Held.{Held}
use Rattle.px_run.specs.declared.held.Held.TheVariants as helds
use Rattle.px_run.specs.declared.connection.Looked.{Looked}
use Rattle.px_run.specs.declared.connection.Looked.TheVariants as looks

-- the one of what the other gives
infixr 9 ◌∘◌
abbrev pub ◌∘◌ {ℓ} : {A B : Type 0} {R : Type ℓ} → (B → R) → (A → B) → A → R
g ∘ f = λ a. g (f a)

-- nothing has happened to a core, whosever connection it is to serve
abbrev pub IsFreshFor : {C : Type 0} → (stands : Option Pair → C → Past → Type 0) → C → Type 0
IsFreshFor stands core = (pair : Option Pair) × IsFresh (stands pair) core

-- nothing has happened to any of these cores, whosever connections they are to serve under this configuration
abbrev pub AllFreshFor : {C S : Type 0} → (stands : S → C → Past → Type 0) → (for_peer : S → Option Peer → S) → (cfg : S) → List C → Type 0
AllFreshFor stands for_peer cfg sets = AllByRecursion (IsFreshFor (stands ∘ for_peer cfg ∘ source_in)) sets

-- nothing of it was touched
pub record IsWaiting {L : Type 0} (seen : L → Seen) (wrote : L → List ℕ → Type 0) (first client : L) (server : Option L) (first_net net : NetSeen) : Type 0 where
  pub same : IsSame seen wrote first client
  pub no_server : server ≡ None
  pub same_net : net ≡ first_net

-- its session is under way, with this core
pub record IsServing {C L : Type 0} (stands : C → Past → Type 0) (sees : C → CoreSeen) (sound : C → Type 0) (seen : L → Seen) (wrote : L → List ℕ → Type 0) (first client : L) (server : Option L) (to : Place) (first_net net : NetSeen) (core : C) : Type 0 where
  pub goes : GoesOn stands sees core seen wrote first client server to first_net net
  pub may : MayStep sees sound core server net None

-- It rests between two requests, and its core was given back: one that rested with so many exchanges, with which its session is under way. No server's link is open.
pub record IsResting {C L : Type 0} (stands : C → Past → Type 0) (sees : C → CoreSeen) (rested : C → Type 0) (seen : L → Seen) (wrote : L → List ℕ → Type 0) (first client : L) (server : Option L) (to : Place) (first_net net : NetSeen) (exchanges : ℕ) : Type 0 where
  pub core : C
  pub goes : GoesOn stands sees core seen wrote first client server to first_net net
  pub rests : rested core
  pub counts : (sees core).exchanges ≡ exchanges
  pub no_server : server ≡ None

-- it has ended, and its client's link is closed
pub record IsOver {C L : Type 0} (M : Meaning) (stands : C → Past → Type 0) (sees : C → CoreSeen) (seen : L → Seen) (wrote : L → List ℕ → Type 0) (first client : L) (server : Option L) (to : Place) (first_net net : NetSeen) (ran : Result Ran SessionFault) : Type 0 where
  pub no_server : server ≡ None
  pub came : CameTo M stands sees seen wrote first client to first_net net (Some ran)

-- by what it came to, and by what it has of a core: one that has ended has none
abbrev pub IsAt : {C L : Type 0} → (M : Meaning) → (stands : C → Past → Type 0) → (sees : C → CoreSeen) → (sound rested : C → Type 0) → (seen : L → Seen) → (wrote : L → List ℕ → Type 0) → (first client : L) → (server : Option L) → Place → (first_net net : NetSeen) → Option (Result Ran SessionFault) → Held C → Type 0
IsAt M stands sees sound rested seen wrote first client server to first_net net None helds.Nothing = IsWaiting seen wrote first client server first_net net
IsAt M stands sees sound rested seen wrote first client server to first_net net None (helds.Rest exchanges) = IsResting stands sees rested seen wrote first client server to first_net net exchanges
IsAt M stands sees sound rested seen wrote first client server to first_net net None (helds.Core core) = IsServing stands sees sound seen wrote first client server to first_net net core
IsAt M stands sees sound rested seen wrote first client server to first_net net (Some ran) helds.Nothing = IsOver M stands sees seen wrote first client server to first_net net ran
IsAt M stands sees sound rested seen wrote first client server to first_net net (Some ran) (helds.Rest exchanges) = ⊥
IsAt M stands sees sound rested seen wrote first client server to first_net net (Some ran) (helds.Core core) = ⊥

-- this connection stands so under this configuration
abbrev pub IsAtUnder : {C L N S : Type 0} → (meaning : S → Meaning) → (stands : S → C → Past → Type 0) → (cfg : S) → (sees : C → CoreSeen) → (sound rested : C → Type 0) → (seen : L → Seen) → (wrote : L → List ℕ → Type 0) → (sees_net : N → NetSeen) → (first : L) → Place → (first_net : N) → Connection C L N → Type 0
IsAtUnder meaning stands cfg sees sound rested seen wrote sees_net first to first_net c = IsAt (meaning cfg) (stands cfg) sees sound rested seen wrote first c.conn.client c.conn.server to (sees_net first_net) (sees_net c.conn.net) c.conn.ran c.core

-- What a look says: one that ends does so in this look, and its number and its outcome are told. One that was given up for want of memory has no outcome.
abbrev pub LookedSo : Looked → (number : ℕ) → (was ran : Option (Result Ran SessionFault)) → Type 0
LookedSo looks.Waits number was ran = ran ≡ was
LookedSo looks.Rests number was ran = ran ≡ was
LookedSo looks.GoesOn number was ran = ran ≡ was
LookedSo looks.Hungry number was ran = ran ≡ was
LookedSo (looks.Ended told outcome) number was ran = (told ≡ number) × (was ≡ None) × (ran ≡ Some (answer_of outcome)) × (outcomes_in ran ≡ outcome ∷ [])
LookedSo looks.Lost number was ran = (was ≡ None) × (is_some ran ≡ true) × (outcomes_in ran ≡ [])
LookedSo looks.Leaves number was ran = (ran ≡ was) × (is_some ran ≡ true)

-- it changes nothing of what the connection came to
abbrev pub IsIdle : Looked → Type 0
IsIdle looked = (number : ℕ) (ran : Option (Result Ran SessionFault)) → LookedSo looked number ran ran
