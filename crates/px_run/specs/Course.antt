-- A connection of many, from its accept to its end.
use Rattle.std.specs.Prelude.{◌≡◌, ℕ, ◌<◌, ◌⊎◌, List, [], ◌++◌, Bool, true, false, Option, Some, None, Result, Ok, Err, is_some, ⊤}
use Rattle.session_model.specs.Meaning.{Meaning}
use Rattle.session_core.specs.History.{Past, nothing_yet}
use Rattle.px_link.specs.declared.turns.Turn.{Turn}
use Rattle.px_link.specs.Link.{Seen, AsItIs}
use Rattle.px_link.specs.Net.{Place, Kept, NetSeen}
use Rattle.fcgi_link.specs.Asked.{Responder, asked_for}
use Rattle.htx_drive.specs.Machine.{CoreSeen}
use Rattle.htx_drive.specs.declared.Ran.{Ran}
use Rattle.htx_drive.specs.declared.weave.conn.Conn.{Conn}
use Rattle.htx_drive.specs.declared.SessionFault.{SessionFault}
use Rattle.htx_drive.specs.Driven.{failed_by}
use Rattle.htx_drive.specs.Weave.Woven.{Going, EndedSo, GivenUp}
use Rattle.htx_drive.specs.Weave.Single.{Working}
use Rattle.htx_drive.specs.Weave.Outcome.{Untouched}
use Rattle.px_run.specs.declared.step.Stepped.{Stepped}
use Rattle.px_run.specs.declared.step.Stepped.TheVariants as steps
use Rattle.px_run.specs.declared.held.Held.{Held}
use Rattle.px_run.specs.declared.held.Held.TheVariants as helds

-- ---- what it begins with

-- nothing was done with a net yet, and its links pass on as it is what is written to them
pub record IsNewNet (net : NetSeen) : Type 0 where
  pub none_lent : net.lent ≡ 0
  pub none_dialled : net.dialled ≡ []
  pub none_kept : (kept : List Kept) → net.kept ≡ Some kept → kept ≡ []
  pub as_it_is : net.manner ≡ AsItIs

-- a new net that was told of the application, where there is one
pub record IsToldNet (responder : Option Responder) (net : NetSeen) : Type 0 where
  pub first : NetSeen
  pub is_new : IsNewNet first
  pub told : net ≡ asked_for responder first

-- ---- links that were asked what can be done now

-- what contracts see of a link stays
pub record IsSame {L : Type 0} (seen : L → Seen) (wrote : L → List ℕ → Type 0) (old new : L) : Type 0 where
  pub told : seen new ≡ seen old
  pub written : (bytes : List ℕ) → wrote old bytes → wrote new bytes

-- a server's link is open where it was, and the same
abbrev pub IsSameServer : {L : Type 0} → (seen : L → Seen) → (wrote : L → List ℕ → Type 0) → (old new : Option L) → Type 0
IsSameServer seen wrote None None = ⊤
IsSameServer seen wrote None (Some link) = ⊥
IsSameServer seen wrote (Some link) None = ⊥
IsSameServer seen wrote (Some old) (Some new) = IsSame seen wrote old new

-- ---- under way

-- Some turns were taken, and whichever come next, its session is under way with those ahead.
abbrev pub GoesOn : {C L : Type 0} → (stands : C → Past → Type 0) → (sees : C → CoreSeen) → C → (seen : L → Seen) → (wrote : L → List ℕ → Type 0) → (first client : L) → (server : Option L) → Place → (first_net net : NetSeen) → Type 0
GoesOn stands sees core seen wrote first client server to first_net net =
    (taken : List Turn) × ((ahead : List Turn) → (count : ℕ) × Going stands sees (taken ++ ahead) ahead core seen wrote first client server to first_net net count)

-- the same behind its core's work
abbrev pub WorksOn : {C L : Type 0} → (stands : C → Past → Type 0) → (sees : C → CoreSeen) → C → (seen : L → Seen) → (wrote : L → List ℕ → Type 0) → (first client : L) → (server : Option L) → Place → (first_net net : NetSeen) → Type 0
WorksOn stands sees core seen wrote first client server to first_net net =
    (taken : List Turn) × ((ahead : List Turn) → (count : ℕ) × Working stands sees (taken ++ ahead) ahead core seen wrote first client server to first_net net count)

-- this connection goes on, with this core
abbrev pub IsUnderWay : {C L N : Type 0} → (stands : C → Past → Type 0) → (sees : C → CoreSeen) → C → (seen : L → Seen) → (wrote : L → List ℕ → Type 0) → (sees_net : N → NetSeen) → (first : L) → Place → (first_net : N) → Conn L N → Type 0
IsUnderWay stands sees core seen wrote sees_net first to first_net conn = GoesOn stands sees core seen wrote first conn.client conn.server to (sees_net first_net) (sees_net conn.net)

-- It has ended, and says how: some turns led to the session of its own links; or it was given up, since a write to its client failed or it found no
-- memory, and what was written is a front.
abbrev pub CameTo : {C L : Type 0} → (M : Meaning) → (stands : C → Past → Type 0) → (sees : C → CoreSeen) → (seen : L → Seen) → (wrote : L → List ℕ → Type 0) → (first client : L) → Place → (first_net net : NetSeen) → Option (Result Ran SessionFault) → Type 0
CameTo M stands sees seen wrote first client to first_net net None = ⊥
CameTo M stands sees seen wrote first client to first_net net (Some (Ok ran)) =
    (all ahead : List Turn) × (count : ℕ) × EndedSo M stands sees all ahead seen wrote first client to first_net net ran count
CameTo M stands sees seen wrote first client to first_net net (Some (Err fault)) =
    (all : List Turn) × (count : ℕ) × GivenUp M stands sees all seen wrote first client (failed_by fault) to first_net net count

-- It was given up with the loop: no write to its client had failed, what was written is a front, and each link that was still open is closed Failed; or nothing of
-- it was touched, but for that.
abbrev pub WasLeft : {C L : Type 0} → (M : Meaning) → (stands : C → Past → Type 0) → (sees : C → CoreSeen) → (seen : L → Seen) → (wrote : L → List ℕ → Type 0) → (first client : L) → Place → (first_net net : NetSeen) → Type 0
WasLeft M stands sees seen wrote first client to first_net net =
    ((all : List Turn) × (count : ℕ) × GivenUp M stands sees all seen wrote first client false to first_net net count) ⊎ Untouched seen wrote first client first_net net 0

-- by what it came to: it has ended, or was given up with the loop
abbrev pub EndedOrLeft : {C L : Type 0} → (M : Meaning) → (stands : C → Past → Type 0) → (sees : C → CoreSeen) → (seen : L → Seen) → (wrote : L → List ℕ → Type 0) → (first client : L) → Place → (first_net net : NetSeen) → Option (Result Ran SessionFault) → Type 0
EndedOrLeft M stands sees seen wrote first client to first_net net None = WasLeft M stands sees seen wrote first client to first_net net
EndedOrLeft M stands sees seen wrote first client to first_net net (Some ran) = CameTo M stands sees seen wrote first client to first_net net (Some ran)

-- its core stands for what happened to it
abbrev pub StandsSomehow : {C : Type 0} → (stands : C → Past → Type 0) → C → Type 0
StandsSomehow stands core = (past : Past) × stands core past

-- ---- a step

-- by what a step came to: it goes on, or has ended
abbrev pub StepsTo : Stepped → (on ended : Type 0) → Type 0
StepsTo steps.Moved on ended = on
StepsTo steps.Opened on ended = on
StepsTo steps.Waits on ended = on
StepsTo steps.Ended on ended = ended
StepsTo steps.Lost on ended = ended

-- where it has ended with a core that may begin again, this is so of that
abbrev pub OfCore : Stepped → Type 0 → Type 0
OfCore steps.Moved P = ⊤
OfCore steps.Opened P = ⊤
OfCore steps.Waits P = ⊤
OfCore steps.Ended P = P
OfCore steps.Lost P = ⊤

-- it came to its end, and its core stands for what happened to it, if it may begin again
pub record EndsWith (did : Stepped) (came : Type 0) (stands : Type 0) : Type 0 where
  pub so : came
  pub core : OfCore did stands

-- by what a step of this connection came to: it goes on with this core, or has ended
abbrev pub LeadsTo : {C L N S : Type 0} → Stepped → (meaning : S → Meaning) → (stands : S → C → Past → Type 0) → (cfg : S) → (sees : C → CoreSeen) → C → (seen : L → Seen) → (wrote : L → List ℕ → Type 0) → (sees_net : N → NetSeen) → (first : L) → Place → (first_net : N) → Conn L N → Type 0
LeadsTo did meaning stands cfg sees core seen wrote sees_net first to first_net conn =
    StepsTo did (IsUnderWay (stands cfg) sees core seen wrote sees_net first to first_net conn)
    (EndsWith did (CameTo (meaning cfg) (stands cfg) sees seen wrote first conn.client to (sees_net first_net) (sees_net conn.net) conn.ran) (StandsSomehow (stands cfg) core))

-- it has its core, and may go on
pub record MayStep {C L : Type 0} (sees : C → CoreSeen) (sound : C → Type 0) (core : C) (server : Option L) (net : NetSeen) (ran : Option (Result Ran SessionFault)) : Type 0 where
  pub is_sound : sound core
  pub serving : (sees core).serving ≡ is_some server
  pub lent : is_some server ≡ true → 0 < net.lent
  pub goes_on : ran ≡ None

-- it has ended
pub record HasCome {L : Type 0} (did : Stepped) (sound : Type 0) (server : Option L) (ran : Option (Result Ran SessionFault)) : Type 0 where
  pub is_sound : OfCore did sound
  pub no_server : server ≡ None
  pub came : is_some ran ≡ true

-- there is a core, and this is so of it
abbrev pub HasCore : {C : Type 0} → Held C → (C → Type 0) → Type 0
HasCore {C} held P = (core : C) × (held ≡ helds.Core core) × P core

abbrev pub has_core : {C : Type 0} → Held C → Bool
has_core helds.Nothing = false
has_core (helds.Rest exchanges) = false
has_core (helds.Core core) = true

-- ---- a core that is taken

-- Whatever a core stands for that rested with so many exchanges, this one stands for it too.
abbrev pub Resumes : {C : Type 0} → (stands : C → Past → Type 0) → (sees : C → CoreSeen) → (rested : C → Type 0) → (exchanges : ℕ) → C → Type 0
Resumes {C} stands sees rested exchanges core = (one : C) (past : Past) → stands one past → rested one → (sees one).exchanges ≡ exchanges → stands core past

-- it rests between two exchanges, with so many behind it, and no server of it is open
pub record RestsWith {C : Type 0} (sees : C → CoreSeen) (rested : C → Type 0) (exchanges : ℕ) (core : C) : Type 0 where
  pub rests : rested core
  pub idle : (sees core).serving ≡ false
  pub counts : (sees core).exchanges ≡ exchanges

-- by what a connection had before: it goes on where that rested, or nothing has happened to it
abbrev pub TakesUp : {C : Type 0} → (stands : C → Past → Type 0) → (sees : C → CoreSeen) → (rested : C → Type 0) → Held C → C → Type 0
TakesUp stands sees rested helds.Nothing core = stands core nothing_yet
TakesUp stands sees rested (helds.Rest exchanges) core = Resumes stands sees rested exchanges core
TakesUp stands sees rested (helds.Core before) core = stands core nothing_yet
