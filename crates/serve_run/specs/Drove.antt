-- What a session that the driver ran did.
use Rattle.std.specs.Prelude.{◌≡◌, ℕ, ◌^◌, ◌≤◌, ◌⊎◌, List, [], Option, Some, None, Result, Ok, Err}
use Rattle.http_model.specs.declared.Close.TheVariants.{Failed}
use Rattle.session_model.specs.Meaning.{Meaning}
use Rattle.session_core.specs.History.{Past}
use Rattle.px_link.specs.Link.{Seen, with_close}
use Rattle.px_link.specs.Net.{Place, NetSeen}
use Rattle.px_peer.specs.declared.Pair.{Pair}
use Rattle.px_peer.specs.declared.Peer.{Peer}
use Rattle.px_proxyproto.specs.Meeting.{source_in}
use Rattle.px_proxyproto.specs.Nets.{heading_for, introduced}
use Rattle.fcgi_link.specs.Asked.{Responder, asked_for}
use Rattle.htx_drive.specs.Machine.{CoreSeen}
use Rattle.htx_drive.specs.Ran.{RanSo, GaveUp}
use Rattle.htx_drive.specs.Turned.{UpToAFault, turns_up_to}
use Rattle.htx_drive.specs.declared.Ran.{Ran}
use Rattle.htx_drive.specs.declared.SessionFault.{SessionFault}
use Rattle.htx_drive.specs.declared.SessionFault.TheVariants as faults

-- the turns that a connection may take, and openings
abbrev pub budget : ℕ
budget = 2 ^ 63

-- there was no memory for a core: the client's link was closed Failed, and nothing else was done
pub record NotBegun {L : Type 0} (seen : L → Seen) (wrote : L → List ℕ → Type 0) (first client : L) (first_net net : NetSeen) (fault : SessionFault) : Type 0 where
  pub memory : fault ≡ faults.OutOfMemory
  pub closed : seen client ≡ with_close (seen first) Failed
  pub same : (bytes : List ℕ) → wrote first bytes → wrote client bytes
  pub untouched : net ≡ first_net

-- A core ran to its end, or the session was given up, by the driver's clauses. Where it was given up turns led to what was taken, with no list of them, and
-- where the budget is spent as many as it has moved something, openings among them.
abbrev pub Drove : {Settings C L : Type 0} (meaning : Settings → Meaning) (stands : Settings → C → Past → Type 0) (core_seen : C → CoreSeen) (seen : L → Seen) (wrote : L → List ℕ → Type 0)
    (cfg : Settings) (to : Place) (first client : L) (first_net net : NetSeen) → Result Ran SessionFault → Type 0
Drove {Settings} {C} {L} meaning stands core_seen seen wrote cfg to first client first_net net (Ok ran) = (core : C) × RanSo (meaning cfg) (stands cfg core) seen wrote first client to first_net net ran
Drove {Settings} {C} {L} meaning stands core_seen seen wrote cfg to first client first_net net (Err fault) =
    ((core : C) × (so : GaveUp (meaning cfg) (stands cfg) core (core_seen core).lost seen wrote first client to first_net net budget fault)
    × (turned : UpToAFault (stands cfg) core_seen [] [] so.past) × (fault ≡ faults.Spent → budget ≤ turns_up_to turned))
    ⊎ NotBegun seen wrote first client first_net net fault

-- The net was told of the application first, where there is one, and then this was done over it; or there was no memory for that, and nothing else was done.
abbrev pub AsksFirst : {L : Type 0} → Option Responder → (seen : L → Seen) → (wrote : L → List ℕ → Type 0) → (begins client : L) → (first_net net : NetSeen) → (does : NetSeen → Type 0) → Result Ran SessionFault → Type 0
AsksFirst None seen wrote begins client first_net net does result = does first_net
AsksFirst (Some responder) seen wrote begins client first_net net does (Ok ran) = does (asked_for (Some responder) first_net)
AsksFirst (Some responder) seen wrote begins client first_net net does (Err fault) = does (asked_for (Some responder) first_net) ⊎ NotBegun seen wrote begins client first_net net fault

-- What the driver did for the caller of this pair: the links that the net connects next were first made to ask the application, where there is one, and to begin
-- with the header of the pair, or with none; then the session ran over a core of the configuration for its source.
abbrev pub DrivesFor : {Settings C L : Type 0} (meaning : Settings → Meaning) (stands : Settings → C → Past → Type 0) (core_seen : C → CoreSeen) (seen : L → Seen) (wrote : L → List ℕ → Type 0)
    (cfg_for : Option Peer → Settings) (sends_header : Option ℕ) (responder : Option Responder) (to : Place) (pair : Option Pair) (begins client : L) (first_net net : NetSeen) → Result Ran SessionFault → Type 0
DrivesFor meaning stands core_seen seen wrote cfg_for sends_header responder to pair begins client first_net net result =
    AsksFirst responder seen wrote begins client first_net net
    (λ asked. Drove meaning stands core_seen seen wrote (cfg_for (source_in pair)) to begins client (introduced (heading_for sends_header pair) asked) net result) result
