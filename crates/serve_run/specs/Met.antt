-- How a link that was accepted was met, and what was done with it then.
use Rattle.std.specs.Prelude.{◌≡◌, ℕ, List, Bool, Option, None, Result, Ok, Err}
use Rattle.http_model.specs.declared.Close.TheVariants.{Failed}
use Rattle.http_model.specs.declared.End.TheVariants.{Closed}
use Rattle.px_link.specs.Link.{Seen, with_close}
use Rattle.px_link.specs.Net.{NetSeen}
use Rattle.px_peer.specs.declared.Pair.{Pair}
use Rattle.px_proxyproto.specs.Meeting.{Meets}
use Rattle.px_proxyproto.specs.declared.meeting.Met.{Met}
use Rattle.px_proxyproto.specs.declared.meeting.Met.TheVariants as met
use Rattle.htx_drive.specs.declared.Ran.{Ran}
use Rattle.htx_drive.specs.declared.SessionFault.{SessionFault}

-- A link was met so: what the meeting tells was read of it, and what was written to it stays. A session over it begins there.
pub record MetSo {L : Type 0} (tells : L → Option Pair → Type 0) (accepts_header : Bool) (seen : L → Seen) (wrote : L → List ℕ → Type 0) (first begins : L) (how : Met) : Type 0 where
  pub meets : Meets tells accepts_header first (seen first) (seen begins) how
  pub written : (bytes : List ℕ) → wrote first bytes → wrote begins bytes

-- what the session of a client comes to that isn't heard
abbrev pub unheard : Ran
unheard = record { end = Closed; exchanges = 0; begun_cut = None }

-- Its client wasn't heard: the link was closed Failed, nothing was written to it, and nothing was done with the net.
pub record TurnedAway {L : Type 0} (seen : L → Seen) (wrote : L → List ℕ → Type 0) (begins client : L) (first_net net : NetSeen) (ran : Ran) : Type 0 where
  pub is_unheard : ran ≡ unheard
  pub closed : seen client ≡ with_close (seen begins) Failed
  pub written : (bytes : List ℕ) → wrote begins bytes → wrote client bytes
  pub untouched : net ≡ first_net

-- by how it was met: a caller is served, and whoever isn't heard is turned away
abbrev pub ServedAsMet : {L : Type 0} → (seen : L → Seen) → (wrote : L → List ℕ → Type 0) → (serves : Option Pair → L → L → NetSeen → NetSeen → Result Ran SessionFault → Type 0) → Met → (begins client : L) → (first_net net : NetSeen) → Result Ran SessionFault → Type 0
ServedAsMet seen wrote serves (met.Caller pair) begins client first_net net result = serves pair begins client first_net net result
ServedAsMet seen wrote serves met.Refused begins client first_net net (Ok ran) = TurnedAway seen wrote begins client first_net net ran
ServedAsMet seen wrote serves met.Refused begins client first_net net (Err fault) = ⊥

-- A link that was accepted was met, and served so.
pub record MeetsAndServes {L : Type 0} (tells : L → Option Pair → Type 0) (accepts_header : Bool) (seen : L → Seen) (wrote : L → List ℕ → Type 0) (serves : Option Pair → L → L → NetSeen → NetSeen → Result Ran SessionFault → Type 0) (first client : L) (first_net net : NetSeen) (result : Result Ran SessionFault) : Type 0 where
  pub begins : L
  pub how : Met
  pub so : MetSo tells accepts_header seen wrote first begins how
  pub served : ServedAsMet seen wrote serves how begins client first_net net result
