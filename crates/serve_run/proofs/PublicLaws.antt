-- The public law of how a client that was met is written to.
use Rattle.std.proofs.Common.{◌≡◌, Bool, Option}
use Rattle.px_link.specs.Link.{Seen}
use Rattle.px_peer.specs.declared.Pair.{Pair}
use Rattle.px_proxyproto.specs.Meeting.{Meets}
use Rattle.px_proxyproto.specs.declared.meeting.Met.{Met}
use Rattle.serve_run.proofs.Manners as manners

-- However a client was met, its link passes on what is written to it as before.
pub met_manner : {L : Type 0} (tells : L → Option Pair → Type 0) (accepts_header : Bool) (link : L) (old new : Seen) (how : Met) → Meets tells accepts_header link old new how → new.manner ≡ old.manner
met_manner = manners.met_manner
