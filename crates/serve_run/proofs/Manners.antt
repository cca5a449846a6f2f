-- How a client's link passes on what is written to it: behind its session as before.
use Rattle.std.proofs.Common.{◌≡◌, ℕ, Bool, true, false, List, Option, inl, inr, ap}
use Rattle.std.specs.Prelude.{Result, Ok, Err}
use Rattle.session_model.specs.Meaning.{Meaning}
use Rattle.session_core.specs.History.{Past}
use Rattle.px_link.specs.Link.{Seen}
use Rattle.px_link.specs.Net.{Place, NetSeen}
use Rattle.px_peer.specs.declared.Pair.{Pair}
use Rattle.px_proxyproto.specs.Meeting.{Meets}
use Rattle.px_proxyproto.specs.declared.meeting.Met.{Met}
use Rattle.px_proxyproto.specs.declared.meeting.Met.TheVariants as met
use Rattle.htx_drive.specs.Machine.{CoreSeen}
use Rattle.htx_drive.specs.declared.Ran.{Ran}
use Rattle.htx_drive.specs.declared.SessionFault.{SessionFault}
use Rattle.serve_run.specs.Drove.{Drove}

pub drove_manner : {Settings C L : Type 0} (meaning : Settings → Meaning) (stands : Settings → C → Past → Type 0) (core_seen : C → CoreSeen) (seen : L → Seen) (wrote : L → List ℕ → Type 0)
    (cfg : Settings) (to : Place) (first client : L) (first_net net : NetSeen) (result : Result Ran SessionFault)
    → Drove meaning stands core_seen seen wrote cfg to first client first_net net result → (seen client).manner ≡ (seen first).manner
drove_manner meaning stands core_seen seen wrote cfg to first client first_net net (Ok ran) h = let so = h.1 in let came = so.came in let kind = came.kind in kind.manner
drove_manner meaning stands core_seen seen wrote cfg to first client first_net net (Err fault) (inl h) = let so = h.1 in let came = so.came in let kind = came.kind in kind.manner
drove_manner meaning stands core_seen seen wrote cfg to first client first_net net (Err fault) (inr h) = ap (λ (s : Seen). s.manner) h.closed

pub met_manner : {L : Type 0} (tells : L → Option Pair → Type 0) (accepts_header : Bool) (link : L) (old new : Seen) (how : Met) → Meets tells accepts_header link old new how → new.manner ≡ old.manner
met_manner tells true link old new (met.Caller pair) h = let taken = h.1 in let kind = taken.kind in kind.manner
met_manner tells true link old new met.Refused h = let taken = h.1 in let kind = taken.kind in kind.manner
met_manner tells false link old new (met.Caller pair) h = ap (λ (s : Seen). s.manner) h.1
met_manner tells false link old new met.Refused h = absurd h
