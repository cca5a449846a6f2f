-- What the driver did with a client is what its configuration makes of it.
use Rattle.std.proofs.Common.{◌≡◌, inl, inr, List, Option, Some, None}
use Rattle.std.specs.Prelude.{Result, Ok, Err, ℕ}
use Rattle.http_model.specs.declared.Ending.{Ending}
use Rattle.session_model.specs.Meaning.{Meaning}
use Rattle.session_core.specs.History.{Past}
use Rattle.px_link.specs.Link.{Seen}
use Rattle.px_link.specs.Net.{Place, Coming, Kept, NetSeen}
use Rattle.htx_drive.specs.Machine.{CoreSeen}
use Rattle.htx_drive.specs.Ran.{RanSo}
use Rattle.htx_drive.specs.Headline.{IsSessionOf}
use Rattle.htx_drive.specs.declared.Ran.{Ran}
use Rattle.htx_drive.specs.declared.SessionFault.{SessionFault}
use Rattle.px_peer.specs.declared.Pair.{Pair}
use Rattle.px_proxyproto.specs.declared.meeting.Met.{Met}
use Rattle.px_proxyproto.specs.declared.meeting.Met.TheVariants as met
use Rattle.fcgi_link.specs.Asked.{Responder}
use Rattle.serve_run.specs.Drove.{AsksFirst, Drove}
use Rattle.serve_run.specs.Met.{ServedAsMet}
use Rattle.proxy_sessions.specs.Connections.{ServesWith}

-- a session that ran is that of its links, where they tell
abbrev pub IsLaw : {C L : Type 0} (M : Meaning) (stands : C → Past → Type 0) (seen : L → Seen) (wrote : L → List ℕ → Type 0) (to : Place) (first client : L) (first_net net : NetSeen) → Type 0
IsLaw {C} {L} M stands seen wrote to first client first_net net =
    (core : C) (ran : Ran) (own : List ℕ) (ending : Ending) (answers : List (Option Coming)) (kept : List Kept)
    → (seen first).to_come ≡ Some own → (seen first).ending ≡ Some ending → first_net.answers ≡ Some answers → first_net.kept ≡ Some kept
    → RanSo M (stands core) seen wrote first client to first_net net ran → IsSessionOf M seen wrote first client to first_net net ran own ending answers kept

pub serves : {S C L : Type 0} (meaning : S → Meaning) (stands : S → C → Past → Type 0) (core_seen : C → CoreSeen) (seen : L → Seen) (wrote : L → List ℕ → Type 0) (cfg : S) (to : Place) (first client : L) (first_net net : NetSeen)
    → IsLaw (meaning cfg) (stands cfg) seen wrote to first client first_net net → (result : Result Ran SessionFault)
    → Drove meaning stands core_seen seen wrote cfg to first client first_net net result → ServesWith (meaning cfg) (stands cfg) core_seen seen wrote to first client first_net net result
serves meaning stands core_seen seen wrote cfg to first client first_net net law (Ok ran) h =
    (λ own ending answers kept a b c d. law h.0 ran own ending answers kept a b c d h.1, h.0, h.1)
serves meaning stands core_seen seen wrote cfg to first client first_net net law (Err fault) (inl h) =
    let g = h.1 in
    inl (record { past = g.past; front = g.front; came = g.came; put = g.put; closed = g.closed; dials = g.dials; spent = g.spent; spent_in_turns = g.spent_in_turns; turned = h.2 })
serves meaning stands core_seen seen wrote cfg to first client first_net net law (Err fault) (inr h) = inr h

-- what follows of each net that is begun with follows behind a net that was asked first
pub as_asked : {L : Type 0} (responder : Option Responder) (seen : L → Seen) (wrote : L → List ℕ → Type 0) (begins client : L) (first_net net : NetSeen) (does makes : NetSeen → Type 0) (result : Result Ran SessionFault)
    → ((asked : NetSeen) → does asked → makes asked)
    → AsksFirst responder seen wrote begins client first_net net does result → AsksFirst responder seen wrote begins client first_net net makes result
as_asked None seen wrote begins client first_net net does makes result follows h = follows _ h
as_asked (Some responder) seen wrote begins client first_net net does makes (Ok ran) follows h = follows _ h
as_asked (Some responder) seen wrote begins client first_net net does makes (Err fault) follows (inl h) = inl (follows _ h)
as_asked (Some responder) seen wrote begins client first_net net does makes (Err fault) follows (inr h) = inr h

-- what follows for each caller follows for whoever was met
pub as_met : {L : Type 0} (seen : L → Seen) (wrote : L → List ℕ → Type 0) (does makes : Option Pair → L → L → NetSeen → NetSeen → Result Ran SessionFault → Type 0) (how : Met) (begins client : L) (first_net net : NetSeen) (result : Result Ran SessionFault)
    → ((pair : Option Pair) → does pair begins client first_net net result → makes pair begins client first_net net result)
    → ServedAsMet seen wrote does how begins client first_net net result → ServedAsMet seen wrote makes how begins client first_net net result
as_met seen wrote does makes (met.Caller pair) begins client first_net net result follows h = follows pair h
as_met seen wrote does makes met.Refused begins client first_net net (Ok ran) follows h = h
as_met seen wrote does makes met.Refused begins client first_net net (Err fault) follows h = absurd h
