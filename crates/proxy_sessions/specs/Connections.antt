-- What a configuration makes of a client that connects.
use Rattle.std.specs.Prelude.{◌≡◌, ℕ, Bool, ◌⊎◌, ◌≤◌, List, [], Option, Some, Result, Ok, Err, option_map}
use Rattle.http_model.specs.declared.Ending.{Ending}
use Rattle.http_model.specs.declared.Close.TheVariants.{Failed}
use Rattle.session_model.specs.Meaning.{Meaning}
use Rattle.session_core.specs.History.{Past}
use Rattle.px_link.specs.Link.{Seen, closed_by}
use Rattle.px_peer.specs.declared.Pair.{Pair}
use Rattle.px_proxyproto.specs.Meeting.{source_in}
use Rattle.px_proxyproto.specs.Nets.{heading_for, introduced}
use Rattle.px_link.specs.Net.{Place, Coming, Kept, NetSeen}
use Rattle.fcgi_model.specs.Application.{Application}
use Rattle.fcgi_link.specs.Asked.{Responder}
use Rattle.http_rules.specs.declared.config.Config.{Config}
use Rattle.forward_core.specs.Meaning.Product.{meaning_of}
use Rattle.htx_drive.specs.Machine.{CoreSeen, TookFront}
use Rattle.htx_drive.specs.Came.{Came, Put}
use Rattle.htx_drive.specs.Driven.{moved, failed_by}
use Rattle.htx_drive.specs.Dialled.{Dials}
use Rattle.htx_drive.specs.Turned.{LedInAtLeast, UpToAFault}
use Rattle.htx_drive.specs.Ran.{RanSo}
use Rattle.htx_drive.specs.Headline.{IsSessionOf}
use Rattle.htx_drive.specs.declared.Ran.{Ran}
use Rattle.htx_drive.specs.declared.SessionFault.{SessionFault}
use Rattle.htx_drive.specs.declared.SessionFault.TheVariants as faults
use Rattle.serve_run.specs.Drove.{budget, AsksFirst, NotBegun}
use Rattle.serve_run.specs.Met.{MeetsAndServes}
use Rattle.proxy_sessions.specs.Driven.{stands_for, seen_of}

-- The session was given up: each link was written a front of what a session writes, and the client's is closed Failed. A write to the client
-- failed exactly where the fault says so; where it says that the budget is spent, so much was moved, by as many turns. Up to the fault turns of
-- cores that stand so led there.
pub record LeftOff {C L : Type 0} (M : Meaning) (stands : C → Past → Type 0) (core_seen : C → CoreSeen) (seen : L → Seen) (wrote : L → List ℕ → Type 0) (first client : L) (to : Place) (first_net net : NetSeen) (fault : SessionFault) : Type 0 where
  pub past : Past
  pub front : TookFront M past
  pub came : Came (seen first) (seen client) past.client
  pub put : Put (wrote first) (wrote client) (seen first) (seen client) past.taken (failed_by fault)
  pub closed : (seen client).closed ≡ closed_by (seen first).closed Failed
  pub dials : Dials to first_net net past.connects
  pub spent : fault ≡ faults.Spent → budget ≤ moved past
  pub spent_in_turns : fault ≡ faults.Spent → LedInAtLeast budget past
  pub turned : UpToAFault stands core_seen [] [] past

-- where a link and a net tell what comes and what goes, the session that ran over them is that of the client's stream, or where a read of the
-- client failed of what came before, and of the servers that its connects found
abbrev pub IsSessionIfTold : {L : Type 0} (M : Meaning) (seen : L → Seen) (wrote : L → List ℕ → Type 0) (first client : L) (to : Place) (first_net net : NetSeen) → Ran → Type 0
IsSessionIfTold M seen wrote first client to first_net net ran =
    (own : List ℕ) (ending : Ending) (answers : List (Option Coming)) (kept : List Kept)
    → (seen first).to_come ≡ Some own → (seen first).ending ≡ Some ending → first_net.answers ≡ Some answers → first_net.kept ≡ Some kept
    → IsSessionOf M seen wrote first client to first_net net ran own ending answers kept

-- A client is served so by cores that stand so: its session ended, and a core stands for what its links gave and were written; or it was given
-- up, or didn't begin for want of memory.
abbrev pub ServesWith : {C L : Type 0} (M : Meaning) (stands : C → Past → Type 0) (core_seen : C → CoreSeen) (seen : L → Seen) (wrote : L → List ℕ → Type 0) (to : Place) (first client : L) (first_net net : NetSeen) → Result Ran SessionFault → Type 0
ServesWith {C} {L} M stands core_seen seen wrote to first client first_net net (Ok ran) =
    IsSessionIfTold M seen wrote first client to first_net net ran × (core : C) × RanSo M (stands core) seen wrote first client to first_net net ran
ServesWith {C} {L} M stands core_seen seen wrote to first client first_net net (Err fault) =
    LeftOff M stands core_seen seen wrote first client to first_net net fault ⊎ NotBegun seen wrote first client first_net net fault

-- by a configuration: an output window has as many bytes as a buffer
abbrev pub ServesClient : {L : Type 0} (cfg : Config) (seen : L → Seen) (wrote : L → List ℕ → Type 0) (to : Place) (first client : L) (first_net net : NetSeen) → Result Ran SessionFault → Type 0
ServesClient cfg = ServesWith (meaning_of cfg) (stands_for cfg) seen_of

-- The same of a link that was accepted and met first: by the header in front of its stream where one is to stand there, else by what the link may tell of
-- its two ends. The session begins where that ends, and its peer is the end that asks. Where the servers are an application each link to one asks it, and where
-- headers of a version are sent each passes on one of these ends first; one that isn't heard is turned away.
abbrev pub ServesMet : {L : Type 0} (tells : L → Option Pair → Type 0) (accepts_header : Bool) (sends_header : Option ℕ) (responder : Option Responder) (cfg : Config) (seen : L → Seen) (wrote : L → List ℕ → Type 0) (to : Place) (first client : L) (first_net net : NetSeen) → Result Ran SessionFault → Type 0
ServesMet tells accepts_header sends_header responder cfg seen wrote to =
    MeetsAndServes tells accepts_header seen wrote
    (λ pair begins client first_net net result. AsksFirst responder seen wrote begins client first_net net
    (λ asked. ServesClient (record cfg { peer = source_in pair }) seen wrote to begins client (introduced (heading_for sends_header pair) asked) net result) result)

-- how the servers are asked by a configuration, where they are an application: a head of its answers has at most as many bytes as a buffer
abbrev pub responder_of : Config → Option Responder
responder_of cfg = option_map (λ (application : Application). let responder : Responder = (application, cfg.limits.bufsize) in responder) cfg.application

-- as the configuration says
abbrev pub ServesFor : {L : Type 0} (tells : L → Option Pair → Type 0) (cfg : Config) (seen : L → Seen) (wrote : L → List ℕ → Type 0) (to : Place) (first client : L) (first_net net : NetSeen) → Result Ran SessionFault → Type 0
ServesFor tells cfg = ServesMet tells cfg.accept_proxy cfg.send_proxy (responder_of cfg) cfg
