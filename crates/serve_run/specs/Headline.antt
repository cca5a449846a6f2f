-- What a connection that the driver served is, where the net tells its links.
use Rattle.std.specs.Prelude.{◌≡◌, ℕ, Bool, true, false, List, [], ◌++◌, Option, Some}
use Rattle.session_model.specs.Meaning.{Meaning}
use Rattle.px_link.specs.Link.{Seen, AsItIs}
use Rattle.px_link.specs.Net.{Place, Coming, Kept, NetSeen, Keeps, new_link}
use Rattle.px_peer.specs.declared.Pair.{Pair}
use Rattle.px_proxyproto.specs.Headers.{IsHeader}
use Rattle.px_proxyproto.specs.Nets.{heading_for, introduced}
use Rattle.fcgi_link.specs.Asked.{Responder, asked_for}
use Rattle.px_proxyproto.specs.declared.meeting.Met.{Met}
use Rattle.px_proxyproto.specs.declared.meeting.Met.TheVariants as met
use Rattle.htx_drive.specs.Headline.{IsSessionOf}
use Rattle.htx_drive.specs.declared.Ran.{Ran}
use Rattle.serve_run.specs.Met.{MetSo, TurnedAway}

-- these bytes stand behind a header of this pair
pub record BehindHeader (all own : List ℕ) (pair : Option Pair) : Type 0 where
  pub header : List ℕ
  pub whole : all ≡ header ++ own
  pub is : IsHeader header pair

-- What of a link's stream a session is of, and for which pair: where the stream is to begin with a header, what stands behind it, for the header's; else all
-- of it, for one that the link may tell.
abbrev pub IsOwn : (accepts_header : Bool) → (tells : Option Pair → Type 0) → (all own : List ℕ) → Option Pair → Type 0
IsOwn true tells all own pair = BehindHeader all own pair
IsOwn false tells all own pair = (own ≡ all) × tells pair

-- A caller was served so: what it and the servers were sent is the session of its own part of the link's stream, or where a read of that failed of what came
-- before, and of the servers that the connects found, which ran so. Each connected link asked the application, where there is one, and began with the header of
-- its pair, or with none.
pub record CallerSession {L : Type 0} (M : Meaning) (tells : Option Pair → Type 0) (accepts_header : Bool) (sends_header : Option ℕ) (responder : Option Responder) (seen : L → Seen) (wrote : L → List ℕ → Type 0) (to : Place) (begins client : L) (first_net net : NetSeen) (link : Coming) (answers : List (Option Coming)) (kept : List Kept) (pair : Option Pair) (ran : Ran) : Type 0 where
  pub own : List ℕ
  pub is_own : IsOwn accepts_header tells link.bytes own pair
  pub to_come : (seen begins).to_come ≡ Some own
  pub session : IsSessionOf M seen wrote begins client to (introduced (heading_for sends_header pair) (asked_for responder first_net)) net ran own link.ending answers kept

-- by how it was met: a caller by its session, and whoever isn't heard was turned away
abbrev pub ServedAsTold : {L : Type 0} → (M : Option Pair → Meaning) → (tells : Option Pair → Type 0) → (accepts_header : Bool) → (sends_header : Option ℕ) → (responder : Option Responder) → (seen : L → Seen) → (wrote : L → List ℕ → Type 0) → (to : Place) → (begins client : L) → (first_net net : NetSeen) → (link : Coming) → (answers : List (Option Coming)) → (kept : List Kept) → (ran : Ran) → Met → Type 0
ServedAsTold M tells accepts_header sends_header responder seen wrote to begins client first_net net link answers kept ran (met.Caller pair) =
    CallerSession (M pair) tells accepts_header sends_header responder seen wrote to begins client first_net net link answers kept pair ran
ServedAsTold M tells accepts_header sends_header responder seen wrote to begins client first_net net link answers kept ran met.Refused = TurnedAway seen wrote begins client first_net net ran

-- This link was accepted, with this stream, and nothing was written to it yet; it was met so; it was served by how it was met; and then it was kept. Where its
-- stream isn't to begin with a header, it was met as a caller, and nothing was read of it for that.
pub record ServedSession {L N : Type 0} (M : Option Pair → Meaning) (tells : L → Option Pair → Type 0) (accepts_header : Bool) (sends_header : Option ℕ) (responder : Option Responder) (seen : L → Seen) (wrote : L → List ℕ → Type 0) (net_seen : N → NetSeen) (to : Place) (link : Coming) (answers : List (Option Coming)) (kept : List Kept) (after : N) (ran : Ran) : Type 0 where
  pub first : L
  pub begins : L
  pub client : L
  pub lent_net : N
  pub given_net : N
  pub how : Met
  pub accepted : seen first ≡ new_link AsItIs link
  pub unwritten : wrote first []
  pub so : MetSo tells accepts_header seen wrote first begins how
  pub served : ServedAsTold M (tells first) accepts_header sends_header responder seen wrote to begins client (net_seen lent_net) (net_seen given_net) link answers kept ran how
  pub keeps : Keeps (wrote client) (net_seen given_net) (net_seen after) (seen client)
