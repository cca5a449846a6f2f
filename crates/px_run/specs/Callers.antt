-- Who asks over a connection. Its client's link is greeted so long as a header of the PROXY protocol is read of it; then it was met, and its session is the caller's; or its client isn't heard.
use Rattle.std.specs.Prelude.{◌≡◌, ℕ, ◌⊎◌, ◌<◌, ◌≤◌, List, Bool, true, false, Option, Some, None, Result, Ok, Err, ⊤}
use Rattle.session_model.specs.Meaning.{Meaning}
use Rattle.session_core.specs.History.{Past}
use Rattle.px_link.specs.Link.{Seen}
use Rattle.px_link.specs.Net.{Place, NetSeen}
use Rattle.px_peer.specs.declared.Peer.{Peer}
use Rattle.px_peer.specs.declared.Pair.{Pair}
use Rattle.px_proxyproto.specs.Greeting.{Greets, GreetsSoFar}
use Rattle.px_proxyproto.specs.Meeting.{source_in}
use Rattle.px_proxyproto.specs.Nets.{heading_for, introduced}
use Rattle.px_proxyproto.specs.Reading.{Read}
use Rattle.px_proxyproto.specs.declared.greeting.Greeting.TheVariants as greetings
use Rattle.px_proxyproto.specs.declared.meeting.Met.{Met}
use Rattle.px_proxyproto.specs.declared.meeting.Met.TheVariants as met
use Rattle.htx_drive.specs.Machine.{CoreSeen}
use Rattle.htx_drive.specs.Weave.Outcome.{Untouched}
use Rattle.htx_drive.specs.declared.Ran.{Ran}
use Rattle.htx_drive.specs.declared.SessionFault.{SessionFault}
use Rattle.serve_run.specs.Met.{MetSo, TurnedAway, unheard}
use Rattle.px_run.specs.Course.{EndedOrLeft}
use Rattle.px_run.specs.Connection.{◌∘◌, IsAt}
use Rattle.px_run.specs.declared.connection.Connection.{Connection}
use Rattle.px_run.specs.declared.held.Held.{Held}
use Rattle.px_run.specs.declared.held.Held.TheVariants as helds
use Rattle.px_run.specs.declared.caller.Caller.{Caller}
use Rattle.px_run.specs.declared.caller.Caller.TheVariants as callers
use Rattle.px_run.specs.declared.plan.Opening.{Opening}

-- the pair of one that was met: who asks, and where
abbrev pub pair_of : Caller → Option Pair
pair_of (callers.Greets greeter) = None
pair_of (callers.Known pair) = pair
pair_of callers.Refused = None

-- a header is read of it still
abbrev pub is_greeted : Caller → Bool
is_greeted (callers.Greets greeter) = true
is_greeted (callers.Known pair) = false
is_greeted callers.Refused = false

-- there was no header
abbrev pub is_refused : Caller → Bool
is_refused (callers.Greets greeter) = false
is_refused (callers.Known pair) = false
is_refused callers.Refused = true

-- a net that is to introduce its caller to each server, once it is known who asks
abbrev pub net_for : (opening : Opening) → Caller → NetSeen → NetSeen
net_for opening (callers.Greets greeter) net = net
net_for opening (callers.Known pair) net = introduced (heading_for opening.sends_header pair) net
net_for opening callers.Refused net = net

-- Who asks over a link that was accepted now: a header is to say it, of which nothing was read; or this pair, which the link may tell.
abbrev pub IsCallerOf : {L : Type 0} → (tells : L → Option Pair → Type 0) → (accepts_header : Bool) → (link : L) → Caller → Type 0
IsCallerOf tells true link (callers.Greets greeter) = (first : Seen) → GreetsSoFar greeter first first
IsCallerOf tells true link (callers.Known pair) = ⊥
IsCallerOf tells true link callers.Refused = ⊥
IsCallerOf tells false link (callers.Greets greeter) = ⊥
IsCallerOf tells false link (callers.Known pair) = tells link pair
IsCallerOf tells false link callers.Refused = ⊥

-- by what was read of a header: a part of it, all of it, with this pair, or that there is none
abbrev pub ReadSo : Caller → (first now : Seen) → Type 0
ReadSo (callers.Greets greeter) first now = GreetsSoFar greeter first now
ReadSo (callers.Known pair) first now = Greets first now (greetings.Got pair)
ReadSo callers.Refused first now = Greets first now greetings.Bad

-- how many bytes of a header were read that goes on
abbrev pub count_read : Caller → ℕ
count_read (callers.Greets greeter) = greeter.count
count_read (callers.Known pair) = 0
count_read callers.Refused = 0

-- Where a header goes on still, more of it was read than before. None is longer.
abbrev pub ReadMore : (old new : Caller) → Type 0
ReadMore old (callers.Greets greeter) = (count_read old < greeter.count) × (greeter.count ≤ 65551)
ReadMore old (callers.Known pair) = ⊤
ReadMore old callers.Refused = ⊤

-- ---- where it stands

-- A header is to come first. What came of one was read, no read failed, and nothing was written.
pub record IsGreeted {L : Type 0} (accepts_header : Bool) (seen : L → Seen) (wrote : L → List ℕ → Type 0) (first client : L) (greeter : Read) : Type 0 where
  pub accepts : accepts_header ≡ true
  pub so_far : GreetsSoFar greeter (seen first) (seen client)
  pub written : (bytes : List ℕ) → wrote first bytes → wrote client bytes

-- the same, and nothing else of it was touched
pub record IsGreeting {C L : Type 0} (accepts_header : Bool) (seen : L → Seen) (wrote : L → List ℕ → Type 0) (first client : L) (server : Option L) (first_net net : NetSeen) (ran : Option (Result Ran SessionFault)) (held : Held C) (greeter : Read) : Type 0 where
  pub greeted : IsGreeted accepts_header seen wrote first client greeter
  pub no_server : server ≡ None
  pub same_net : net ≡ first_net
  pub goes_on : ran ≡ None
  pub no_core : held ≡ helds.Nothing

-- This caller asks. Its session is where it leads from the link as it was met, and from the net that was to introduce it then.
pub record IsServed {C L N : Type 0} (M : Option Pair → Meaning) (stands : Option Pair → C → Past → Type 0) (sees : C → CoreSeen) (sound rested : C → Type 0) (seen : L → Seen) (wrote : L → List ℕ → Type 0) (tells : L → Option Pair → Type 0) (accepts_header : Bool) (opening : Opening) (sees_net : N → NetSeen) (first client : L) (server : Option L) (to : Place) (first_net net : NetSeen) (ran : Option (Result Ran SessionFault)) (held : Held C) (pair : Option Pair) : Type 0 where
  pub begins : L
  pub met : MetSo tells accepts_header seen wrote first begins (met.Caller pair)
  pub own : N
  pub introduces : sees_net own ≡ introduced (heading_for opening.sends_header pair) first_net
  pub at : IsAt (M pair) (stands pair) sees sound rested seen wrote begins client server to (sees_net own) net ran held

-- its client isn't heard: it has ended, with nothing sent to anybody
pub record IsTurnedAway {C L : Type 0} (seen : L → Seen) (wrote : L → List ℕ → Type 0) (tells : L → Option Pair → Type 0) (accepts_header : Bool) (first client : L) (server : Option L) (first_net net : NetSeen) (ran : Option (Result Ran SessionFault)) (held : Held C) : Type 0 where
  pub begins : L
  pub met : MetSo tells accepts_header seen wrote first begins met.Refused
  pub away : TurnedAway seen wrote begins client first_net net unheard
  pub no_server : server ≡ None
  pub over : ran ≡ Some (Ok unheard)
  pub no_core : held ≡ helds.Nothing

-- by who asks: it has a core only once it was met
abbrev pub IsAtFor : {C L N : Type 0} → (M : Option Pair → Meaning) → (stands : Option Pair → C → Past → Type 0) → (sees : C → CoreSeen) → (sound rested : C → Type 0) → (seen : L → Seen) → (wrote : L → List ℕ → Type 0) → (tells : L → Option Pair → Type 0) → (accepts_header : Bool) → (opening : Opening) → (sees_net : N → NetSeen) → (first : L) → Caller → (client : L) → (server : Option L) → Place → (first_net net : NetSeen) → Option (Result Ran SessionFault) → Held C → Type 0
IsAtFor M stands sees sound rested seen wrote tells accepts_header opening sees_net first (callers.Greets greeter) client server to first_net net ran held = IsGreeting accepts_header seen wrote first client server first_net net ran held greeter
IsAtFor M stands sees sound rested seen wrote tells accepts_header opening sees_net first (callers.Known pair) client server to first_net net ran held = IsServed M stands sees sound rested seen wrote tells accepts_header opening sees_net first client server to first_net net ran held pair
IsAtFor M stands sees sound rested seen wrote tells accepts_header opening sees_net first callers.Refused client server to first_net net ran held = IsTurnedAway seen wrote tells accepts_header first client server first_net net ran held

-- this connection stands so, whoever asks under this configuration
abbrev pub StandsFor : {C L N S : Type 0} → (meaning : S → Meaning) → (stands : S → C → Past → Type 0) → (for_peer : S → Option Peer → S) → (cfg : S) → (sees : C → CoreSeen) → (sound rested : C → Type 0) → (seen : L → Seen) → (wrote : L → List ℕ → Type 0) → (tells : L → Option Pair → Type 0) → (accepts_header : Bool) → (opening : Opening) → (sees_net : N → NetSeen) → (first : L) → Place → (first_net : N) → Connection C L N → Type 0
StandsFor meaning stands for_peer cfg sees sound rested seen wrote tells accepts_header opening sees_net first to first_net c =
    IsAtFor (meaning ∘ for_peer cfg ∘ source_in) (stands ∘ for_peer cfg ∘ source_in) sees sound rested seen wrote tells accepts_header opening sees_net first c.caller c.conn.client c.conn.server to (sees_net first_net) (sees_net c.conn.net) c.conn.ran c.core

-- ---- what it came to

-- By how it was met: a caller's session has ended or was given up with the loop, over a net that was to introduce it, and who isn't heard was turned away.
abbrev pub CameAsMet : {C L : Type 0} → (M : Option Pair → Meaning) → (stands : Option Pair → C → Past → Type 0) → (sees : C → CoreSeen) → (seen : L → Seen) → (wrote : L → List ℕ → Type 0) → (opening : Opening) → Met → (begins client : L) → Place → (first_net net : NetSeen) → Option (Result Ran SessionFault) → Type 0
CameAsMet M stands sees seen wrote opening (met.Caller pair) begins client to first_net net came = EndedOrLeft (M pair) (stands pair) sees seen wrote begins client to (introduced (heading_for opening.sends_header pair) first_net) net came
CameAsMet M stands sees seen wrote opening met.Refused begins client to first_net net None = ⊥
CameAsMet M stands sees seen wrote opening met.Refused begins client to first_net net (Some (Ok ran)) = TurnedAway seen wrote begins client first_net net ran
CameAsMet M stands sees seen wrote opening met.Refused begins client to first_net net (Some (Err fault)) = ⊥

-- it was met, and came to this
pub record WasMet {C L : Type 0} (M : Option Pair → Meaning) (stands : Option Pair → C → Past → Type 0) (sees : C → CoreSeen) (seen : L → Seen) (wrote : L → List ℕ → Type 0) (tells : L → Option Pair → Type 0) (accepts_header : Bool) (opening : Opening) (first client : L) (to : Place) (first_net net : NetSeen) (ran : Option (Result Ran SessionFault)) : Type 0 where
  pub begins : L
  pub how : Met
  pub so : MetSo tells accepts_header seen wrote first begins how
  pub came : CameAsMet M stands sees seen wrote opening how begins client to first_net net ran

-- It was given up with the loop before it was met: what came of a header was read, its link is closed Failed, and nothing else was done.
pub record LeftUnmet {L : Type 0} (accepts_header : Bool) (seen : L → Seen) (wrote : L → List ℕ → Type 0) (first client : L) (first_net net : NetSeen) (came : Option (Result Ran SessionFault)) : Type 0 where
  pub begins : L
  pub greeter : Read
  pub greeted : IsGreeted accepts_header seen wrote first begins greeter
  pub untouched : Untouched seen wrote begins client first_net net 0
  pub none : came ≡ None

abbrev pub CameBack : {C L : Type 0} → (M : Option Pair → Meaning) → (stands : Option Pair → C → Past → Type 0) → (sees : C → CoreSeen) → (seen : L → Seen) → (wrote : L → List ℕ → Type 0) → (tells : L → Option Pair → Type 0) → (accepts_header : Bool) → (opening : Opening) → (first client : L) → Place → (first_net net : NetSeen) → Option (Result Ran SessionFault) → Type 0
CameBack M stands sees seen wrote tells accepts_header opening first client to first_net net came =
    WasMet M stands sees seen wrote tells accepts_header opening first client to first_net net came ⊎ LeftUnmet accepts_header seen wrote first client first_net net came
