-- What a configuration makes of a connection of a record.
use Rattle.std.specs.Prelude.{◌≡◌, ℕ, List, [], drop, Bool, true, false, Option, Some, None}
use Rattle.http_model.specs.declared.Close.TheVariants.{Failed}
use Rattle.http_model.specs.declared.End.TheVariants.{Closed}
use Rattle.session_model.specs.Session.{Out}
use Rattle.fcgi_model.specs.Application.{Application}
use Rattle.px_peer.specs.declared.Pair.{Pair}
use Rattle.px_link.specs.declared.turns.Turn.{Turn}
use Rattle.px_proxyproto.specs.declared.front.Front.{Front}
use Rattle.px_proxyproto.specs.declared.front.Front.TheVariants as fronts
use Rattle.px_proxyproto.specs.Meeting.{source_in}
use Rattle.px_proxyproto.specs.Nets.{heading_for, manner_of}
use Rattle.px_proxyproto.specs.declared.heading.Heading.{Heading}
use Rattle.px_proxyproto.specs.Reading.{StandsInFront}
use Rattle.rec_format.specs.Recorded.{Visit}
use Rattle.http_rules.specs.declared.config.Config.{Config}
use Rattle.forward_core.specs.Meaning.Product.{meaning_of}
use Rattle.htx_drive.specs.Replay.Asked.{ReplaysAsking}
use Rattle.htx_drive.specs.Replay.Headed.{ReplaysIn}
use Rattle.htx_drive.specs.Replay.Replayed.{Replays}
use Rattle.proxy_sessions.specs.Driven.{stands_for, seen_of}

-- its session is that of the configuration, and the turns led to it
abbrev pub ReplaysWith : Config → List Turn → Visit → Out → Type 0
ReplaysWith cfg = Replays (meaning_of cfg) (stands_for cfg) seen_of

-- the same, where each server is sent a header first, of this heading
abbrev pub ReplaysSending : Option Heading → Config → List Turn → Visit → Out → Type 0
ReplaysSending None cfg = ReplaysWith cfg
ReplaysSending (Some heading) cfg = ReplaysIn (manner_of (Some heading)) (meaning_of cfg) (stands_for cfg) seen_of

-- the same, where the servers are an application, which is sent no header: a head of its answers has at most as many bytes as a buffer
abbrev pub ReplaysOver : Option Application → Option Heading → Config → List Turn → Visit → Out → Type 0
ReplaysOver None heading cfg = ReplaysSending heading cfg
ReplaysOver (Some application) heading cfg = ReplaysAsking application cfg.limits.bufsize (meaning_of cfg) (stands_for cfg) seen_of

-- what a client comes to that isn't heard: nothing was sent to anybody, no server was opened, and the client's link was closed Failed
abbrev pub unheard_out : Out
unheard_out = record { exchanges = 0; how = Closed; cut = None; client = record { bytes = []; close = Failed }; servers = [] }

-- the connection with its client's stream behind so many bytes
abbrev pub visit_behind : (len : ℕ) → Visit → Visit
visit_behind len visit = record visit { client = record visit.client { bytes = drop len visit.client.bytes } }

-- the configuration for a connection of this header's source
abbrev pub told_by : Option Pair → Config → Config
told_by pair cfg = record cfg { peer = source_in pair }

-- By what stands in front of its client's stream: behind a header the session is that of the configuration with the header's source as its peer,
-- over the stream behind the header, and its pair goes on to servers that are sent one; where no header stands there, the client isn't heard.
abbrev pub ReplaysBehind : Front → Config → List Turn → Visit → Out → Type 0
ReplaysBehind (fronts.Header len pair) cfg turns visit out = ReplaysOver cfg.application (heading_for cfg.send_proxy pair) (told_by pair cfg) turns (visit_behind len visit) out
ReplaysBehind fronts.Other cfg turns visit out = out ≡ unheard_out
ReplaysBehind fronts.Part cfg turns visit out = out ≡ unheard_out

-- whether each client's stream begins with a header decides
abbrev pub ReplaysBy : (accepts_header : Bool) → Config → List Turn → Visit → Out → Type 0
ReplaysBy true cfg turns visit out = (front : Front) × StandsInFront front visit.client.bytes × ReplaysBehind front cfg turns visit out
ReplaysBy false cfg turns visit out = ReplaysOver cfg.application (heading_for cfg.send_proxy None) cfg turns visit out

-- a connection comes to this outcome by the configuration
abbrev pub ReplaysFor : Config → List Turn → Visit → Out → Type 0
ReplaysFor cfg = ReplaysBy cfg.accept_proxy cfg
