-- Connections of a record whose client is told by a header.
use Rattle.std.proofs.Common.{◌≡◌, ◌≤◌, ℕ, List, drop, Option, subst, true, arith}
use Rattle.std.specs.Prelude.{Result, Ok, Err, IfOk}
use Rattle.http_model.specs.declared.Ending.{Ending}
use Rattle.px_peer.specs.declared.Peer.{Peer}
use Rattle.px_peer.specs.declared.Pair.{Pair}
use Rattle.px_link.specs.declared.turns.Turn.{Turn}
use Rattle.px_proxyproto.specs.Meeting.{source_in}
use Rattle.px_proxyproto.specs.Nets.{heading_for}
use Rattle.px_proxyproto.specs.declared.heading.Heading.{Heading}
use Rattle.px_proxyproto.specs.Reading.{StandsInFront}
use Rattle.px_proxyproto.specs.declared.front.Front.TheVariants as fronts
use Rattle.rec_format.specs.declared.record.Connection.{Connection}
use Rattle.rec_format.specs.declared.record.ServerSpec.{ServerSpec}
use Rattle.rec_format.specs.declared.record.Stream.{Stream}
use Rattle.rec_format.specs.declared.report.Report.{Report}
use Rattle.rec_format.specs.Read.{stream, servers, visit}
use Rattle.rec_format.specs.Recorded.{Visit}
use Rattle.rec_format.specs.ReportParts.{out_of}
use Rattle.http_rules.specs.declared.config.Config.{Config}
use Rattle.http_rules.specs.Valid.{IsValid}
use Rattle.session_core.specs.Consequences.{IsTotal}
use Rattle.session_core.specs.MeaningLaws.Bound.{IsBounded}
use Rattle.forward_core.specs.Meaning.Product.{meaning_of}
use Rattle.proxy_sessions.specs.Ready.{IsReady}
use Rattle.fcgi_model.specs.Application.{Application}
use Rattle.proxy_sessions.specs.Recorded.{ReplaysOver, ReplaysBy, visit_behind}

-- the peer of a configuration says nothing of its sizes, addresses, rules and filters
pub valid_for : (cfg : Config) (peer : Option Peer) → IsValid cfg → IsValid (record cfg { peer = peer })
valid_for cfg peer v =
    record {
      limits = v.limits;
      bind_port = v.bind_port;
      server_port = v.server_port;
      server_host = v.server_host;
      send_proxy = v.send_proxy;
      application = v.application;
      request = v.request;
      response = v.response;
      after = v.after;
      req_filters = v.req_filters;
      res_filters = v.res_filters;
    }

-- a valid configuration makes cores of any peer
pub ready_for : (cfg : Config) (peer : Option Peer) → IsValid cfg → ((c : Config) → IsValid c → IsBounded (meaning_of c)) → ((c : Config) → IsTotal (meaning_of c)) → IsReady (record cfg { peer = peer }) cfg.limits.bufsize
ready_for cfg peer v bounded total =
    let told : Config = record cfg { peer = peer } in
    let valid : IsValid told = valid_for cfg peer v in
    let least : 1024 ≤ told.limits.bufsize = valid.limits.least in
    record {
      valid = valid;
      window_room = omega (arith, least);
      some_room = omega (arith, least);
      bounded = bounded told valid;
      total = total told;
    }

-- what was run over a copy of the bytes behind the header is run behind it
pub behind_is : {E : Type 0} (application : Option Application) (heading : Option Heading) (cfg : Config) (turns : List Turn) (conn : Connection) (len : ℕ) (client : Stream) (slice : List (Option ServerSpec)) (r : Result Report E) → client.bytes ≡ drop len conn.client.bytes → client.ending ≡ conn.client.ending → slice ≡ conn.servers.items
    → IfOk r (λ report. ReplaysOver application heading cfg turns (record { client = stream client; servers = servers slice }) (out_of report))
    → IfOk r (λ report. ReplaysOver application heading cfg turns (visit_behind len (visit conn)) (out_of report))
behind_is application heading cfg turns conn len client slice r bytes ending same replayed =
    let R : List ℕ → Ending → List (Option ServerSpec) → Type 0 = λ b e s. IfOk r (λ report. ReplaysOver application heading cfg turns (record { client = record { bytes = b; ending = e }; servers = servers s }) (out_of report)) in
    subst (λ b. R b conn.client.ending conn.servers.items) bytes (subst (λ e. R client.bytes e conn.servers.items) ending (subst (λ s. R client.bytes client.ending s) same replayed))

-- a client with a header was run as its source, and its servers were sent its pair where they are sent a header
pub heard : {E : Type 0} (cfg : Config) (turns : List Turn) (v : Visit) (len : ℕ) (pair : Option Pair) (peer : Option Peer) (heading : Option Heading) (r : Result Report E) → StandsInFront (fronts.Header len pair) v.client.bytes
    → peer ≡ source_in pair → heading ≡ heading_for cfg.send_proxy pair
    → IfOk r (λ report. ReplaysOver cfg.application heading (record cfg { peer = peer }) turns (visit_behind len v) (out_of report)) → IfOk r (λ report. ReplaysBy true cfg turns v (out_of report))
heard cfg turns v len pair peer heading (Ok report) stands is sends replayed =
    let R : Option Heading → Option Peer → Type 0 = λ h p. ReplaysOver cfg.application h (record cfg { peer = p }) turns (visit_behind len v) (out_of report) in
    (fronts.Header len pair, stands, subst (λ (h : Option Heading). R h (source_in pair)) sends (subst (R heading) is replayed))
heard cfg turns v len pair peer heading (Err fault) stands is sends replayed = tt
