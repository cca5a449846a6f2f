use Rattle.std.specs.Prelude.{ℕ, Option}
use Rattle.px_peer.specs.declared.Pair.{Pair}
use Rattle.px_link.specs.Net.{NetSeen}
use Rattle.px_proxyproto.specs.Meeting.{source_in}
use Rattle.px_proxyproto.specs.Nets.{heading_for, introduced}
use Rattle.http_rules.specs.declared.config.Config.{Config}
use Rattle.px_link.specs.Net.{address_of}
use Rattle.px_peer.specs.declared.Peer.{Peer}
use Rattle.htx_drive.specs.Cores.{core_seen}
use Rattle.htx_drive.specs.Machine.{CoreSeen}
use Rattle.forward_core.specs.Meaning.Product.{meaning_of}
use Rattle.session_core.specs.History.{Past}
use Rattle.session_core.specs.Leads.{Stands}
use Rattle.session_core.specs.declared.machine.Core.{Core}
use Rattle.session_model.specs.Meaning.{Meaning}
use Rattle.forward_core.specs.Joined.Joined.{SessionStands, request_of, answer_of}
use Rattle.forward_core.specs.declared.joined.directions.Directions.{Directions}
use Rattle.fcgi_link.specs.Asked.{Responder}
use Rattle.serve_run.specs.Drove.{AsksFirst, DrivesFor, Drove}
use Rattle.proxy_sessions.specs.Connections.{ServesClient}
use Rattle.proxy_sessions.proofs.Clients.{serves, as_asked, as_met}
use Rattle.proxy_sessions.proofs.serving.ConfigSessionsSessions.run.Goals as goal

pub returns-clause-session : goal.returns-clause-session
returns-clause-session g c =
    let opener : Config = c.args.self.now.driven.opener in
    let met = c.run.ensures.session in
    let meaning : Config × ℕ → Meaning = λ s. meaning_of s.0 in
    let stands : Config × ℕ → Core Directions → Past → Type 0 = λ s core past. Stands (meaning_of s.0) request_of answer_of (SessionStands s) core.sides core.at past in
    let sees : Core Directions → CoreSeen = λ core. core_seen (request_of core.sides) (answer_of core.sides) core.at core.lost in
    let cfg : Option Peer → Config × ℕ = λ peer. (record opener { peer = peer }, opener.limits.bufsize) in
    let to = address_of c.args.self.now.driven.to.now in
    let sends : Option ℕ = c.args.self.now.driven.sends_header in
    let first_net = g.N.Net.seen c.args.net.now in
    let net = g.N.Net.seen c.run.new.net in
    let responder : Option Responder = c.args.self.now.driven.responder in
    let begun : Option Pair → NetSeen → NetSeen = λ pair asked. introduced (heading_for sends pair) asked in
    record {
      begins = met.begins;
      how = met.how;
      so = met.so;
      served =
          as_met g.H.Link.seen g.H.Link.wrote (DrivesFor meaning stands sees g.H.Link.seen g.H.Link.wrote cfg sends responder to)
          (λ pair begins client first_net net result. AsksFirst responder g.H.Link.seen g.H.Link.wrote begins client first_net net
          (λ asked. ServesClient (record opener { peer = source_in pair }) g.H.Link.seen g.H.Link.wrote to begins client (introduced (heading_for sends pair) asked) net result) result)
          met.how met.begins c.run.new.client first_net net c.run.result
          (λ pair h. as_asked responder g.H.Link.seen g.H.Link.wrote met.begins c.run.new.client first_net net
          (λ asked. Drove meaning stands sees g.H.Link.seen g.H.Link.wrote (cfg (source_in pair)) to met.begins c.run.new.client (begun pair asked) net c.run.result)
          (λ asked. ServesClient (record opener { peer = source_in pair }) g.H.Link.seen g.H.Link.wrote to met.begins c.run.new.client (begun pair asked) net c.run.result)
          c.run.result
          (λ asked d. serves meaning stands sees g.H.Link.seen g.H.Link.wrote (cfg (source_in pair)) to met.begins c.run.new.client (begun pair asked) net
          (λ core ran own ending answers kept a b e f r. c.ran_is_the_session.ensures (cfg (source_in pair)) core met.begins c.run.new.client to (begun pair asked) net ran own ending answers kept a b e f r)
          c.run.result d) h)
          met.served;
    }
