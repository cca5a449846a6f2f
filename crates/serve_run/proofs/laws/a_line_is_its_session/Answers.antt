use Rattle.std.proofs.Common.{◌∷◌, [], Option, Ok, ap, ◌∙◌}
use Rattle.px_link.specs.Link.{Seen, AsItIs}
use Rattle.px_link.specs.Net.{IsNew}
use Rattle.px_peer.specs.declared.Pair.{Pair}
use Rattle.px_proxyproto.specs.Meeting.{source_in}
use Rattle.px_proxyproto.specs.Nets.{heading_for, introduced}
use Rattle.fcgi_link.specs.Asked.{asked_for}
use Rattle.serve_run.specs.Drove.{Drove, DrivesFor}
use Rattle.serve_run.proofs.Chain.{next_as}
use Rattle.serve_run.proofs.Drives.{asks_ran, asked_alike, asked_kept}
use Rattle.serve_run.proofs.Meetings.{meets_ending, served_as_told}
use Rattle.serve_run.proofs.laws.a_line_is_its_session.Goals as goal

pub returns : goal.returns
returns g c = λ cfg accepts_header sends_header responder to before after ran link later answers kept one a b k.
    let seen = g.L.Link.seen in
    let wrote = g.L.Link.wrote in
    let tells = g.L.HasPair.tells in
    let net_seen = g.N.Net.seen in
    let cfg_for = g.C.ResetsFor.for_peer cfg in
    let first = next_as (net_seen before).accepts (net_seen one.lent_net).accepts (link ∷ later) (IsNew AsItIs (seen one.first) (wrote one.first [])) a one.accepted.first in
    let told = one.session in
    let ending = meets_ending tells accepts_header one.first (seen one.first) (seen told.begins) told.how told.so.meets ∙ ap (λ (s : Seen). s.ending) first.1.0 in
    record {
      first = one.first;
      begins = told.begins;
      client = one.client;
      lent_net = one.lent_net;
      given_net = one.given_net;
      how = told.how;
      accepted = first.1.0;
      unwritten = first.1.1;
      so = told.so;
      served =
          served_as_told (λ (pair : Option Pair). g.C.Machine.meaning (cfg_for (source_in pair))) tells accepts_header sends_header responder seen wrote
          (DrivesFor g.C.Machine.meaning g.C.Machine.stands g.C.Machine.seen seen wrote cfg_for sends_header responder to)
          to one.first told.begins one.client (net_seen one.lent_net) (net_seen one.given_net) link answers kept ran told.how
          (λ pair own e did.
          let asked = asked_for responder (net_seen one.lent_net) in
          let so =
          asks_ran responder seen wrote told.begins one.client (net_seen one.lent_net) (net_seen one.given_net)
          (λ n. Drove g.C.Machine.meaning g.C.Machine.stands g.C.Machine.seen seen wrote (cfg_for (source_in pair)) to told.begins one.client (introduced (heading_for sends_header pair) n) (net_seen one.given_net) (Ok ran)) ran did in
          c.ran_is_the_session.ensures (cfg_for (source_in pair)) so.0 told.begins one.client to (introduced (heading_for sends_header pair) asked) (net_seen one.given_net) ran own link.ending answers kept e ending
          (asked_alike responder (net_seen before) (net_seen one.lent_net) one.accepted.behind.answers one.accepted.behind.manner ∙ b)
          (asked_kept responder (net_seen one.lent_net) ∙ one.accepted.behind.kept ∙ k) so.1)
          (ap (λ (s : Seen). s.to_come) first.1.0) told.so told.served;
      keeps = one.kept;
    }
