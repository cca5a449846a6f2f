use Rattle.std.proofs.Common.{refl, ap, ◌∙◌}
use Rattle.px_link.specs.Link.{Seen}
use Rattle.px_link.specs.Net.{address_of}
use Rattle.px_proxyproto.specs.declared.meeting.Met.TheVariants as met
use Rattle.serve_run.specs.Met.{MetSo, TurnedAway}
use Rattle.serve_run.proofs.Drives.{drives_visits, drives_puts, drives_manner, drives_fault, visits_none}
use Rattle.serve_run.proofs.Manners.{met_manner}
use Rattle.serve_run.proofs.Meetings.{rose_behind, puts_behind, turned_puts}
use Rattle.serve_run.proofs.driven.DrivenSessions.run.Goals as goal

pub returns-in-Caller-clause-session : goal.returns-in-Caller-clause-session
returns-in-Caller-clause-session g c =
    record {
      begins = c.meet.new.link;
      how = met.Caller c.in-Caller.pair;
      so = record { meets = c.in-Caller.ensures.meets; written = c.in-Caller.ensures.wrote };
      served = c.serve_pair.ensures.drives;
    }

pub returns-in-Caller-clause-visits : goal.returns-in-Caller-clause-visits
returns-in-Caller-clause-visits g c =
    drives_visits g.C.Machine.meaning g.C.Machine.stands g.C.Machine.seen g.L.Link.seen g.L.Link.wrote (g.C.ResetsFor.for_peer (g.O.Opens.settings c.args.self.now.opener)) c.args.self.now.sends_header c.args.self.now.responder (address_of c.args.self.now.to.now)
    c.in-Caller.pair c.meet.new.link c.serve_pair.new.client (g.N.Net.seen c.args.net.now) (g.N.Net.seen c.serve_pair.new.net) c.serve_pair.result c.serve_pair.ensures.drives

pub returns-in-Caller-clause-puts : goal.returns-in-Caller-clause-puts
returns-in-Caller-clause-puts g c =
    let so : MetSo g.L.HasPair.tells c.args.self.now.accepts_header g.L.Link.seen g.L.Link.wrote c.args.client.now c.meet.new.link (met.Caller c.in-Caller.pair) = record { meets = c.in-Caller.ensures.meets; written = c.in-Caller.ensures.wrote } in
    puts_behind g.L.HasPair.tells c.args.self.now.accepts_header g.L.Link.seen g.L.Link.wrote c.args.client.now c.meet.new.link c.serve_pair.new.client (met.Caller c.in-Caller.pair) so
    (drives_puts g.C.Machine.meaning g.C.Machine.stands g.C.Machine.seen g.L.Link.seen g.L.Link.wrote (g.C.ResetsFor.for_peer (g.O.Opens.settings c.args.self.now.opener)) c.args.self.now.sends_header c.args.self.now.responder (address_of c.args.self.now.to.now)
    c.in-Caller.pair c.meet.new.link c.serve_pair.new.client (g.N.Net.seen c.args.net.now) (g.N.Net.seen c.serve_pair.new.net) c.serve_pair.result c.serve_pair.ensures.drives)

pub returns-in-Caller-clause-manner : goal.returns-in-Caller-clause-manner
returns-in-Caller-clause-manner g c =
    drives_manner g.C.Machine.meaning g.C.Machine.stands g.C.Machine.seen g.L.Link.seen g.L.Link.wrote (g.C.ResetsFor.for_peer (g.O.Opens.settings c.args.self.now.opener)) c.args.self.now.sends_header c.args.self.now.responder (address_of c.args.self.now.to.now)
    c.in-Caller.pair c.meet.new.link c.serve_pair.new.client (g.N.Net.seen c.args.net.now) (g.N.Net.seen c.serve_pair.new.net) c.serve_pair.result c.serve_pair.ensures.drives
    ∙ met_manner g.L.HasPair.tells c.args.self.now.accepts_header c.args.client.now (g.L.Link.seen c.args.client.now) (g.L.Link.seen c.meet.new.link) (met.Caller c.in-Caller.pair) c.in-Caller.ensures.meets

pub returns-in-Caller-clause-fault : goal.returns-in-Caller-clause-fault
returns-in-Caller-clause-fault g c = λ e.
    let so : MetSo g.L.HasPair.tells c.args.self.now.accepts_header g.L.Link.seen g.L.Link.wrote c.args.client.now c.meet.new.link (met.Caller c.in-Caller.pair) = record { meets = c.in-Caller.ensures.meets; written = c.in-Caller.ensures.wrote } in
    rose_behind g.L.HasPair.tells c.args.self.now.accepts_header g.L.Link.seen g.L.Link.wrote c.args.client.now c.meet.new.link (met.Caller c.in-Caller.pair) _ so
    (drives_fault g.C.Machine.meaning g.C.Machine.stands g.C.Machine.seen g.L.Link.seen g.L.Link.wrote (g.C.ResetsFor.for_peer (g.O.Opens.settings c.args.self.now.opener)) c.args.self.now.sends_header c.args.self.now.responder (address_of c.args.self.now.to.now)
    c.in-Caller.pair c.meet.new.link c.serve_pair.new.client (g.N.Net.seen c.args.net.now) (g.N.Net.seen c.serve_pair.new.net) c.serve_pair.result c.serve_pair.ensures.drives e)

pub returns-in-Refused-clause-session : goal.returns-in-Refused-clause-session
returns-in-Refused-clause-session g c =
    record {
      begins = c.meet.new.link;
      how = met.Refused;
      so = record { meets = c.in-Refused.ensures.meets; written = c.in-Refused.ensures.wrote };
      served = record { is_unheard = c.turn_away.ensures.ran; closed = c.turn_away.ensures.closed; written = c.turn_away.ensures.wrote; untouched = refl };
    }

pub returns-in-Refused-clause-visits : goal.returns-in-Refused-clause-visits
returns-in-Refused-clause-visits g c = visits_none (address_of c.args.self.now.to.now) (g.N.Net.seen c.args.net.now)

pub returns-in-Refused-clause-puts : goal.returns-in-Refused-clause-puts
returns-in-Refused-clause-puts g c =
    let so : MetSo g.L.HasPair.tells c.args.self.now.accepts_header g.L.Link.seen g.L.Link.wrote c.args.client.now c.meet.new.link met.Refused = record { meets = c.in-Refused.ensures.meets; written = c.in-Refused.ensures.wrote } in
    let turned : TurnedAway g.L.Link.seen g.L.Link.wrote c.meet.new.link c.turn_away.new.client (g.N.Net.seen c.args.net.now) (g.N.Net.seen c.args.net.now) c.turn_away.result =
    record { is_unheard = c.turn_away.ensures.ran; closed = c.turn_away.ensures.closed; written = c.turn_away.ensures.wrote; untouched = refl } in
    puts_behind g.L.HasPair.tells c.args.self.now.accepts_header g.L.Link.seen g.L.Link.wrote c.args.client.now c.meet.new.link c.turn_away.new.client met.Refused so (turned_puts g.L.Link.seen g.L.Link.wrote c.meet.new.link c.turn_away.new.client _ _ _ turned)

pub returns-in-Refused-clause-manner : goal.returns-in-Refused-clause-manner
returns-in-Refused-clause-manner g c =
    ap (λ (s : Seen). s.manner) c.turn_away.ensures.closed
    ∙ met_manner g.L.HasPair.tells c.args.self.now.accepts_header c.args.client.now (g.L.Link.seen c.args.client.now) (g.L.Link.seen c.meet.new.link) met.Refused c.in-Refused.ensures.meets
