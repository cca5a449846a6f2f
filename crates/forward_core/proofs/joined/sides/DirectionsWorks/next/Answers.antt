use Rattle.std.proofs.Common.{◌∙◌}
use Rattle.session_core.specs.Leads.{renewed_at}
use Rattle.forward_core.specs.Request.Seen.{place_of}
use Rattle.forward_core.specs.Request.Stands.{left_of}
use Rattle.forward_core.proofs.JoinedLemmas.Serving.{renews_now, at_start, busy_sending, held_served}
use Rattle.forward_core.proofs.joined.sides.DirectionsWorks.next.Goals as goal

pub returns-clause-placed : goal.returns-clause-placed
returns-clause-placed c =
    let d = c.args.self.now in
    let r = c.next.new.self in
    let a = c.next-2.new.self in
    let rules = c.begin_exchange.new.self in
    let x = c.requires.placed in
    let p = x.past.1 in
    let s = x.past.2 in
    let stands = c.next-2.ensures.leads x.past.0 p.asking p.server p.to_client p.now p.saying s.answer in
    record {
      is_at = at_start d r a rules c.next.ensures.sound c.next.ensures.limits c.next-2.ensures.sound c.next-2.ensures.size (c.begin_exchange.ensures.ready x.is_at.sound.rules) c.begin_exchange.ensures.config
          c.next.ensures.place c.next-2.ensures.place x.is_at.sound;
      past = (
        x.past.0,
        renewed_at p (left_of d.request),
        renews_now x.past.0 d r a rules p c.next.ensures.leads c.next.ensures.place c.begin_exchange.ensures.config c.begin_exchange.ensures.vars
            (held_served x.past.0 d p x.is_at.stand.0 x.is_at.stand.1 c.requires.answered s) s stands,
      );
    }

pub returns-clause-leads : goal.returns-clause-leads
returns-clause-leads c = λ settings p session was whole sent.
    let cfg = settings.0 in
    let s = session.directions in
    let d = c.args.self.now in
    let x = c.requires.placed in
    let w = c.came_whole.ensures cfg d.request p.vars p.came p.asking p.to_server p.reply whole s.request in
    record {
      used = w.used;
      left = left_of d.request;
      whole = record { came = w.came_is; goes = w.goes };
      stands = record {
        directions = renews_now cfg d c.next.new.self c.next-2.new.self c.begin_exchange.new.self p c.next.ensures.leads c.next.ensures.place c.begin_exchange.ensures.config c.begin_exchange.ensures.vars
            (held_served cfg d p x.is_at.stand.0 x.is_at.stand.1 c.requires.answered s) s (c.next-2.ensures.leads cfg p.asking p.server p.to_client p.now p.saying s.answer);
        windows = (c.next.ensures.window_size ∙ session.windows.0, c.next-2.ensures.window_size ∙ session.windows.1);
      };
    }

pub next-requires-clause-sound : goal.next-requires-clause-sound
next-requires-clause-sound c = c.requires.placed.is_at.sound.request

pub next-requires-clause-busy : goal.next-requires-clause-busy
next-requires-clause-busy c = busy_sending (place_of c.args.self.now.request) c.requires.placed.is_at.stand.0

pub next-requires-2 : goal.next-requires-2
next-requires-2 c = record { sound = c.requires.placed.is_at.sound.answer; answered = c.requires.answered }
