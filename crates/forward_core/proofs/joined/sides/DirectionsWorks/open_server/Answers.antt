use Rattle.std.proofs.Common.{ap, ◌∙◌}
use Rattle.session_core.specs.History.{no_stream}
use Rattle.forward_core.specs.Answer.Stands.{is_serving}
use Rattle.forward_core.proofs.JoinedLemmas.Serving.{opens, sound_both}
use Rattle.forward_core.proofs.joined.sides.DirectionsWorks.open_server.Goals as goal

pub returns-clause-placed : goal.returns-clause-placed
returns-clause-placed c =
    let d = c.args.self.now in
    let a = c.open_server.new.self in
    let rules = c.begin_answer.new.self in
    let e = c.open_server.ensures in
    let x = c.requires.placed in
    let p = x.past.1 in
    let s = x.past.2 in
    let sends = x.is_at.stand.0 in
    let idle = x.is_at.stand.1 in
    record {
      is_at = record {
        sound = sound_both d a rules e.sound e.size (c.begin_answer.ensures.ready x.is_at.sound.rules) c.begin_answer.ensures.config x.is_at.sound;
        stand = (sends, ap is_serving e.place);
      };
      past = (
        x.past.0,
        record p { server = no_stream },
        opens x.past.0 d a rules p sends idle e.place c.begin_answer.ensures.config c.begin_answer.ensures.vars s (e.leads x.past.0 p.asking p.server p.to_client p.now p.saying s.answer),
      );
    }

pub returns-clause-leads : goal.returns-clause-leads
returns-clause-leads c = λ settings p session.
    let e = c.open_server.ensures in
    let stand = c.requires.placed.is_at.stand in
    let cfg = settings.0 in
    let s = session.directions in
    record {
      directions = opens cfg c.args.self.now c.open_server.new.self c.begin_answer.new.self p stand.0 stand.1 e.place c.begin_answer.ensures.config c.begin_answer.ensures.vars s
          (e.leads cfg p.asking p.server p.to_client p.now p.saying s.answer);
      windows = (session.windows.0, e.window_size ∙ session.windows.1);
    }

pub returns-clause-answers : goal.returns-clause-answers
returns-clause-answers c = λ settings p s none.
    let e = c.open_server.ensures in
    c.answers.ensures settings.0 c.open_server.new.self (record p { server = no_stream }) (e.leads settings.0 p.asking p.server p.to_client p.now p.saying s.directions.answer) (ap is_serving e.place)

pub open_server-requires : goal.open_server-requires
open_server-requires c = record { sound = c.requires.placed.is_at.sound.answer; idle = c.requires.placed.is_at.stand.1 }
