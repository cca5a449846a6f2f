use Rattle.std.proofs.Common.{◌++◌, ◌∙◌}
use Rattle.forward_core.specs.Request.Seen.{place_of}
use Rattle.forward_core.proofs.JoinedLemmas.Joining.{at_request, stands_request}
use Rattle.forward_core.proofs.JoinedLemmas.Stepping.{requests_on, sends_or_not}
use Rattle.forward_core.proofs.JoinedLemmas.AtServer.{sound_there, not_reading}
use Rattle.forward_core.proofs.joined.sides.DirectionsWorks.step_request.Goals as goal

pub returns-clause-placed : goal.returns-clause-placed
returns-clause-placed c = λ at x.
    let d = c.args.self.now in
    let r = c.step_request.new.self in
    let e = c.step_request.ensures in
    let p = x.past.1 in
    let s = x.past.2 in
    record {
      is_at = at_request d r at e.sound e.limits e.place x.is_at;
      past = (
        x.past.0,
        record p { to_server = p.to_server ++ e.puts.put },
        stands_request x.past.0 d r p p.came (p.to_server ++ e.puts.put) e.place s (e.puts.stands x.past.0 p.vars p.came p.asking p.to_server p.reply s.request),
      );
    }

pub returns-clause-leads : goal.returns-clause-leads
returns-clause-leads c = λ settings p session was.
    let cfg = settings.0 in
    let s = session.directions in
    let d = c.args.self.now in
    let r = c.step_request.new.self in
    let e = c.step_request.ensures in
    let stands = e.puts.stands cfg p.vars p.came p.asking p.to_server p.reply s.request in
    record {
      put = e.puts.put;
      stands = record {
        directions = stands_request cfg d r p p.came (p.to_server ++ e.puts.put) e.place s stands;
        windows = (e.window_size ∙ session.windows.0, session.windows.1);
      };
      requests = requests_on cfg d.request r p e.puts.put (sound_there d c.requires.placed) e.sound e.place e.keeps.dropped e.puts.window
          (λ sends. c.requests.ensures cfg r p.vars p.came p.asking (p.to_server ++ e.puts.put) p.reply sends stands) was (sends_or_not (place_of r));
      window = e.puts.window;
    }

pub step_request-requires-clause-sound : goal.step_request-requires-clause-sound
step_request-requires-clause-sound c = sound_there c.args.self.now c.requires.placed

pub step_request-requires-clause-begun : goal.step_request-requires-clause-begun
step_request-requires-clause-begun c = not_reading c.args.self.now c.requires.placed
