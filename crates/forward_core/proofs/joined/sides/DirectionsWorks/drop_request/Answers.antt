use Rattle.std.proofs.Common.{◌∙◌}
use Rattle.forward_core.proofs.JoinedLemmas.Joining.{at_request, stands_request}
use Rattle.forward_core.proofs.JoinedLemmas.Stepping.{was_put}
use Rattle.forward_core.proofs.joined.sides.DirectionsWorks.drop_request.Goals as goal

pub returns-clause-placed : goal.returns-clause-placed
returns-clause-placed c = λ at x.
    let d = c.args.self.now in
    let e = c.drop_request.ensures in
    let p = x.past.1 in
    let s = x.past.2 in
    let put = was_put x.past.0 d.request p.vars p.came p.asking p.to_server p.reply x.is_at.sound.request c.requires.waits s.request in
    record {
      is_at = at_request d c.drop_request.new.self at e.sound e.limits e.place x.is_at;
      past = (
        x.past.0,
        record p { to_server = put.0 },
        stands_request x.past.0 d c.drop_request.new.self p p.came put.0 e.place s (e.leads x.past.0 p.vars p.came p.asking p.to_server put.0 p.reply s.request put.1),
      );
    }

pub returns-clause-leads : goal.returns-clause-leads
returns-clause-leads c = λ settings p put session is.
    let e = c.drop_request.ensures in
    let cfg = settings.0 in
    let s = session.directions in
    record {
      directions = stands_request cfg c.args.self.now c.drop_request.new.self p p.came put e.place s (e.leads cfg p.vars p.came p.asking p.to_server put p.reply s.request is);
      windows = (e.window_size ∙ session.windows.0, session.windows.1);
    }

pub drop_request-requires-clause-sound : goal.drop_request-requires-clause-sound
drop_request-requires-clause-sound c = c.requires.placed.1.is_at.sound.request

pub returns-clause-request : goal.returns-clause-request
returns-clause-request c = c.drop_request.ensures.seen
