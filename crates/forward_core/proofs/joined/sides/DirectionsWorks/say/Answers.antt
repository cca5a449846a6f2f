use Rattle.std.proofs.Common.{◌++◌, ◌∙◌}
use Rattle.forward_core.specs.Answer.Seen.{place_of}
use Rattle.forward_core.specs.Request.Seen as requests
use Rattle.forward_core.proofs.JoinedLemmas.Joining.{at_answer, stands_answer}
use Rattle.forward_core.specs.Joined.Begins.{says_at}
use Rattle.forward_core.proofs.joined.sides.DirectionsWorks.say.Goals as goal

pub returns-clause-placed : goal.returns-clause-placed
returns-clause-placed c = λ at says x.
    let d = c.args.self.now in
    let a = c.say.new.self in
    let e = c.say.ensures in
    let p = x.past.1 in
    let s = x.past.2 in
    let m = e.leads x.past.0 p.asking p.server p.to_client p.now p.saying s.answer in
    record {
      is_at = at_answer d a at e.sound e.size e.place x.is_at;
      past = (x.past.0, record p { to_client = p.to_client ++ m.put; saying = record p.saying { left = m.left } }, stands_answer x.past.0 d a p p.server (p.to_client ++ m.put) (record p.saying { left = m.left }) e.place s m.stands);
    }

pub returns-clause-leads : goal.returns-clause-leads
returns-clause-leads c = λ settings p session.
    let cfg = settings.0 in
    let s = session.directions in
    let d = c.args.self.now in
    let a = c.say.new.self in
    let e = c.say.ensures in
    let x = c.requires.placed.2 in
    let m = e.leads cfg p.asking p.server p.to_client p.now p.saying s.answer in
    record {
      put = m.put;
      left = m.left;
      stands = record {
        directions = stands_answer cfg d a p p.server (p.to_client ++ m.put) (record p.saying { left = m.left }) e.place s m.stands;
        windows = (session.windows.0, e.window_size ∙ session.windows.1);
      };
      saying = m.said;
      window = m.window;
      all = m.all;
    }

pub returns-clause-waits : goal.returns-clause-waits
returns-clause-waits c =
    let d = c.args.self.now in
    let x = c.requires.placed.2 in
    let p = x.past.1 in
    (c.say.ensures.leads x.past.0 p.asking p.server p.to_client p.now p.saying x.past.2.answer).waits

pub say-requires : goal.say-requires
say-requires c =
    let d = c.args.self.now in
    let x = c.requires.placed.2 in
    record { sound = x.is_at.sound.answer; says = says_at c.requires.placed.0 (requests.place_of d.request) (place_of d.answer) c.requires.placed.1 x.is_at.stand }
