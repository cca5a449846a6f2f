use Rattle.std.proofs.lemmas.Bool.{false≢true}
use Rattle.forward_core.proofs.JoinedLemmas.Serving.{needs_of}
use Rattle.std.proofs.Common.{sym, ◌++◌, ◌∙◌}
use Rattle.forward_core.proofs.JoinedLemmas.Serving.{steps_on, sound_both, runs_for, vars_for}
use Rattle.forward_core.proofs.joined.sides.DirectionsWorks.step_answer.Goals as goal

pub returns-clause-placed : goal.returns-clause-placed
returns-clause-placed c =
    let d = c.args.self.now in
    let a = c.step_answer.new.self in
    let rules = c.step_answer.new.rules in
    let e = c.in_ok-step_answer.ensures in
    let x = c.requires.placed in
    let p = x.past.1 in
    let s = x.past.2 in
    let sends = x.is_at.stand.0 in
    let m = e.leads x.past.0 p.asking p.server p.to_client p.now p.saying s.answer (runs_for x.past.0 d c.bytes.result.now p c.bytes.ensures.bytes sends s) (vars_for x.past.0 d p sends x.is_at.stand.1 s) in
    record {
      is_at = record {
        sound = sound_both d a rules e.sound e.size c.step_answer.ensures.ready c.step_answer.ensures.config x.is_at.sound;
        stand = (sends, e.serving);
      };
      past = (x.past.0, record p { to_client = p.to_client ++ m.put; now = m.behind }, steps_on x.past.0 d a rules p m sends e.serving c.step_answer.ensures.config s);
    }

pub returns-clause-leads : goal.returns-clause-leads
returns-clause-leads c = λ settings p session was.
    let cfg = settings.0 in
    let s = session.directions in
    let d = c.args.self.now in
    let a = c.step_answer.new.self in
    let rules = c.step_answer.new.rules in
    let e = c.in_ok-step_answer.ensures in
    let x = c.requires.placed in
    let sends = x.is_at.stand.0 in
    let m = e.leads cfg p.asking p.server p.to_client p.now p.saying s.answer (runs_for cfg d c.bytes.result.now p c.bytes.ensures.bytes sends s) (vars_for cfg d p sends x.is_at.stand.1 s) in
    let q = record p { to_client = p.to_client ++ m.put; now = m.behind } in
    record {
      put = m.put;
      behind = m.behind;
      stands = record {
        directions = steps_on cfg d a rules p m sends e.serving c.step_answer.ensures.config s;
        windows = (session.windows.0, e.window_size ∙ session.windows.1);
      };
      answers = c.answers.ensures cfg a q m.stands e.serving;
      before = λ old unbegun. c.comes_before.ensures cfg a q m.stands e.serving unbegun;
      window = m.window;
      began = e.begun;
      heard = e.heard;
    }

pub returns-clause-waits : goal.returns-clause-waits
returns-clause-waits c =
    let d = c.args.self.now in
    let e = c.in_ok-step_answer.ensures in
    let x = c.requires.placed in
    let p = x.past.1 in
    let s = x.past.2 in
    let sends = x.is_at.stand.0 in
    (e.leads x.past.0 p.asking p.server p.to_client p.now p.saying s.answer (runs_for x.past.0 d c.bytes.result.now p c.bytes.ensures.bytes sends s) (vars_for x.past.0 d p sends x.is_at.stand.1 s)).waits

pub step_answer-requires-clause-sound : goal.step_answer-requires-clause-sound
step_answer-requires-clause-sound c = c.requires.placed.is_at.sound.answer

pub step_answer-requires-clause-serving : goal.step_answer-requires-clause-serving
step_answer-requires-clause-serving c = c.requires.placed.is_at.stand.1

pub step_answer-requires-clause-ready : goal.step_answer-requires-clause-ready
step_answer-requires-clause-ready c = c.requires.placed.is_at.sound.rules

pub step_answer-requires-clause-size : goal.step_answer-requires-clause-size
step_answer-requires-clause-size c = sym c.requires.placed.is_at.sound.answer_size

pub returns-in_err-step_answer-clause-succeeds : goal.returns-in_err-step_answer-clause-succeeds
returns-in_err-step_answer-clause-succeeds c = λ settings p s none. absurd (false≢true (c.in_err-step_answer.ensures.succeeds (needs_of settings.0 c.args.self.now p s.directions none)))
