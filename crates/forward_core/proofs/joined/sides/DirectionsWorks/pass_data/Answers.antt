use Rattle.std.proofs.Common.{◌++◌, ap, ◌∙◌, take}
use Rattle.session_core.specs.History.{gains}
use Rattle.forward_core.specs.Answer.Stands.{is_serving}
use Rattle.forward_core.proofs.JoinedLemmas.Passing.{passes_placed, puts_on}
use Rattle.forward_core.proofs.joined.sides.DirectionsWorks.pass_data.Goals as goal

pub returns-clause-placed : goal.returns-clause-placed
returns-clause-placed c =
    let e = c.pass_data.ensures in
    passes_placed c.args.self.now c.pass_data.new.self c.args.bytes.now c.pass_data.result e.place e.none e.leads e.sound e.size c.requires.placed

pub returns-clause-leads : goal.returns-clause-leads
returns-clause-leads c = λ some settings p session.
    let cfg = settings.0 in
    let s = session.directions in
    let d = c.args.self.now in
    let a = c.pass_data.new.self in
    let e = c.pass_data.ensures in
    let came = take c.pass_data.result c.args.bytes.now in
    let x = e.leads some cfg p.asking p.server p.to_client p.now p.saying s.answer in
    let q = record p { server = gains p.server came; to_client = p.to_client ++ x.put } in
    let serves = ap is_serving e.place ∙ c.requires.placed.is_at.stand.1 in
    record {
      put = x.put;
      behind = p.now;
      stands = record {
        directions = puts_on d a came e.place cfg p s x;
        windows = (session.windows.0, e.window_size ∙ session.windows.1);
      };
      answers = c.answers.ensures cfg a q x.stands serves;
      before = λ old unbegun. c.comes_before.ensures cfg a q x.stands serves unbegun;
      window = x.window;
      began = e.begun;
      heard = λ was. e.heard ∙ was;
    }
