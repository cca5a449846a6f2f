use Rattle.std.proofs.Common.{ℕ, true, ap, sym, ◌∙◌, refl}
use Rattle.http_model.specs.declared.Limits.{Limits}
use Rattle.wire_buf.specs.Buffer.{Buffer}
use Rattle.forward_core.proofs.RequestLemmas.Events.{for_same}
use Rattle.forward_core.proofs.RequestLemmas.Resting.{step_rests, rest_rests}
use Rattle.forward_core.proofs.RequestLemmas.Stepping.{Steps, step_sound, step_stands, step_keeps, rest_keeps, nothing_put}
use Rattle.forward_core.proofs.request.side.RequestSide.step_request.Goals as goal

-- ---- nothing is to go out

pub returns-then-not-is_going_out-clause-sound : goal.returns-then-not-is_going_out-clause-sound
returns-then-not-is_going_out-clause-sound c =
    let s = c.args.self.now in
    let over = c.is_going_out.ensures.rests c.if-not-is_going_out.true in
    record { well = c.requires.sound.well; at = c.requires.sound.at; rests = λ rest. rest_rests s.place s.lane c.requires.begun over c.requires.sound.at; line = c.requires.sound.line }

pub returns-then-not-is_going_out-clause-puts : goal.returns-then-not-is_going_out-clause-puts
returns-then-not-is_going_out-clause-puts c =
    let s = c.args.self.now in
    nothing_put s.place s.line s.awaits s.untouched s.at_rest true s.lane

pub returns-then-not-is_going_out-clause-keeps : goal.returns-then-not-is_going_out-clause-keeps
returns-then-not-is_going_out-clause-keeps c =
    let s = c.args.self.now in
    let over = c.is_going_out.ensures.rests c.if-not-is_going_out.true in
    rest_keeps s.place s.line s.awaits s.untouched s.at_rest s.lane over c.requires.sound.at

-- ---- a step of the lane

pub returns : goal.returns
returns c =
    let e = c.step.ensures in
    let old = c.args.self.now.lane in
    let new = c.step.new.self in
    let sending = c.is_going_out.ensures.place c.if-not-is_going_out.false in
    let t : Steps old new = record {
      keeps = record { same = record { limits = e.limits; filters = e.filters }; ended = e.ended };
      most = e.capacity;
      dropped = e.kept;
      drops = λ d. ap (λ (b : Buffer ℕ). b.items) (e.drops d);
      shrinks = e.shrinks;
      settled = e.settled;
      sends = e.stands;
      at = e.stage;
      goes_on = e.no_stall;
    } in
    record {
      sound = record {
        well = e.sound;
        at = step_sound c.args.self.now.place old new sending t c.requires.sound.at;
        rests = λ rest. step_rests c.args.self.now.place old new sending (λ p s. record { no_cut = e.no_cut p s; nothing_back = e.all p s }) c.requires.sound.at;
        line = c.requires.sound.line ∙ ap (λ (l : Limits). l.bufsize) (sym e.limits);
      };
      puts = record {
        put = e.grows.0;
        window = e.grows.1;
        stands = λ cfg vars came asking to_server reply h. record {
          is_for = for_same cfg old new t.keeps.same h.is_for;
          at = step_stands c.args.self.now.place cfg old new vars came asking to_server e.grows.0 reply sending t e.grows.1 h.at;
          ending = h.ending ∙ sym e.ended;
          line = h.line;
          untouched = h.untouched;
        };
      };
      keeps = step_keeps c.args.self.now.place c.args.self.now.line c.args.self.now.awaits c.args.self.now.untouched c.args.self.now.at_rest old new sending t c.requires.sound.at;
      place = refl;
      limits = e.limits;
      window_size = e.window;
    }
