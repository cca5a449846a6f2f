use Rattle.std.proofs.Common.{ℕ, ◌<◌, length, false, ap, sym, ◌∙◌, refl, subst}
use Rattle.std.specs.Prelude.{is_none, is_some}
use Rattle.http_model.specs.declared.Limits.{Limits}
use Rattle.http_model.specs.Reading.{Nothing, Refused}
use Rattle.wire_buf.specs.Buffer.{Buffer}
use Rattle.h1_head.specs.declared.answer.Side.TheVariants as side
use Rattle.forward_core.specs.declared.request.place.Place.{Place}
use Rattle.forward_core.specs.declared.request.place.Place.TheVariants as place
use Rattle.lane.specs.Direction.State.{LaneState}
use Rattle.forward_core.specs.Request.Reads.{HeadComes}
use Rattle.forward_core.specs.Request.Rests.{WaitsForHead, RestsAt}
use Rattle.forward_core.specs.Request.Stands.{IsSound}
use Rattle.forward_core.specs.declared.request.side.RequestSide.{RequestSide}
use Rattle.forward_core.proofs.RequestLemmas.Events.{for_same, same_by}
use Rattle.forward_core.proofs.RequestLemmas.Reading.{at_reading, on_reading, still_reading, nothing_out, each_nothing, asks_reading, shows_none, head_read, reads_on, some_room, refuses_bytes, head_uses}
use Rattle.forward_core.proofs.RequestLemmas.Lines.{none_reading, words_head, line_room}
use Rattle.forward_core.proofs.RequestLemmas.Resting.{more_rests}
use Rattle.forward_core.proofs.RequestLemmas.Untouched.{behind_none}
use Rattle.forward_core.proofs.request.side.RequestSide.read_head.Goals as goal

pub returns-then-is_waiting-clause-tells : goal.returns-then-is_waiting-clause-tells
returns-then-is_waiting-clause-tells c =
    let lane = c.args.self.now.lane in
    let rests = c.is_waiting.ensures.rests c.if-is_waiting.true in
    let waits : WaitsForHead lane = subst (λ (at : Place). RestsAt at lane) c.requires.place (c.requires.sound.rests rests) in
    record {
      place = c.requires.place;
      is_open = ap is_none waits.ended;
      room = c.is_waiting.ensures.room c.if-is_waiting.true;
      rests = rests;
      leads = λ cfg vars came asking to_server reply h. h;
    }

pub returns-in-More-clause-sound : goal.returns-in-More-clause-sound
returns-in-More-clause-sound c =
    let e = c.in-More.ensures in
    record {
      well = e.tells.reading.ready.sound;
      at = still_reading c.args.self.now.place c.args.self.now.lane c.read_head.new.self c.requires.place c.requires.sound.at e.tells.reading (ap (λ (b : Buffer ℕ). b.items) e.output);
      rests = λ rest. more_rests c.args.self.now.place c.args.self.now.lane c.read_head.new.self c.requires.place e.limits e.ended e.tells;
      line = c.requires.sound.line ∙ ap (λ (l : Limits). l.bufsize) (sym e.limits);
    }

pub returns-in-More-clause-tells : goal.returns-in-More-clause-tells
returns-in-More-clause-tells c =
    let e = c.in-More.ensures in
    let old = c.args.self.now.lane in
    let new = c.read_head.new.self in
    record {
      place = c.requires.place;
      is_open = ap is_none (e.ended ∙ e.tells.ended);
      room = some_room new.input.capacity new.input.items e.tells.room;
      rests = refl;
      leads = λ cfg vars came asking to_server reply h. record {
        is_for = for_same cfg old new (same_by old new e.limits e.sieve) h.is_for;
        at = on_reading c.args.self.now.place cfg new vars came asking to_server reply c.requires.place (reads_on old new came e.ended e.tells (at_reading c.args.self.now.place cfg old vars came asking to_server reply c.requires.place h.at));
        ending = h.ending ∙ sym e.ended;
        line = h.line;
        untouched = h.untouched;
      };
    }

pub returns-in-Nothing-clause-sound : goal.returns-in-Nothing-clause-sound
returns-in-Nothing-clause-sound c =
    record { well = c.in-Nothing.ensures.tells.reading.ready.sound; at = ap (λ (b : Buffer ℕ). b.items) c.in-Nothing.ensures.output ∙ nothing_out c.args.self.now.place c.args.self.now.lane c.requires.place c.requires.sound.at; rests = λ e. tt; line = c.requires.sound.line ∙ ap (λ (l : Limits). l.bufsize) (sym c.in-Nothing.ensures.limits) }

pub returns-in-Nothing-clause-tells : goal.returns-in-Nothing-clause-tells
returns-in-Nothing-clause-tells c =
    let e = c.in-Nothing.ensures in
    let old = c.args.self.now.lane in
    let new = c.read_head.new.self in
    record {
      place = refl;
      leads = λ cfg vars came asking to_server reply h. record {
        is_for = for_same cfg old new (same_by old new e.limits e.sieve) h.is_for;
        at = tt;
        ending = h.ending ∙ sym e.ended;
        line = shows_none cfg old came Nothing c.args.self.now.line.bytes h.is_for (at_reading c.args.self.now.place cfg old vars came asking to_server reply c.requires.place h.at) (each_nothing old new e.tells) tt (none_reading c.args.self.now.place cfg came c.args.self.now.line.bytes c.requires.place h.line);
        untouched = behind_none came c.args.self.now.untouched;
      };
      asks = λ cfg vars came asking to_server reply h stream on.
          asks_reading cfg old vars came Nothing h.is_for (at_reading c.args.self.now.place cfg old vars came asking to_server reply c.requires.place h.at) (each_nothing old new e.tells) stream on;
    }

pub keep_line-requires : goal.keep_line-requires
keep_line-requires c =
    let read = c.read_head.new.self in
    line_room read.msg.size read.limits.bufsize c.args.self.now.line.cap c.in-Head.ensures.tells.ready.sound.sized.msg (c.requires.sound.line ∙ ap (λ (l : Limits). l.bufsize) (sym c.in-Head.ensures.limits))

pub returns-in-Head-clause-sound : goal.returns-in-Head-clause-sound
returns-in-Head-clause-sound c =
    let s = c.args.self.now in
    let e = c.in-Head.ensures in
    let with_lane : LaneState → RequestSide = λ l. record { lane = l; place = place.Idle; line = c.keep_line.new.line; awaits = s.awaits; at_rest = false; untouched = s.untouched } in
    let sound : IsSound (with_lane c.read_head.new.self) = record {
      well = e.tells.ready.sound;
      at = ap (λ (b : Buffer ℕ). b.items) e.output ∙ nothing_out s.place s.lane c.requires.place c.requires.sound.at;
      rests = λ rest. tt;
      line = c.keep_line.ensures.cap ∙ (c.requires.sound.line ∙ ap (λ (l : Limits). l.bufsize) (sym e.limits));
    } in
    subst (λ (l : LaneState). IsSound (with_lane l)) (sym c.keep_line.ensures.same) sound

pub returns-in-Head-clause-tells : goal.returns-in-Head-clause-tells
returns-in-Head-clause-tells c =
    let s = c.args.self.now in
    let e = c.in-Head.ensures in
    let old = s.lane in
    let new = c.read_head.new.self in
    let line = c.keep_line.new.line in
    let with_lane : LaneState → RequestSide = λ l. record { lane = l; place = place.Idle; line = line; awaits = s.awaits; at_rest = false; untouched = s.untouched } in
    let comes : HeadComes s (with_lane new) = record {
      place = refl;
      received = record { head = e.tells.head; framing = new.framing; declared = new.declared; close = new.close };
      has = record { ready = e.tells.ready; stage = e.tells.stage };
      holds = record { blocks = e.tells.blocks; framing = refl; declared = refl; close = refl };
      is_request = e.tells.received.line;
      came = λ cfg vars came asking to_server reply h.
          head_read cfg old (with_lane new) came h.is_for (for_same cfg old new (same_by old new e.limits e.sieve) h.is_for) e.ended
          (at_reading s.place cfg old vars came asking to_server reply c.requires.place h.at) e.tells (words_head new.msg.blocks e.tells.head line.bytes c.keep_line.ensures.kept e.tells.blocks);
    } in
    subst (λ (l : LaneState). HeadComes s (with_lane l)) (sym c.keep_line.ensures.same) comes

pub returns-in-Refuse-clause-sound : goal.returns-in-Refuse-clause-sound
returns-in-Refuse-clause-sound c =
    record { well = c.in-Refuse.ensures.tells.sound; at = ap (λ (b : Buffer ℕ). b.items) c.in-Refuse.ensures.output ∙ nothing_out c.args.self.now.place c.args.self.now.lane c.requires.place c.requires.sound.at; rests = λ e. tt; line = c.requires.sound.line ∙ ap (λ (l : Limits). l.bufsize) (sym c.in-Refuse.ensures.limits) }

pub returns-in-Refuse-clause-tells : goal.returns-in-Refuse-clause-tells
returns-in-Refuse-clause-tells c =
    let e = c.in-Refuse.ensures in
    let old = c.args.self.now.lane in
    let new = c.read_head.new.self in
    record {
      place = refl;
      leads = λ cfg vars came asking to_server reply h. record {
        is_for = for_same cfg old new (same_by old new e.limits e.sieve) h.is_for;
        at = tt;
        ending = h.ending ∙ sym e.ended;
        line = shows_none cfg old came (Refused c.in-Refuse.code) c.args.self.now.line.bytes h.is_for (at_reading c.args.self.now.place cfg old vars came asking to_server reply c.requires.place h.at) e.tells.refused tt (none_reading c.args.self.now.place cfg came c.args.self.now.line.bytes c.requires.place h.line);
        untouched = behind_none came c.args.self.now.untouched;
      };
      asks = λ cfg vars came asking to_server reply h stream on.
          asks_reading cfg old vars came (Refused c.in-Refuse.code) h.is_for (at_reading c.args.self.now.place cfg old vars came asking to_server reply c.requires.place h.at) e.tells.refused stream on;
    }

pub returns-in-Head-clause-uses : goal.returns-in-Head-clause-uses
returns-in-Head-clause-uses c =
    let old = c.args.self.now.lane in
    let t = c.in-Head.ensures.tells in
    let less : length c.read_head.new.self.input.items < length old.input.items =
    head_uses old.limits old.input.items c.read_head.new.self.input.items (is_some old.ended) (record { head = t.head; framing = c.read_head.new.self.framing; declared = c.read_head.new.self.declared; close = c.read_head.new.self.close })
    (λ stream got rest h. c.has_bytes.ensures side.Request old.limits stream got rest h) t.begins in
    subst (λ (l : LaneState). length l.input.items < length old.input.items) (sym c.keep_line.ensures.same) less

pub returns-in-Refuse-clause-uses : goal.returns-in-Refuse-clause-uses
returns-in-Refuse-clause-uses c =
    let old = c.args.self.now.lane in
    refuses_bytes old.limits old.input.items (is_some old.ended) c.in-Refuse.code c.in-Refuse.ensures.tells.refused
