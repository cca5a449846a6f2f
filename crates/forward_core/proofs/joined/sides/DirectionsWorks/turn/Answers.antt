use Rattle.forward_core.proofs.JoinedLemmas.SayLemmas.{said_fits, said_size}
use Rattle.session_core.specs.Sided.{Saying, asker_in}
use Rattle.forward_core.specs.Answer.Seen.{size_of}
use Rattle.forward_core.specs.Answer.Stands.{list_text}
use Rattle.std.proofs.Common.{◌≡◌, true, false, refl, sym, ap, ◌∙◌}
use Rattle.htx_arena.specs.Layout.Contents.{Contents}
use Rattle.http_model.specs.Refusal.{refusal, closing}
use Rattle.forward_core.specs.Request.Seen as requests
use Rattle.forward_core.proofs.JoinedLemmas.Serving.{turns, sound_both, begun_sending}
use Rattle.forward_core.proofs.joined.sides.DirectionsWorks.turn.Goals as goal

pub returns-clause-placed : goal.returns-clause-placed
returns-clause-placed c =
    let d = c.args.self.now in
    let a = c.turn_to.new.self in
    let rules = record c.say_closing.new.self { said = c.turn_to.new.list } in
    let e = c.turn_to.ensures in
    let x = c.requires.placed in
    let p = x.past.1 in
    let m = closing (refusal c.args.code) in
    let t = e.leads x.past.0 p.asking p.server p.to_client p.now p.saying m.head m.body x.past.2.answer (ap (λ (x : Contents). x.blocks) c.arena-said.ensures.value ∙ c.say_closing.ensures.said ∙ c.lists.ensures.blocks m (c.lists.ensures.closing c.args.code)) refl in
    let said : Saying = record { text = list_text (asker_in p.asking).head_asked m.head m.body; left = t.left } in
    let ready = c.say_closing.ensures.ready in
    record {
      is_at = record {
        sound = sound_both d a rules e.sound e.size (record { valid = ready.valid; scratch = ready.scratch; said = e.list_size ∙ ap (λ (x : Contents). x.size) c.arena-said.ensures.value ∙ ready.said; steady = ready.steady; begun = ready.begun; clear = ready.clear }) c.say_closing.ensures.config x.is_at.sound;
        stand = (begun_sending (requests.place_of d.request) x.is_at.stand.0, e.place);
      };
      past = (x.past.0, record p { saying = said }, turns x.past.0 d a rules p said x.is_at.stand.0 e.place c.say_closing.ensures.config x.past.2 t.stands);
    }

pub returns-clause-leads : goal.returns-clause-leads
returns-clause-leads c = λ settings p session before.
    let cfg = settings.0 in
    let s = session.directions in
    let d = c.args.self.now in
    let a = c.turn_to.new.self in
    let rules = record c.say_closing.new.self { said = c.turn_to.new.list } in
    let e = c.turn_to.ensures in
    let x = c.requires.placed in
    let m = closing (refusal c.args.code) in
    let t = e.leads cfg p.asking p.server p.to_client p.now p.saying m.head m.body s.answer (ap (λ (x : Contents). x.blocks) c.arena-said.ensures.value ∙ c.say_closing.ensures.said ∙ c.lists.ensures.blocks m (c.lists.ensures.closing c.args.code)) refl in
    let said : Saying = record { text = list_text (asker_in p.asking).head_asked m.head m.body; left = t.left } in
    record {
      saying = said;
      stands = record {
        directions = turns cfg d a rules p said x.is_at.stand.0 e.place c.say_closing.ensures.config s t.stands;
        windows = (session.windows.0, e.window_size ∙ session.windows.1);
      };
      turned = record {
        heads = t.heads;
        begins = t.begins;
        spelled = c.lists.ensures.spelled m _ (c.lists.ensures.closing c.args.code);
        said = t.said;
        sent = λ done. absurd (let off : true ≡ false = sym done ∙ t.starts in cc off);
      };
    }

pub say_closing-requires : goal.say_closing-requires
say_closing-requires c = record { ready = c.requires.placed.is_at.sound.rules }

pub turn_to-requires-clause-sound : goal.turn_to-requires-clause-sound
turn_to-requires-clause-sound c = c.requires.placed.is_at.sound.answer

pub turn_to-requires-clause-serving : goal.turn_to-requires-clause-serving
turn_to-requires-clause-serving c = c.requires.placed.is_at.stand.1

pub turn_to-requires-clause-begun : goal.turn_to-requires-clause-begun
turn_to-requires-clause-begun c = c.requires.begun

pub turn_to-requires-clause-fits : goal.turn_to-requires-clause-fits
turn_to-requires-clause-fits c =
    let d = c.args.self.now in
    let new = c.say_closing.new.self in
    said_fits c.arena-said.result.now.blocks c.room-room.result c.arena-said.result.now.size (size_of d.answer) c.room-room.ensures
    (ap (λ (x : Contents). x.size) c.arena-said.ensures.value ∙ said_size d.rules new (size_of d.answer) c.say_closing.ensures.ready c.say_closing.ensures.config c.requires.placed.is_at.sound.answer_size)
