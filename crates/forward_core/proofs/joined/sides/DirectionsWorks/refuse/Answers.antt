use Rattle.std.proofs.lemmas.Bool.{false≢true}
use Rattle.forward_core.proofs.JoinedLemmas.Serving.{needs_of}
use Rattle.std.proofs.Common.{◌∙◌, subst, ℕ, List}
use Rattle.session_core.specs.Sided.{unsaid}
use Rattle.forward_core.specs.Joined.Asks.{SaysRefusal}
use Rattle.forward_core.specs.Rules.Ruling.{config_of}
use Rattle.forward_core.specs.Request.Seen as requests
use Rattle.forward_core.proofs.JoinedLemmas.Serving.{refuses, sound_both, begun_sending}
use Rattle.forward_core.proofs.joined.sides.DirectionsWorks.refuse.Goals as goal

pub returns-clause-placed : goal.returns-clause-placed
returns-clause-placed c =
    let d = c.args.self.now in
    let a = c.refuse.new.answer in
    let rules = c.refuse.new.rules in
    let e = c.in_ok-refuse.ensures in
    let x = c.requires.placed in
    let p = x.past.1 in
    let says = subst (λ (m : List ℕ). SaysRefusal (config_of d.rules) d.answer a c.args.code m d.rules.vars c.asks_head-no_body.result) c.bytes.ensures.bytes e.says in
    let r = refuses x.past.0 d a rules p c.args.code c.asks_head-no_body.result x.is_at.stand.0 x.is_at.stand.1 e.config e.place c.asks_head-no_body.ensures x.past.2 says in
    record {
      is_at = record { sound = sound_both d a rules e.sound e.size e.ready e.config x.is_at.sound; stand = (begun_sending (requests.place_of d.request) x.is_at.stand.0, e.place) };
      past = (x.past.0, record p { saying = unsaid r.text }, r.stands);
    }

pub returns-clause-leads : goal.returns-clause-leads
returns-clause-leads c = λ settings p session.
    let cfg = settings.0 in
    let s = session.directions in
    let d = c.args.self.now in
    let a = c.refuse.new.answer in
    let e = c.in_ok-refuse.ensures in
    let x = c.requires.placed in
    let says = subst (λ (m : List ℕ). SaysRefusal (config_of d.rules) d.answer a c.args.code m d.rules.vars c.asks_head-no_body.result) c.bytes.ensures.bytes e.says in
    let r = refuses cfg d a c.refuse.new.rules p c.args.code c.asks_head-no_body.result x.is_at.stand.0 x.is_at.stand.1 e.config e.place c.asks_head-no_body.ensures s says in
    record { text = r.text; spelled = r.spelled; stands = record { directions = r.stands; windows = (session.windows.0, e.window_size ∙ session.windows.1) } }

pub refuse-requires-clause-sound : goal.refuse-requires-clause-sound
refuse-requires-clause-sound c = c.requires.placed.is_at.sound.answer

pub refuse-requires-clause-idle : goal.refuse-requires-clause-idle
refuse-requires-clause-idle c = c.requires.placed.is_at.stand.1

pub refuse-requires-clause-ready : goal.refuse-requires-clause-ready
refuse-requires-clause-ready c = c.requires.placed.is_at.sound.rules

pub refuse-requires-clause-size : goal.refuse-requires-clause-size
refuse-requires-clause-size c = c.requires.placed.is_at.sound.answer_size

pub returns-in_err-refuse-clause-succeeds : goal.returns-in_err-refuse-clause-succeeds
returns-in_err-refuse-clause-succeeds c = λ settings p s none. absurd (false≢true (c.in_err-refuse.ensures.succeeds (needs_of settings.0 c.args.self.now p s.directions none)))
