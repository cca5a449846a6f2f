use Rattle.std.proofs.Common.{◌≡◌, Option, refl, ap, ◌∙◌, []}
use Rattle.px_peer.specs.declared.Peer.{Peer}
use Rattle.http_rules.specs.declared.config.Config.{Config}
use Rattle.px_sample.specs.Variables.{no_variables}
use Rattle.forward_core.specs.Meaning.Beginning.{beginning}
use Rattle.forward_core.specs.Rules.Ruling.{config_of}
use Rattle.session_core.specs.History.{no_stream}
use Rattle.session_core.specs.Sided.{unsaid}
use Rattle.forward_core.specs.declared.joined.directions.Directions.{Directions}
use Rattle.forward_core.proofs.RulesLemmas.Peers.{room_in}
use Rattle.forward_core.proofs.JoinedLemmas.Fresh.{no_past, no_asking, no_reply, fresh_new, fresh_at, fresh_is}
use Rattle.forward_core.proofs.joined.sides.DirectionsRenewable.renew.Goals as goal

pub renew-requires : goal.renew-requires
renew-requires c = let placed = c.requires.placed.1 in record { sound = placed.is_at.sound.request }

pub renew-requires-2 : goal.renew-requires-2
renew-requires-2 c = let placed = c.requires.placed.1 in record { sound = placed.is_at.sound.answer }

pub renew_for-requires-clause-ready : goal.renew_for-requires-clause-ready
renew_for-requires-clause-ready c = let placed = c.requires.placed.1 in placed.is_at.sound.rules

pub renew_for-requires-clause-room : goal.renew_for-requires-clause-room
renew_for-requires-clause-room c = let sound = c.requires.placed.1.is_at.sound in room_in c.args.self.now.method.cap _ sound.method sound.rules.valid.limits.least

pub returns-clause-stands : goal.returns-clause-stands
returns-clause-stands c = λ settings p session.
    let cfg : Config = settings.0 in
    let s = session.directions in
    let d : Directions = record { request = c.renew.new.self; answer = c.renew-2.new.self; rules = c.renew_for.new.self; method = c.renew_for.new.text } in
    let r = c.renew.new.self in
    let a = c.renew-2.new.self in
    let same : config_of c.renew_for.new.self ≡ config_of c.args.self.now.rules = c.renew_for.ensures.config ∙ ap (λ (x : Option Peer). record (config_of c.args.self.now.rules) { peer = x }) c.peer-peer.ensures in (
      no_past cfg,
      record {
        directions = fresh_new cfg d r a refl refl (same ∙ s.config) s.laws (c.renew_for.ensures.vars ∙ ap (λ (x : Option Peer). beginning x) (c.peer-peer.ensures ∙ ap (λ (x : Config). x.peer) s.config)) c.renew.ensures.place
            (c.renew.ensures.stands cfg p.vars p.came p.asking p.to_server p.reply s.request (beginning cfg.peer) no_asking [] no_reply)
            (c.renew-2.ensures.stands cfg p.asking p.server p.to_client p.now p.saying s.answer no_asking no_stream no_variables (unsaid [])) c.renew-2.ensures.nobody;
        windows = (c.renew.ensures.window_size ∙ session.windows.0, c.renew-2.ensures.window_size ∙ session.windows.1);
      },
      fresh_is cfg d r a refl refl c.renew.ensures.open c.renew.ensures.window c.renew-2.ensures.window,
    )

pub returns-clause-placed : goal.returns-clause-placed
returns-clause-placed c =
    let placed = c.requires.placed.1 in
    let cfg : Config = placed.past.0 in
    let p = placed.past.1 in
    let s = placed.past.2 in
    let sound = placed.is_at.sound in
    let d : Directions = record { request = c.renew.new.self; answer = c.renew-2.new.self; rules = c.renew_for.new.self; method = c.renew_for.new.text } in
    let r = c.renew.new.self in
    let a = c.renew-2.new.self in
    let same : config_of c.renew_for.new.self ≡ config_of c.args.self.now.rules = c.renew_for.ensures.config ∙ ap (λ (x : Option Peer). record (config_of c.args.self.now.rules) { peer = x }) c.peer-peer.ensures in
    let er = c.renew.ensures in
    let ea = c.renew-2.ensures in
    record {
      is_at = fresh_at cfg d r a refl refl (same ∙ s.config) er.sound (er.limits ∙ sound.request_limits ∙ ap (λ (x : Config). x.limits) s.config) er.place
          ea.sound (ea.size ∙ sound.answer_size ∙ ap (λ (x : Config). x.limits.bufsize) s.config) ea.place c.renew_for.ensures.ready (c.renew_for.ensures.cap ∙ sound.method ∙ ap (λ (x : Config). x.limits.bufsize) s.config);
      past = (
        cfg,
        no_past cfg,
        fresh_new cfg d r a refl refl (same ∙ s.config) s.laws (c.renew_for.ensures.vars ∙ ap (λ (x : Option Peer). beginning x) (c.peer-peer.ensures ∙ ap (λ (x : Config). x.peer) s.config)) er.place
            (er.stands cfg p.vars p.came p.asking p.to_server p.reply s.request (beginning cfg.peer) no_asking [] no_reply)
            (ea.stands cfg p.asking p.server p.to_client p.now p.saying s.answer no_asking no_stream no_variables (unsaid [])) ea.nobody,
      );
    }
