use Rattle.std.proofs.Common.{refl, ap, ◌∙◌, []}
use Rattle.http_rules.specs.declared.config.Config.{Config}
use Rattle.px_sample.specs.Variables.{no_variables}
use Rattle.forward_core.specs.Meaning.Beginning.{beginning}
use Rattle.session_core.specs.History.{no_stream}
use Rattle.session_core.specs.Sided.{unsaid}
use Rattle.forward_core.specs.declared.joined.directions.Directions.{Directions}
use Rattle.forward_core.proofs.RulesLemmas.Peers.{room_in}
use Rattle.forward_core.proofs.JoinedLemmas.Fresh.{no_past, no_asking, no_reply, fresh_new, fresh_at, fresh_is, request_for, answer_for}
use Rattle.forward_core.proofs.joined.sides.DirectionsRenewableFor.renew_for.Goals as goal

pub renew-requires : goal.renew-requires
renew-requires c = let placed = c.requires.placed.1 in record { sound = placed.is_at.sound.request }

pub renew-requires-2 : goal.renew-requires-2
renew-requires-2 c = let placed = c.requires.placed.1 in record { sound = placed.is_at.sound.answer }

pub renew_for-requires-clause-ready : goal.renew_for-requires-clause-ready
renew_for-requires-clause-ready c = let placed = c.requires.placed.1 in placed.is_at.sound.rules

pub renew_for-requires-clause-room : goal.renew_for-requires-clause-room
renew_for-requires-clause-room c = let sound = c.requires.placed.1.is_at.sound in room_in c.args.self.now.method.cap _ sound.method sound.rules.valid.limits.least

pub returns-clause-stands : goal.returns-clause-stands
returns-clause-stands c = λ settings other p session.
    let old : Config = record settings.0 { peer = other } in
    let cfg : Config = record settings.0 { peer = c.args.peer } in
    let s = session.directions in
    let r = c.renew.new.self in
    let a = c.renew-2.new.self in
    let er = c.renew.ensures in
    let ea = c.renew-2.ensures in
    let d : Directions = record { request = r; answer = a; rules = c.renew_for.new.self; method = c.renew_for.new.text } in (
      no_past cfg,
      record {
        directions = fresh_new cfg d r a refl refl (c.renew_for.ensures.config ∙ ap (λ (x : Config). record x { peer = c.args.peer }) s.config) (record { total = c.total.ensures cfg; statuses = c.statuses.ensures cfg }) c.renew_for.ensures.vars er.place
            (request_for old c.args.peer r (beginning cfg.peer) no_stream no_asking [] no_reply er.place (er.stands old p.vars p.came p.asking p.to_server p.reply s.request (beginning cfg.peer) no_asking [] no_reply))
            (λ asks. answer_for old c.args.peer a no_asking no_stream [] no_variables (unsaid []) ea.sound ea.place (ea.stands old p.asking p.server p.to_client p.now p.saying s.answer no_asking no_stream no_variables (unsaid []) asks)) ea.nobody;
        windows = (er.window_size ∙ session.windows.0, ea.window_size ∙ session.windows.1);
      },
      fresh_is cfg d r a refl refl er.open er.window ea.window,
    )

pub returns-clause-placed : goal.returns-clause-placed
returns-clause-placed c =
    let placed = c.requires.placed.1 in
    let old : Config = placed.past.0 in
    let cfg : Config = record old { peer = c.args.peer } in
    let p = placed.past.1 in
    let s = placed.past.2 in
    let sound = placed.is_at.sound in
    let r = c.renew.new.self in
    let a = c.renew-2.new.self in
    let er = c.renew.ensures in
    let ea = c.renew-2.ensures in
    let d : Directions = record { request = r; answer = a; rules = c.renew_for.new.self; method = c.renew_for.new.text } in
    let config = c.renew_for.ensures.config ∙ ap (λ (x : Config). record x { peer = c.args.peer }) s.config in
    record {
      is_at = fresh_at cfg d r a refl refl config er.sound (er.limits ∙ sound.request_limits ∙ ap (λ (x : Config). x.limits) s.config) er.place
          ea.sound (ea.size ∙ sound.answer_size ∙ ap (λ (x : Config). x.limits.bufsize) s.config) ea.place c.renew_for.ensures.ready (c.renew_for.ensures.cap ∙ sound.method ∙ ap (λ (x : Config). x.limits.bufsize) s.config);
      past = (
        cfg,
        no_past cfg,
        fresh_new cfg d r a refl refl config (record { total = c.total.ensures cfg; statuses = c.statuses.ensures cfg }) c.renew_for.ensures.vars er.place
            (request_for old c.args.peer r (beginning cfg.peer) no_stream no_asking [] no_reply er.place (er.stands old p.vars p.came p.asking p.to_server p.reply s.request (beginning cfg.peer) no_asking [] no_reply))
            (λ asks. answer_for old c.args.peer a no_asking no_stream [] no_variables (unsaid []) ea.sound ea.place (ea.stands old p.asking p.server p.to_client p.now p.saying s.answer no_asking no_stream no_variables (unsaid []) asks)) ea.nobody,
      );
    }
