use Rattle.std.proofs.Common.{refl, sym, ◌∙◌, []}
use Rattle.px_sample.specs.Variables.{no_variables}
use Rattle.forward_core.specs.Meaning.Beginning.{beginning}
use Rattle.session_core.specs.History.{no_stream}
use Rattle.session_core.specs.Sided.{unsaid}
use Rattle.forward_core.specs.declared.joined.directions.Directions.{Directions}
use Rattle.forward_core.proofs.JoinedLemmas.Fresh.{no_past, no_asking, no_reply, fresh_new, fresh_at, fresh_is}
use Rattle.forward_core.proofs.joined.directions.Directions.new.Goals as goal

pub returns-clause-stands : goal.returns-clause-stands
returns-clause-stands c =
    let cfg = c.args.config.now in
    let r = c.in_ok-request.request in
    let a = c.in-Ok.answer in
    let er = c.in_ok-request.ensures in
    let ea = c.in-Ok.ensures in
    let es = c.in-Ok-new.ensures in
    let d : Directions = record { request = r; answer = a; rules = c.in-Ok-new.rules; method = c.new-4.new.text } in (
      no_past cfg,
      fresh_new cfg d r a refl refl es.config (record { total = c.total.ensures cfg; statuses = c.statuses.ensures cfg }) es.vars er.place (er.stands cfg (beginning cfg.peer) no_asking [] no_reply refl (sym c.as_slice.ensures))
          (ea.stands cfg no_asking no_stream no_variables (unsaid []) refl (sym c.as_slice-2.ensures)) ea.nobody,
      fresh_is cfg d r a refl refl er.open er.window ea.window,
    )

pub returns-clause-placed : goal.returns-clause-placed
unfolding returns-clause-stands
returns-clause-placed c =
    let cfg = c.args.config.now in
    let r = c.in_ok-request.request in
    let a = c.in-Ok.answer in
    let er = c.in_ok-request.ensures in
    let ea = c.in-Ok.ensures in
    let es = c.in-Ok-new.ensures in
    let d : Directions = record { request = r; answer = a; rules = c.in-Ok-new.rules; method = c.new-4.new.text } in
    record {
      is_at = fresh_at cfg d r a refl refl es.config er.sound er.limits er.place ea.sound ea.size ea.place es.ready (es.cap ∙ c.in_ok-method.ensures.cap);
      past = (cfg, no_past cfg, (returns-clause-stands c).1);
    }
