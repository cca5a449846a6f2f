use Rattle.std.proofs.Common.{[], refl, sym, ◌∙◌}
use Rattle.std.specs.Prelude.{false}
use Rattle.std.proofs.lemmas.List.{append-nil}
use Rattle.http_model.specs.Head.{head_blocks}
use Rattle.http_rules.specs.declared.action.side.Side.TheVariants as sides
use Rattle.forward_core.proofs.RulesLemmas.Steady.{leave_session, ready_ran}
use Rattle.forward_core.proofs.rules.rules.SessionRules.on_sent_head.Goals as goal

pub returns-clause-ready : goal.returns-clause-ready
returns-clause-ready c =
    let run = c.run_after in
    let verdict = c.in_ok-verdict in
    let head = c.requires.head.0 in
    ready_ran c.args.self.now c.args.msg.now.size run.new.vars c.args.self.now.said run.new.scratch c.stays-stays.result c.requires.ready c.requires.size run.ensures.scratch refl
    (λ is.
    leave_session c.args.msg.now.size c.args.self.now.config.now.after (record { is_request = false; head = head; body = []; method = c.args.method.now; vars = c.args.self.now.vars }) (sides.Answer c.args.method) verdict.verdict run.new.msg.blocks run.new.vars []
    (c.stays-stays.ensures.steady is).after (verdict.ensures.runs head [] (c.requires.head.1 ∙ sym (append-nil (head_blocks head)))) ∙ c.stays-stays.ensures.begun is)
