use Rattle.std.proofs.Common.{[], false, sym, ap, subst, ◌∙◌}
use Rattle.htx_arena.specs.Layout.Contents.{Contents}
use Rattle.http_rules.specs.declared.action.side.Side.TheVariants as sides
use Rattle.http_rules.specs.Action.Outcome.{IsFront}
use Rattle.forward_core.specs.Rules.Ruling.{size_of}
use Rattle.forward_core.proofs.RulesLemmas.Amends.{said_left}
use Rattle.forward_core.proofs.RulesLemmas.Steady.{leave_session, ready_ran}
use Rattle.forward_core.proofs.rules.rules.SessionRules.on_said.Goals as goal

pub run_after-requires-clause-front : goal.run_after-requires-clause-front
run_after-requires-clause-front c = subst (λ (x : Contents). IsFront x.blocks) (sym c.arena.ensures.value) c.requires.front

pub returns-clause-amends : goal.returns-clause-amends
returns-clause-amends c =
    let rules = c.args.self.now in
    said_left (size_of rules) rules.config.now.after (sides.Answer c.args.method) c.args.method.now rules.vars c.arena.result.now rules.said c.in_ok-verdict.verdict c.passed.result c.run_after.new.msg.blocks c.run_after.new.vars
    c.arena.ensures.value c.requires.ready.said c.passed.ensures c.body_stays.ensures c.in_ok-verdict.ensures.runs

pub returns-clause-ready : goal.returns-clause-ready
returns-clause-ready c =
    let rules = c.args.self.now in
    let run = c.run_after in
    let verdict = c.in_ok-verdict in
    let front = c.requires.front in
    let lent = c.arena.ensures.value in
    let size = ap (λ (x : Contents). x.size) lent in
    ready_ran rules c.arena.result.now.size run.new.vars run.new.msg run.new.scratch c.stays-stays.result c.requires.ready (size ∙ c.requires.ready.said) run.ensures.scratch (run.ensures.size ∙ size)
    (λ is.
    leave_session c.arena.result.now.size rules.config.now.after (record { is_request = false; head = front.0; body = front.1; method = c.args.method.now; vars = rules.vars }) (sides.Answer c.args.method) verdict.verdict run.new.msg.blocks run.new.vars []
    (c.stays-stays.ensures.steady is).after (verdict.ensures.runs front.0 front.1 (ap (λ (x : Contents). x.blocks) lent ∙ front.2)) ∙ c.stays-stays.ensures.begun is)
