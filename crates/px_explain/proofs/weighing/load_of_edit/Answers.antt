use Rattle.std.proofs.Common.{sym, ◌∙◌}
use Rattle.http_rules.specs.Action.Acts.{act}
use Rattle.px_explain.proofs.Edits.{act_keeps}
use Rattle.px_explain.proofs.Lines.{held}
use Rattle.px_explain.proofs.Weighed.{load_done, vars_stay}
use Rattle.px_explain.proofs.weighing.load_of_edit.Goals as goal

pub returns-clause-load : goal.returns-clause-load
returns-clause-load c = λ env at.
    c.load_left.ensures
    ∙ load_done c.args.side env (act c.args.msg.now.size c.args.action.now env) c.in_ok-acted.acted c.run_action.new.msg.blocks c.run_action.new.vars (c.in_ok-acted.ensures.came env at)

pub returns-clause-vars : goal.returns-clause-vars
returns-clause-vars c =
    let start = held c.args.side c.args.msg.now.blocks c.args.vars.now c.requires.front in
    vars_stay c.args.side start.0 (act c.args.msg.now.size c.args.action.now start.0) c.in_ok-acted.acted c.run_action.new.msg.blocks c.run_action.new.vars (c.in_ok-acted.ensures.came start.0 start.1)
    (act_keeps c.args.msg.now.size c.args.action.now start.0 c.args.msg.now.blocks c.requires.one)
    ∙ sym start.1.vars_are
