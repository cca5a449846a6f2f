use Rattle.std.proofs.Common.{sym}
use Rattle.std.proofs.lemmas.Result.{IfOk-weaker}
use Rattle.http_rules.proofs.ActionLemmas.Doing.{deleted, stated_anew, unset}
use Rattle.http_rules.proofs.ActionLemmas.Replaced.{whole, values}
use Rattle.http_rules.proofs.ActionLemmas.Texted.{texted}
use Rattle.http_rules.proofs.action.act.run_steps.Goals as goal

pub returns-in-DelHeader-clause-ran : goal.returns-in-DelHeader-clause-ran
returns-in-DelHeader-clause-ran c =
    IfOk-weaker c.del_header.result _ _
    (λ step came. λ env at. deleted c.args.side env c.args.msg.now.size c.in-DelHeader.by c.args.action.now step c.del_header.new.msg.blocks c.args.vars.now c.in-DelHeader.is (came c.args.side env c.args.vars.now at))
    c.del_header.ensures.came

pub returns-in-ReplaceHeader-clause-ran : goal.returns-in-ReplaceHeader-clause-ran
returns-in-ReplaceHeader-clause-ran c =
    IfOk-weaker c.replace_fields.result _ _
    (λ step ran. λ env at.
    whole c.args.side env c.args.msg.now.size c.in-ReplaceHeader.name c.as_slice-name-in-ReplaceHeader.result.now c.in-ReplaceHeader.pat c.in-ReplaceHeader.fmt c.args.action.now step
    c.replace_fields.new.msg.blocks c.args.vars.now c.in-ReplaceHeader.is c.as_slice-name-in-ReplaceHeader.ensures (ran env at))
    c.replace_fields.ensures.ran

pub returns-in-ReplaceValue-clause-ran : goal.returns-in-ReplaceValue-clause-ran
returns-in-ReplaceValue-clause-ran c =
    IfOk-weaker c.replace_fields-in-ReplaceValue.result _ _
    (λ step ran. λ env at.
    values c.args.side env c.args.msg.now.size c.in-ReplaceValue.name c.as_slice-name-in-ReplaceValue.result.now c.in-ReplaceValue.pat c.in-ReplaceValue.fmt c.args.action.now step
    c.replace_fields-in-ReplaceValue.new.msg.blocks c.args.vars.now c.in-ReplaceValue.is c.as_slice-name-in-ReplaceValue.ensures (ran env at))
    c.replace_fields-in-ReplaceValue.ensures.ran

pub returns-in-SetStatus-clause-ran : goal.returns-in-SetStatus-clause-ran
returns-in-SetStatus-clause-ran c =
    λ env at.
    stated_anew c.args.side env c.args.msg.now.size c.in-SetStatus.code c.in-SetStatus.reason c.args.action.now c.set_status.result c.set_status.new.msg.blocks c.args.vars.now
    c.in-SetStatus.is (c.set_status.ensures.came c.args.side env c.args.vars.now at)

pub returns-in-UnsetVar-clause-ran : goal.returns-in-UnsetVar-clause-ran
returns-in-UnsetVar-clause-ran c =
    λ env at.
    unset c.args.side env c.args.msg.now.size c.in-UnsetVar.scope c.in-UnsetVar.name c.as_slice.result.now c.args.action.now c.unset_var.result c.args.msg.now.blocks c.unset_var.new.vars
    c.in-UnsetVar.is c.as_slice.ensures (c.unset_var.ensures c.args.side env c.args.msg.now.blocks at)

pub returns-in-Some-clause-ran : goal.returns-in-Some-clause-ran
returns-in-Some-clause-ran c =
    IfOk-weaker c.run_text.result _ _
    (λ step came. λ env at. texted c.args.side env c.args.msg.now.size c.args.action.now c.in-Some.fmt.now step _ _ (sym c.in-Some.ensures) (came env at))
    c.run_text.ensures.came
