use Rattle.std.proofs.lemmas.Result.{IfOk-weaker}
use Rattle.http_rules.proofs.ActionLemmas.Placed.{named_off, named_on}
use Rattle.http_rules.proofs.action.replacing.replace_named.Goals as goal

pub returns-clause-came : goal.returns-clause-came
returns-clause-came c =
    IfOk-weaker c.replace_field.result _ _
    (λ step came env place on here.
    named_on c.args.setting.side env c.args.setting.vars.now c.args.fields.name.now c.args.fields.extent c.args.msg.now.size c.args.fields.by.pat.now c.args.fields.by.fmt.now place c.args.at c.is_named.result step c.args.msg.now.blocks c.replace_field.new.msg.blocks on here
    c.is_named.ensures.named c.if-not-is_named.false (came env place on here))
    c.replace_field.ensures.came

pub returns-then-not-is_named-clause-came : goal.returns-then-not-is_named-clause-came
returns-then-not-is_named-clause-came c =
    λ env place on here.
    named_off c.args.setting.side env c.args.setting.vars.now c.args.fields.name.now c.args.fields.extent c.args.msg.now.size c.args.fields.by.pat.now c.args.fields.by.fmt.now place c.args.at c.is_named.result c.args.msg.now.blocks on here c.is_named.ensures.named c.if-not-is_named.true
