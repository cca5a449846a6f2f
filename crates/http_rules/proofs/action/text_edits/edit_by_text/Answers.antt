use Rattle.http_rules.specs.declared.rule.action.Action.TheVariants as actions
use Rattle.http_rules.specs.Action.TextEdits.{text_edit}
use Rattle.http_rules.proofs.ActionLemmas.Texted.{edited_as}
use Rattle.http_rules.proofs.action.text_edits.edit_by_text.Goals as goal

pub returns-in-SetPath-clause-came : goal.returns-in-SetPath-clause-came
unfolding text_edit
returns-in-SetPath-clause-came c =
    λ side env vars at.
    edited_as side env c.args.msg.now.size c.args.action.now (actions.SetPath c.in-SetPath.field-0) c.args.scratch.now.text.bytes c.bytes-text.result.now c.put_part.result c.put_part.new.msg.blocks vars
    c.in-SetPath.is c.bytes-text.ensures.bytes (c.put_part.ensures.came side env vars at)

pub returns-in-SetPathq-clause-came : goal.returns-in-SetPathq-clause-came
unfolding text_edit
returns-in-SetPathq-clause-came c =
    λ side env vars at.
    edited_as side env c.args.msg.now.size c.args.action.now (actions.SetPathq c.in-SetPathq.field-0) c.args.scratch.now.text.bytes c.bytes-text.result.now c.put_part-in-SetPathq.result c.put_part-in-SetPathq.new.msg.blocks vars
    c.in-SetPathq.is c.bytes-text.ensures.bytes (c.put_part-in-SetPathq.ensures.came side env vars at)

pub returns-in-SetUri-clause-came : goal.returns-in-SetUri-clause-came
unfolding text_edit
returns-in-SetUri-clause-came c =
    λ side env vars at.
    edited_as side env c.args.msg.now.size c.args.action.now (actions.SetUri c.in-SetUri.field-0) c.args.scratch.now.text.bytes c.bytes-text.result.now c.put_uri.result c.put_uri.new.msg.blocks vars
    c.in-SetUri.is c.bytes-text.ensures.bytes (c.put_uri.ensures.came side env vars at)

pub returns-in-SetQuery-clause-came : goal.returns-in-SetQuery-clause-came
unfolding text_edit
returns-in-SetQuery-clause-came c =
    λ side env vars at.
    edited_as side env c.args.msg.now.size c.args.action.now (actions.SetQuery c.in-SetQuery.field-0) c.args.scratch.now.text.bytes c.bytes-text.result.now c.put_query.result c.put_query.new.msg.blocks vars
    c.in-SetQuery.is c.bytes-text.ensures.bytes (c.put_query.ensures.came side env vars at)
