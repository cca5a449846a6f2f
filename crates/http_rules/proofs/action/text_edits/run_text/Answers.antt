use Rattle.http_rules.specs.Action.Given.{text_on}
use Rattle.http_rules.specs.Action.TextEdits.{text_edit}
use Rattle.http_rules.proofs.ActionLemmas.Came.{short_made}
use Rattle.std.proofs.Common.{refl}
use Rattle.http_rules.proofs.action.text_edits.run_text.Goals as goal

pub returns-clause-came : goal.returns-clause-came
returns-clause-came c =
    λ env at.
    short_made c.args.setting.side env c.args.setting.vars.now c.args.msg.now.size (text_on c.args.msg.now.size env c.args.fmt.now) c.write_text.new.scratch.text.bytes c.write_text.new.scratch.text.bytes c.in_ok-write_text.field-0
    (λ text. text_edit c.args.msg.now.size c.args.action.now text env) c.edit_by_text.result c.edit_by_text.new.msg.blocks
    (c.in_ok-write_text.ensures.made env at) c.if-not-branch.false refl (c.edit_by_text.ensures.came c.args.setting.side env c.args.setting.vars.now at)
