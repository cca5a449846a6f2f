use Rattle.std.proofs.Common.{sym, ◌∙◌}
use Rattle.http_rules.proofs.ActionLemmas.Came.{ends_at, set}
use Rattle.http_rules.proofs.action.fields.set_made.Goals as goal

pub set_field-requires-clause-end : goal.set_field-requires-clause-end
set_field-requires-clause-end c = ends_at c.args.msg.now.blocks c.requires.front

pub returns-clause-came : goal.returns-clause-came
returns-clause-came c =
    λ side env vars at.
    set side env vars c.args.name.now c.trim.result.now c.args.text.now c.args.msg.now.size c.args.msg.now c.set_field.new.msg c.set_field.result c.step_of.result at
    (sym c.are_value_bytes.ensures ∙ c.if-not-are_value_bytes.false) c.trim.ensures c.set_field.ensures.ok c.set_field.ensures.fits c.set_field.ensures.full c.step_of.ensures
