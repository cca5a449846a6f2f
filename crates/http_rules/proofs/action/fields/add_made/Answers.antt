use Rattle.std.proofs.Common.{sym, ◌∙◌}
use Rattle.http_rules.proofs.ActionLemmas.Came.{ends_at, added}
use Rattle.http_rules.proofs.action.fields.add_made.Goals as goal

pub add_field-requires-clause-end : goal.add_field-requires-clause-end
add_field-requires-clause-end c = ends_at c.args.msg.now.blocks c.requires.front

pub returns-clause-came : goal.returns-clause-came
returns-clause-came c =
    λ side env vars at.
    added side env vars c.args.name.now c.trim.result.now c.args.text.now c.args.msg.now.size c.args.msg.now c.add_field.new.msg c.add_field.result c.step_of.result at
    (sym c.are_value_bytes.ensures ∙ c.if-not-are_value_bytes.false) c.trim.ensures c.add_field.ensures.ok c.add_field.ensures.fits c.add_field.ensures.full c.step_of.ensures
