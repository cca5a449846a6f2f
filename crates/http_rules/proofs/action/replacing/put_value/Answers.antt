use Rattle.std.proofs.Common.{sym, ◌∙◌}
use Rattle.http_rules.proofs.ActionLemmas.Placed.{revalued}
use Rattle.http_rules.proofs.action.replacing.put_value.Goals as goal

pub returns-clause-came : goal.returns-clause-came
returns-clause-came c =
    λ side env vars place field on here found.
    revalued side env vars place field c.trim.result.now c.args.text.now c.args.msg.now.size c.args.at c.args.msg.now c.replace_value.new.self c.replace_value.result c.step_of.result on here found c.requires.header
    (sym c.are_value_bytes.ensures ∙ c.if-not-are_value_bytes.false) c.trim.ensures c.replace_value.ensures.ok c.replace_value.ensures.fits c.replace_value.ensures.full c.step_of.ensures
