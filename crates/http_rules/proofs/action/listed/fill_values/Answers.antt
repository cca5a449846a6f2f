use Rattle.http_rules.proofs.ActionLemmas.Spread.{none_match}
use Rattle.http_rules.specs.Action.Edits.{by_value}
use Rattle.http_rules.proofs.action.listed.fill_values.Goals as goal

pub returns-then-not-branch-clause-filled : goal.returns-then-not-branch-clause-filled
returns-then-not-branch-clause-filled c =
    λ env edit at counts.
    none_match c.args.place.msg.now.size env c.args.by.pat.now c.args.by.fmt.now c.args.field.now (λ text. by_value c.args.place.msg.now.size env text edit) c.in_ok-matches_one.field-0 c.in_ok-matches_one.ensures c.if-not-branch.true
