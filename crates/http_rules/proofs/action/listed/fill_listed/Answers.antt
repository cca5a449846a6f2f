use Rattle.http_rules.proofs.ActionLemmas.Spread.{listed}
use Rattle.http_rules.proofs.action.listed.fill_listed.Goals as goal

pub returns-clause-filled : goal.returns-clause-filled
returns-clause-filled c =
    λ env edit counts.
    listed c.args.into.now.cap c.args.into.now.cap env c.args.pat.now c.args.template.now c.args.field.now c.put_values.new.into.bytes edit c.in_ok-joined.joined c.filled_by.result counts c.filled_by.ensures c.in_ok-joined.ensures.joined
