use Rattle.cfg_parse.proofs.action.rules.rule_made.Goals as goal

pub returns-in-Ok-clause-good : goal.returns-in-Ok-clause-good
returns-in-Ok-clause-good c name good = c.in-Ok.ensures.good name good
