use Rattle.cfg_parse.proofs.WholeLemmas.{whole-valid}
use Rattle.cfg_parse.proofs.judging.verdict_at_end.Goals as goal

pub returns-in-Ok-clause-valid : goal.returns-in-Ok-clause-valid
returns-in-Ok-clause-valid c = λ sound. c.unless_refused.ensures.valid (whole-valid c.args.draft c.in-Ok.config sound c.in-Ok.ensures)
