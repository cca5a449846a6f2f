use Rattle.cfg_parse.proofs.LineReadings.{param_line_reads}
use Rattle.cfg_parse.proofs.pairs.read_param_line.Goals as goal

pub returns-clause-reads : goal.returns-clause-reads
returns-clause-reads g c =
    param_line_reads c.args.draft.now c.add_param.new.draft c.args.arguments c.in-Ok.found.0.now c.in-Ok.found.1 (g.P.Patterns.refusals c.args.pats.now) (g.P.Patterns.refusals c.param_of_words.new.pats)
    (g.P.Patterns.last_refused c.param_of_words.new.pats) c.add_param.result c.in-Ok.ensures.reads.0 c.in-Ok.ensures.reads.1 c.add_param.ensures.leaves
