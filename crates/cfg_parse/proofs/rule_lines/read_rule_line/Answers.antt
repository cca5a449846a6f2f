use Rattle.cfg_parse.proofs.LineReadings.{rule_line_reads}
use Rattle.cfg_parse.proofs.rule_lines.read_rule_line.Goals as goal

pub returns-clause-reads : goal.returns-clause-reads
returns-clause-reads g c =
    rule_line_reads c.args.draft.now c.add_rule.new.draft c.args.direction c.args.arguments c.in-Ok.rule (g.P.Patterns.refusals c.args.pats.now) (g.P.Patterns.refusals c.rule_of_words.new.pats)
    (g.P.Patterns.last_refused c.rule_of_words.new.pats) c.add_rule.result c.in-Ok.ensures.reads.0 c.in-Ok.ensures.reads.1 c.add_rule.ensures.leaves
