use Rattle.cfg_parse.proofs.JudgingLemmas.{line_refused_so}
use Rattle.cfg_parse.proofs.judging.judge_line.Goals as goal

pub returns-in_ok-kind-in-Err-clause-judged : goal.returns-in_ok-kind-in-Err-clause-judged
returns-in_ok-kind-in-Err-clause-judged g c =
    line_refused_so c.args.number c.args.line.now c.args.draft.now c.read_line.new.draft c.args.refused.now c.add_refused.new.refused (g.P.Patterns.refusals c.args.pats.now)
    (g.P.Patterns.refusals c.read_line.new.pats) (g.P.Patterns.last_refused c.read_line.new.pats) c.in-Err.refusal c.in_ok-kind-in-Err.kind c.add_refused.result c.in-Err.ensures.reads c.in_ok-kind-in-Err.ensures
    c.in-Err.ensures.unchanged c.add_refused.ensures.lists c.add_refused.ensures.few
