use Rattle.std.proofs.Common.{arith}
use Rattle.cfg_parse.proofs.LineLemmas.{lines_first_at, lines_last_at}
use Rattle.cfg_parse.proofs.text.first_line.Goals as goal

pub returns-then-len-text-clause-lines : goal.returns-then-len-text-clause-lines
returns-then-len-text-clause-lines c = lines_last_at c.args.text.now c.line_len-len.result c.requires c.line_len-len.ensures.count c.if-len-text.true

pub returns-clause-lines : goal.returns-clause-lines
returns-clause-lines c = lines_first_at c.args.text.now c.line_len-len.result c.without_carriage_return.result.now c.line_len-len.ensures.count (omega arith) c.without_carriage_return.ensures
