use Rattle.px_run.proofs.Texts.{writes_short}
use Rattle.px_run.proofs.lines.write_log.Goals as goal

pub returns-then-log : goal.returns-then-log
returns-then-log g c = record { writes = λ writes before text w. writes_short c.args.output.now writes (g.K.Sink.faults c.args.out.now) before (g.K.Sink.written c.args.out.now) text c.args.log.now.text.items w }
