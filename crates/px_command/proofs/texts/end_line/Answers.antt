use Rattle.std.proofs.lemmas.Result.{on_ok_weaker}
use Rattle.px_command.proofs.texts.end_line.Goals as goal

pub returns : goal.returns
returns c = on_ok_weaker c.push.result (λ is. (c.args.text.now, is)) c.push.ensures.ok
