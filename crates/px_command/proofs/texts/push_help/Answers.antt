use Rattle.std.proofs.Common.{sym, subst}
use Rattle.std.proofs.lemmas.Result.{on_ok_weaker}
use Rattle.px_command.specs.Texts.{EndsLine}
use Rattle.px_command.proofs.Items.{ends_behind}
use Rattle.px_command.proofs.texts.push_help.Goals as goal

pub returns : goal.returns
returns c = on_ok_weaker c.push.result (ends_behind c.args.text.now c.as_slice.result.now c.push.new.self (subst EndsLine (sym c.as_slice.ensures) c.in_ok-help.ensures)) c.push.ensures.ok
