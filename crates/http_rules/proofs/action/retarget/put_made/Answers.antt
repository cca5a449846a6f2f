use Rattle.std.proofs.Common.{List, ℕ, subst}
use Rattle.http_rules.specs.Action.Lines.{retargeted, with_part}
use Rattle.http_rules.specs.Action.Outcome.{Came}
use Rattle.http_rules.proofs.action.retarget.put_made.Goals as goal

pub returns-clause-came : goal.returns-clause-came
returns-clause-came c =
    λ side env vars at.
    subst (λ (held : List ℕ). Came side env (retargeted c.args.msg.now.size env (λ target. with_part c.args.part target held)) c.put_part.result c.put_part.new.msg.blocks vars) c.bytes.ensures.bytes
    (c.put_part.ensures.came side env vars at)
