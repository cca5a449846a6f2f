use Rattle.std.proofs.Common.{subst}
use Rattle.rec_format.specs.Read.{visit}
use Rattle.px_explain.specs.declared.trail.Trail.{Trail}
use Rattle.px_explain.specs.Walked.{IsTraced}
use Rattle.px_explain.proofs.exchange.walked.Goals as goal

pub returns : goal.returns
returns c =
    subst (λ (t : Trail). IsTraced c.args.config.now t c.ask.new.walk.teller.trail c.in_ok-answer.answer (visit c.args.conn.now)) c.in_ok-walk.ensures.told c.in_ok-answer.ensures
