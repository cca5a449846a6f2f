use Rattle.px_expr.proofs.GivenLemmas.{of_message}
use Rattle.px_expr.proofs.mem_env.MemEnv.nth_of.Goals as goal

pub returns-in_default : goal.returns-in_default
returns-in_default c =
    let all = of_message c.args.self.now.given.now c.args.fetch.now c.in_default.not-Str c.in_default.not-Int c.in_default.not-Bool c.in_default.not-AlwaysTrue c.in_default.not-AlwaysFalse in
    rw all c.nth_given.ensures
