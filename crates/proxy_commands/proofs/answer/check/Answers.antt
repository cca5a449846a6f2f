use Rattle.std.proofs.Common.{inl}
use Rattle.proxy_commands.specs.Files.{Builder, told_by}
use Rattle.proxy_commands.specs.Stops.{Input, given}
use Rattle.proxy_commands.proofs.Causes.{answers_err}
use Rattle.proxy_commands.proofs.answer.check.Goals as goal

pub returns-in_err-cfg : goal.returns-in_err-cfg
returns-in_err-cfg g c =
    let builder : Builder = told_by (g.P.Patterns.refusals c.args.pats.now) (g.P.Patterns.refusals c.configuration.new.pats) (g.P.Patterns.last_refused c.configuration.new.pats) in
    λ words check.
    let input : Input = given words (g.F.Files.files c.args.files.now) builder (g.F.Files.last_failed c.configuration.new.files) (g.F.Files.faults c.args.files.now) (g.F.Files.faults c.configuration.new.files) in
    answers_err input c.from_residual.result c.in_err-cfg.field-0.0 c.from_residual.ensures.1 (c.in_err-cfg.ensures.stop words (inl check))
