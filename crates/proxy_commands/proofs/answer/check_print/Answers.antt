use Rattle.std.proofs.Common.{ap, inr}
use Rattle.std.specs.Prelude.{Err}
use Rattle.proxy_commands.specs.Files.{Builder, told_by}
use Rattle.proxy_commands.specs.Stops.{Input, given, stop_of_printing}
use Rattle.proxy_commands.proofs.Causes.{answers_err, print_stops}
use Rattle.proxy_commands.proofs.answer.check_print.Goals as goal

pub returns-in_err-cfg : goal.returns-in_err-cfg
returns-in_err-cfg g c =
    let builder : Builder = told_by (g.P.Patterns.refusals c.args.pats.now) (g.P.Patterns.refusals c.configuration.new.pats) (g.P.Patterns.last_refused c.configuration.new.pats) in
    λ words is.
    let input : Input = given words (g.F.Files.files c.args.files.now) builder (g.F.Files.last_failed c.configuration.new.files) (g.F.Files.faults c.args.files.now) (g.F.Files.faults c.configuration.new.files) in
    answers_err input c.from_residual.result c.in_err-cfg.field-0.0 c.from_residual.ensures.1 (c.in_err-cfg.ensures.stop words (inr (inr (inr (inr is)))))

pub returns-in_err-text : goal.returns-in_err-text
returns-in_err-text g c =
    let builder : Builder = told_by (g.P.Patterns.refusals c.args.pats.now) (g.P.Patterns.refusals c.configuration.new.pats) (g.P.Patterns.last_refused c.configuration.new.pats) in
    λ words is.
    let input : Input = given words (g.F.Files.files c.args.files.now) builder (g.F.Files.last_failed c.configuration.new.files) (g.F.Files.faults c.args.files.now) (g.F.Files.faults c.configuration.new.files) in
    answers_err input c.from_residual-in_err-text.result (stop_of_printing c.in_err-text.field-0.0) c.from_residual-in_err-text.ensures.1
    (print_stops input c.args.name.now c.in_ok-cfg.cfg c.in_err-text.field-0.0 is c.in_ok-cfg.ensures.accepted c.in_ok-cfg.ensures.built (λ overlong. c.in_err-text.ensures.too_long (ap Err overlong)))

pub returns : goal.returns
returns g c =
    λ words is. (inr (inr (inr (inr (inr (inr (inr (c.args.name.now, is, (c.in_ok-cfg.cfg, c.in_ok-cfg.ensures.accepted, c.in_ok-text.ensures.fits, c.in_ok-text.ensures.text)))))))), c.in_ok-cfg.ensures.built)
