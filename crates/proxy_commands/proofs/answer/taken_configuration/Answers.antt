use Rattle.std.proofs.Common.{ℕ, List, inl, inr, sym, ◌∙◌}
use Rattle.std.specs.Prelude.{Option, IfErr}
use Rattle.px_link.specs.Told.{NamedBytes}
use Rattle.proxy_commands.specs.Files.{Builder, told_by}
use Rattle.proxy_commands.specs.Stops.{Input, StopsBy, given}
use Rattle.proxy_commands.proofs.Causes.{mode_stops, passed_on, runs_record}
use Rattle.proxy_commands.proofs.answer.taken_configuration.Goals as goal

pub returns-in_err-cfg-clause-stop : goal.returns-in_err-cfg-clause-stop
returns-in_err-cfg-clause-stop g c =
    let builder : Builder = told_by (g.P.Patterns.refusals c.args.pats.now) (g.P.Patterns.refusals c.configuration.new.pats) (g.P.Patterns.last_refused c.configuration.new.pats) in
    λ words rec_name so.
    let input : Input = given words (g.F.Files.files c.args.files.now) builder (g.F.Files.last_failed c.configuration.new.files) (g.F.Files.faults c.args.files.now) (g.F.Files.faults c.configuration.new.files) in
    passed_on c.from_residual.result c.in_err-cfg.field-0.0 (StopsBy input) c.from_residual.ensures.1
    (c.in_err-cfg.ensures.stop words (inr (inl (rec_name, runs_record c.args.command words c.args.name.now rec_name so))))

pub returns-then-refuses-clause-stop : goal.returns-then-refuses-clause-stop
returns-then-refuses-clause-stop g c =
    let builder : Builder = told_by (g.P.Patterns.refusals c.args.pats.now) (g.P.Patterns.refusals c.configuration.new.pats) (g.P.Patterns.last_refused c.configuration.new.pats) in
    λ words rec_name so.
    let input : Input = given words (g.F.Files.files c.args.files.now) builder (g.F.Files.last_failed c.configuration.new.files) (g.F.Files.faults c.args.files.now) (g.F.Files.faults c.configuration.new.files) in
    mode_stops input c.args.command c.args.name.now rec_name c.in_ok-cfg.cfg so c.in_ok-cfg.ensures.accepted c.in_ok-cfg.ensures.built (sym c.refuses.ensures ∙ c.if-refuses.true)
