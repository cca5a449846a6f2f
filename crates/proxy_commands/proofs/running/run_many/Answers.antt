use Rattle.std.proofs.Common.{ℕ, ◌≡◌, inl, inr, refl}
use Rattle.std.specs.Prelude.{Result, Ok, Err}
use Rattle.http_rules.specs.declared.config.Config.{Config}
use Rattle.px_command.specs.declared.options.RunOptions.{RunOptions}
use Rattle.px_run.specs.declared.plan.RunFault.{RunFault}
use Rattle.proxy_commands.specs.Ends.{Output, put}
use Rattle.proxy_commands.specs.Files.{Builder, told_by}
use Rattle.proxy_sessions.specs.Running.{Runs}
use Rattle.proxy_commands.specs.Stops.{Input, given, stop_of_running}
use Rattle.proxy_commands.proofs.Writing.{run_err, stops_early}
use Rattle.proxy_commands.proofs.running.run_many.Goals as goal

pub returns-in_err-cfg : goal.returns-in_err-cfg
returns-in_err-cfg g c =
    let builder : Builder = told_by (g.P.Patterns.refusals c.args.pats.now) (g.P.Patterns.refusals c.configuration.new.pats) (g.P.Patterns.last_refused c.configuration.new.pats) in
    let before : ℕ = g.K.Sink.faults c.args.out.now in
    λ words run.
    let input : Input = given words (g.F.Files.files c.args.files.now) builder (g.F.Files.last_failed c.configuration.new.files) (g.F.Files.faults c.args.files.now) (g.F.Files.faults c.configuration.new.files) in
    let output : Output = put before before (g.K.Sink.written c.args.out.now) (g.K.Sink.written c.args.out.now) in
    let Does : Config → RunOptions → Result (Unit {0}) RunFault → Type 0 = Runs g.L.Link.seen g.L.Link.wrote g.L.HasPair.tells g.N.Net.seen (g.S.Nets.accepts_none c.args.many.now.nets) c.args.many.now.net c.args.many.now.net before before output.old output.new in
    run_err input output (c.args.many.now ≡ c.args.many.now) Does c.from_residual.result c.in_err-cfg.field-0.0 c.from_residual.ensures.1
    (inl (stops_early input before output.old c.in_err-cfg.field-0.0 (c.in_err-cfg.ensures.stop words (inr (inr (inr (inl (c.args.asked.now.options, run)))))), refl))

pub returns-in_err-run_clients : goal.returns-in_err-run_clients
returns-in_err-run_clients g c =
    let builder : Builder = told_by (g.P.Patterns.refusals c.args.pats.now) (g.P.Patterns.refusals c.configuration.new.pats) (g.P.Patterns.last_refused c.configuration.new.pats) in
    let before : ℕ = g.K.Sink.faults c.args.out.now in
    let now : ℕ = g.K.Sink.faults c.run_clients.new.out in
    let output : Output = put before now (g.K.Sink.written c.args.out.now) (g.K.Sink.written c.run_clients.new.out) in
    let fault : RunFault = c.in_err-run_clients.field-0.0 in
    let Does : Config → RunOptions → Result (Unit {0}) RunFault → Type 0 = Runs g.L.Link.seen g.L.Link.wrote g.L.HasPair.tells g.N.Net.seen (g.S.Nets.accepts_none c.run_clients.new.many.nets) c.args.many.now.net c.run_clients.new.many.net before now output.old output.new in
    λ words run.
    let input : Input = given words (g.F.Files.files c.args.files.now) builder (g.F.Files.last_failed c.configuration.new.files) (g.F.Files.faults c.args.files.now) (g.F.Files.faults c.configuration.new.files) in
    run_err input output (c.run_clients.new.many ≡ c.args.many.now) Does c.from_residual-in_err-run_clients.result (stop_of_running fault) c.from_residual-in_err-run_clients.ensures.1
    (inr (c.in_ok-cfg.ensures.built, (c.args.asked.now.cfg.now, c.args.asked.now.options, run, c.in_ok-cfg.cfg, c.in_ok-cfg.ensures.accepted, (Err fault, c.in_err-run_clients.ensures, refl))))

pub returns : goal.returns
returns g c =
    λ words run. inr (c.in_ok-cfg.ensures.built, (c.args.asked.now.cfg.now, c.args.asked.now.options, run, c.in_ok-cfg.cfg, c.in_ok-cfg.ensures.accepted, (Ok tt, c.in_ok-run_clients.ensures, refl)))
