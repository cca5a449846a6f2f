use Rattle.std.proofs.Common.{ℕ, ◌≡◌, inl, inr, refl}
use Rattle.std.specs.Prelude.{Result, Ok, Err}
use Rattle.http_rules.specs.declared.config.Config.{Config}
use Rattle.serve_run.specs.declared.outcome.ServeFault.{ServeFault}
use Rattle.proxy_commands.specs.Ends.{Output, put}
use Rattle.proxy_commands.specs.Files.{Builder, told_by}
use Rattle.proxy_sessions.specs.Serving.{Serves}
use Rattle.proxy_commands.specs.Stops.{Input, given, stop_of_serving}
use Rattle.proxy_commands.proofs.Writing.{ran_err, stops_early}
use Rattle.proxy_commands.proofs.serving.serve.Goals as goal

pub returns-in_err-cfg : goal.returns-in_err-cfg
returns-in_err-cfg g c =
    let builder : Builder = told_by (g.P.Patterns.refusals c.args.pats.now) (g.P.Patterns.refusals c.configuration.new.pats) (g.P.Patterns.last_refused c.configuration.new.pats) in
    let before : ℕ = g.K.Sink.faults c.args.out.now in
    λ words serve.
    let input : Input = given words (g.F.Files.files c.args.files.now) builder (g.F.Files.last_failed c.configuration.new.files) (g.F.Files.faults c.args.files.now) (g.F.Files.faults c.configuration.new.files) in
    let output : Output = put before before (g.K.Sink.written c.args.out.now) (g.K.Sink.written c.args.out.now) in
    let Does : Config → ℕ → Result (Unit {0}) ServeFault → Type 0 = Serves g.H.Link.seen g.H.Link.wrote g.H.HasPair.tells g.N.Net.seen c.args.net.now c.args.net.now before before output.old output.new in
    ran_err input output (c.args.net.now ≡ c.args.net.now) Does c.from_residual.result c.in_err-cfg.field-0.0 c.from_residual.ensures.1
    (inl (stops_early input before output.old c.in_err-cfg.field-0.0 (c.in_err-cfg.ensures.stop words (inr (inr (inl (c.args.asked.now.connections, serve))))), refl))

pub returns-in_err-serve_clients : goal.returns-in_err-serve_clients
returns-in_err-serve_clients g c =
    let builder : Builder = told_by (g.P.Patterns.refusals c.args.pats.now) (g.P.Patterns.refusals c.configuration.new.pats) (g.P.Patterns.last_refused c.configuration.new.pats) in
    let before : ℕ = g.K.Sink.faults c.args.out.now in
    let now : ℕ = g.K.Sink.faults c.serve_clients.new.out in
    let output : Output = put before now (g.K.Sink.written c.args.out.now) (g.K.Sink.written c.serve_clients.new.out) in
    let fault : ServeFault = c.in_err-serve_clients.field-0.0 in
    let Does : Config → ℕ → Result (Unit {0}) ServeFault → Type 0 = Serves g.H.Link.seen g.H.Link.wrote g.H.HasPair.tells g.N.Net.seen c.args.net.now c.serve_clients.new.net before now output.old output.new in
    let does : Does c.in_ok-cfg.cfg c.args.asked.now.connections (Err fault) = record {
      good = c.in_err-serve_clients.ensures.good;
      told = c.in_err-serve_clients.ensures.told;
      net = c.in_err-serve_clients.ensures.net;
      output = c.in_err-serve_clients.ensures.output;
      front = c.in_err-serve_clients.ensures.front;
      binds = c.in_err-serve_clients.ensures.binds;
      bound = c.in_err-serve_clients.ensures.bound;
      dialled = c.in_err-serve_clients.ensures.dialled;
      lent = c.in_err-serve_clients.ensures.lent;
    } in
    λ words serve.
    let input : Input = given words (g.F.Files.files c.args.files.now) builder (g.F.Files.last_failed c.configuration.new.files) (g.F.Files.faults c.args.files.now) (g.F.Files.faults c.configuration.new.files) in
    ran_err input output (c.serve_clients.new.net ≡ c.args.net.now) Does c.from_residual-in_err-serve_clients.result (stop_of_serving fault) c.from_residual-in_err-serve_clients.ensures.1
    (inr (c.in_ok-cfg.ensures.built, (c.args.asked.now.cfg.now, c.args.asked.now.connections, serve, c.in_ok-cfg.cfg, c.in_ok-cfg.ensures.accepted, (Err fault, does, refl))))

pub returns : goal.returns
returns g c =
    let before : ℕ = g.K.Sink.faults c.args.out.now in
    let now : ℕ = g.K.Sink.faults c.serve_clients.new.out in
    let output : Output = put before now (g.K.Sink.written c.args.out.now) (g.K.Sink.written c.serve_clients.new.out) in
    let Does : Config → ℕ → Result (Unit {0}) ServeFault → Type 0 = Serves g.H.Link.seen g.H.Link.wrote g.H.HasPair.tells g.N.Net.seen c.args.net.now c.serve_clients.new.net before now output.old output.new in
    let does : Does c.in_ok-cfg.cfg c.args.asked.now.connections (Ok tt) = record {
      good = c.in_ok-serve_clients.ensures.good;
      told = c.in_ok-serve_clients.ensures.told;
      net = c.in_ok-serve_clients.ensures.net;
      output = c.in_ok-serve_clients.ensures.output;
      front = c.in_ok-serve_clients.ensures.front;
      binds = c.in_ok-serve_clients.ensures.binds;
      bound = c.in_ok-serve_clients.ensures.bound;
      dialled = c.in_ok-serve_clients.ensures.dialled;
      lent = c.in_ok-serve_clients.ensures.lent;
    } in
    λ words serve. inr (c.in_ok-cfg.ensures.built, (c.args.asked.now.cfg.now, c.args.asked.now.connections, serve, c.in_ok-cfg.cfg, c.in_ok-cfg.ensures.accepted, (Ok tt, does, refl)))
