use Rattle.std.proofs.Common.{ℕ, List, ◌≡◌, ap, map}
use Rattle.std.specs.Prelude.{Option, Result, string_bytes}
use Rattle.http_rules.specs.declared.config.Config.{Config}
use Rattle.serve_run.specs.declared.outcome.ServeFault.{ServeFault}
use Rattle.proxy_commands.specs.Ends.{Output, put}
use Rattle.proxy_commands.specs.Files.{told_by}
use Rattle.px_command.specs.declared.options.RunOptions.{RunOptions}
use Rattle.px_run.specs.declared.plan.RunFault.{RunFault}
use Rattle.proxy_sessions.specs.Running.{Runs}
use Rattle.proxy_sessions.specs.Serving.{Serves}
use Rattle.proxy_commands.specs.Stops.{Input, given}
use Rattle.proxy_commands.specs.declared.status.Status.TheVariants as ended
use Rattle.proxy_call.proofs.AnyEnd as clause
use Rattle.proxy_call.proofs.AnyEnd.{End, any_err, any_ok}
use Rattle.proxy_call.proofs.top.htx_proxy.Goals as goal

pub returns-in-Ok : goal.returns-in-Ok
returns-in-Ok g c =
    let input : Input =
    given (map string_bytes c.args.words.now) (g.F.Files.files c.args.files.now) (told_by (g.P.Patterns.refusals c.args.pats.now) (g.P.Patterns.refusals c.run.new.pats) (g.P.Patterns.last_refused c.run.new.pats))
    (g.F.Files.last_failed c.run.new.files) (g.F.Files.faults c.args.files.now) (g.F.Files.faults c.run.new.files) in
    let writes : ℕ = g.K.Sink.faults c.args.out.now in
    let old : Option (List ℕ) = g.K.Sink.written c.args.out.now in
    let Does : ℕ → Option (List ℕ) → Config → ℕ → Result (Unit {0}) ServeFault → Type 0 =
    λ now new. Serves g.H.Link.seen g.H.Link.wrote g.H.HasPair.tells g.N.Net.seen c.args.nets.now.serve c.run.new.nets.serve writes now old new in
    let idle : Type 0 = c.run.new.nets.run ≡ c.args.nets.now.run in
    let Ran : ℕ → Option (List ℕ) → Config → RunOptions → Result (Unit {0}) RunFault → Type 0 = λ now new. Runs g.L.Link.seen g.L.Link.wrote g.L.HasPair.tells g.M.Net.seen (g.S.Nets.accepts_none c.run.new.nets.run.nets) c.args.nets.now.run.net c.run.new.nets.run.net writes now old new in
    let output : Output = put writes (g.K.Sink.faults c.run.new.out) old (g.K.Sink.written c.run.new.out) in
    let end : End g.H.Link.seen g.H.Link.wrote g.H.HasPair.tells g.N.Net.seen c.args.nets.now.serve c.run.new.nets.serve idle (Ran output.writes_now output.new) input output ended.Good =
    any_ok input output (c.run.new.nets.serve ≡ c.args.nets.now.serve) idle (Does output.writes_now output.new) (Ran output.writes_now output.new) c.in-Ok.ensures in
    record {
      good = clause.good g.H.Link.seen g.H.Link.wrote g.H.HasPair.tells g.N.Net.seen c.args.nets.now.serve c.run.new.nets.serve idle (Ran output.writes_now output.new) input output ended.Good end;
      served = clause.served g.H.Link.seen g.H.Link.wrote g.H.HasPair.tells g.N.Net.seen c.args.nets.now.serve c.run.new.nets.serve idle (Ran output.writes_now output.new) input output ended.Good end;
      told = clause.told g.H.Link.seen g.H.Link.wrote g.H.HasPair.tells g.N.Net.seen c.args.nets.now.serve c.run.new.nets.serve idle (Ran output.writes_now output.new) input output ended.Good end;
      built = clause.built g.H.Link.seen g.H.Link.wrote g.H.HasPair.tells g.N.Net.seen c.args.nets.now.serve c.run.new.nets.serve idle (Ran output.writes_now output.new) input output ended.Good end;
      net_built = clause.net_built g.H.Link.seen g.H.Link.wrote g.H.HasPair.tells g.N.Net.seen c.args.nets.now.serve c.run.new.nets.serve idle (Ran output.writes_now output.new) input output ended.Good end;
      usage = clause.usage g.H.Link.seen g.H.Link.wrote g.H.HasPair.tells g.N.Net.seen c.args.nets.now.serve c.run.new.nets.serve idle (Ran output.writes_now output.new) input output ended.Good end;
      config = clause.config g.H.Link.seen g.H.Link.wrote g.H.HasPair.tells g.N.Net.seen c.args.nets.now.serve c.run.new.nets.serve idle (Ran output.writes_now output.new) input output ended.Good end;
      record_refused = clause.record_refused g.H.Link.seen g.H.Link.wrote g.H.HasPair.tells g.N.Net.seen c.args.nets.now.serve c.run.new.nets.serve idle (Ran output.writes_now output.new) input output ended.Good end;
      file_fault = clause.file_fault g.H.Link.seen g.H.Link.wrote g.H.HasPair.tells g.N.Net.seen c.args.nets.now.serve c.run.new.nets.serve idle (Ran output.writes_now output.new) input output ended.Good end;
      file_name = clause.file_name g.H.Link.seen g.H.Link.wrote g.H.HasPair.tells g.N.Net.seen c.args.nets.now.serve c.run.new.nets.serve idle (Ran output.writes_now output.new) input output ended.Good end;
      file_line = clause.file_told g.H.Link.seen g.H.Link.wrote g.H.HasPair.tells g.N.Net.seen c.args.nets.now.serve c.run.new.nets.serve idle (Ran output.writes_now output.new) input output ended.Good end;
      out_fault = clause.out_fault g.H.Link.seen g.H.Link.wrote g.H.HasPair.tells g.N.Net.seen c.args.nets.now.serve c.run.new.nets.serve idle (Ran output.writes_now output.new) input output ended.Good end;
      net_fault = clause.net_fault g.H.Link.seen g.H.Link.wrote g.H.HasPair.tells g.N.Net.seen c.args.nets.now.serve c.run.new.nets.serve idle (Ran output.writes_now output.new) input output ended.Good end;
      front = clause.front g.H.Link.seen g.H.Link.wrote g.H.HasPair.tells g.N.Net.seen c.args.nets.now.serve c.run.new.nets.serve idle (Ran output.writes_now output.new) input output ended.Good end;
      memory = clause.memory g.H.Link.seen g.H.Link.wrote g.H.HasPair.tells g.N.Net.seen c.args.nets.now.serve c.run.new.nets.serve idle (Ran output.writes_now output.new) input output ended.Good end;
      binds = clause.binds g.H.Link.seen g.H.Link.wrote g.H.HasPair.tells g.N.Net.seen c.args.nets.now.serve c.run.new.nets.serve idle (Ran output.writes_now output.new) input output ended.Good end;
      bound = clause.bound g.H.Link.seen g.H.Link.wrote g.H.HasPair.tells g.N.Net.seen c.args.nets.now.serve c.run.new.nets.serve idle (Ran output.writes_now output.new) input output ended.Good end;
      dialled = clause.dialled g.H.Link.seen g.H.Link.wrote g.H.HasPair.tells g.N.Net.seen c.args.nets.now.serve c.run.new.nets.serve idle (Ran output.writes_now output.new) input output ended.Good end;
      lent = clause.lent g.H.Link.seen g.H.Link.wrote g.H.HasPair.tells g.N.Net.seen c.args.nets.now.serve c.run.new.nets.serve idle (Ran output.writes_now output.new) input output ended.Good end;
      refused = clause.refused g.H.Link.seen g.H.Link.wrote g.H.HasPair.tells g.N.Net.seen c.args.nets.now.serve c.run.new.nets.serve idle (Ran output.writes_now output.new) input output ended.Good end;
      untouched = clause.untouched g.H.Link.seen g.H.Link.wrote g.H.HasPair.tells g.N.Net.seen c.args.nets.now.serve c.run.new.nets.serve idle (Ran output.writes_now output.new) input output ended.Good end;
      ran = clause.ran g.H.Link.seen g.H.Link.wrote g.H.HasPair.tells g.N.Net.seen c.args.nets.now.serve c.run.new.nets.serve idle (Ran output.writes_now output.new) input output ended.Good end;
      refused_idle = clause.refused_idle g.H.Link.seen g.H.Link.wrote g.H.HasPair.tells g.N.Net.seen c.args.nets.now.serve c.run.new.nets.serve idle (Ran output.writes_now output.new) input output ended.Good end;
      idle = clause.never_ran g.H.Link.seen g.H.Link.wrote g.H.HasPair.tells g.N.Net.seen c.args.nets.now.serve c.run.new.nets.serve idle (Ran output.writes_now output.new) input output ended.Good end;
      left_idle = clause.left_idle g.H.Link.seen g.H.Link.wrote g.H.HasPair.tells g.N.Net.seen c.args.nets.now.serve c.run.new.nets.serve idle (Ran output.writes_now output.new) input output ended.Good end;
      complete = clause.complete g.H.Link.seen g.H.Link.wrote g.H.HasPair.tells g.N.Net.seen c.args.nets.now.serve c.run.new.nets.serve idle (Ran output.writes_now output.new) input output ended.Good end;
    }

pub returns-in-Err : goal.returns-in-Err
returns-in-Err g c =
    let input : Input =
    given (map string_bytes c.args.words.now) (g.F.Files.files c.args.files.now) (told_by (g.P.Patterns.refusals c.args.pats.now) (g.P.Patterns.refusals c.run.new.pats) (g.P.Patterns.last_refused c.run.new.pats))
    (g.F.Files.last_failed c.run.new.files) (g.F.Files.faults c.args.files.now) (g.F.Files.faults c.run.new.files) in
    let writes : ℕ = g.K.Sink.faults c.args.out.now in
    let old : Option (List ℕ) = g.K.Sink.written c.args.out.now in
    let Does : ℕ → Option (List ℕ) → Config → ℕ → Result (Unit {0}) ServeFault → Type 0 =
    λ now new. Serves g.H.Link.seen g.H.Link.wrote g.H.HasPair.tells g.N.Net.seen c.args.nets.now.serve c.run.new.nets.serve writes now old new in
    let idle : Type 0 = c.run.new.nets.run ≡ c.args.nets.now.run in
    let Ran : ℕ → Option (List ℕ) → Config → RunOptions → Result (Unit {0}) RunFault → Type 0 = λ now new. Runs g.L.Link.seen g.L.Link.wrote g.L.HasPair.tells g.M.Net.seen (g.S.Nets.accepts_none c.run.new.nets.run.nets) c.args.nets.now.run.net c.run.new.nets.run.net writes now old new in
    let output : Output = put writes (g.K.Sink.faults c.end.new.out) old (g.K.Sink.written c.end.new.out) in
    let end : End g.H.Link.seen g.H.Link.wrote g.H.HasPair.tells g.N.Net.seen c.args.nets.now.serve c.run.new.nets.serve idle (Ran output.writes_now output.new) input output c.end.result =
    any_err input writes (g.K.Sink.faults c.run.new.out) output.writes_now old (g.K.Sink.written c.run.new.out) output.new (c.run.new.nets.serve ≡ c.args.nets.now.serve) idle Does Ran c.in-Err.stop c.end.result c.in-Err.ensures
    (c.end.ensures.told input) (λ silent.
    let s = c.end.ensures.silent silent in (s.0, ap g.K.Sink.faults s.1, ap g.K.Sink.written s.1)) in
    record {
      good = clause.good g.H.Link.seen g.H.Link.wrote g.H.HasPair.tells g.N.Net.seen c.args.nets.now.serve c.run.new.nets.serve idle (Ran output.writes_now output.new) input output c.end.result end;
      served = clause.served g.H.Link.seen g.H.Link.wrote g.H.HasPair.tells g.N.Net.seen c.args.nets.now.serve c.run.new.nets.serve idle (Ran output.writes_now output.new) input output c.end.result end;
      told = clause.told g.H.Link.seen g.H.Link.wrote g.H.HasPair.tells g.N.Net.seen c.args.nets.now.serve c.run.new.nets.serve idle (Ran output.writes_now output.new) input output c.end.result end;
      built = clause.built g.H.Link.seen g.H.Link.wrote g.H.HasPair.tells g.N.Net.seen c.args.nets.now.serve c.run.new.nets.serve idle (Ran output.writes_now output.new) input output c.end.result end;
      net_built = clause.net_built g.H.Link.seen g.H.Link.wrote g.H.HasPair.tells g.N.Net.seen c.args.nets.now.serve c.run.new.nets.serve idle (Ran output.writes_now output.new) input output c.end.result end;
      usage = clause.usage g.H.Link.seen g.H.Link.wrote g.H.HasPair.tells g.N.Net.seen c.args.nets.now.serve c.run.new.nets.serve idle (Ran output.writes_now output.new) input output c.end.result end;
      config = clause.config g.H.Link.seen g.H.Link.wrote g.H.HasPair.tells g.N.Net.seen c.args.nets.now.serve c.run.new.nets.serve idle (Ran output.writes_now output.new) input output c.end.result end;
      record_refused = clause.record_refused g.H.Link.seen g.H.Link.wrote g.H.HasPair.tells g.N.Net.seen c.args.nets.now.serve c.run.new.nets.serve idle (Ran output.writes_now output.new) input output c.end.result end;
      file_fault = clause.file_fault g.H.Link.seen g.H.Link.wrote g.H.HasPair.tells g.N.Net.seen c.args.nets.now.serve c.run.new.nets.serve idle (Ran output.writes_now output.new) input output c.end.result end;
      file_name = clause.file_name g.H.Link.seen g.H.Link.wrote g.H.HasPair.tells g.N.Net.seen c.args.nets.now.serve c.run.new.nets.serve idle (Ran output.writes_now output.new) input output c.end.result end;
      file_line = clause.file_told g.H.Link.seen g.H.Link.wrote g.H.HasPair.tells g.N.Net.seen c.args.nets.now.serve c.run.new.nets.serve idle (Ran output.writes_now output.new) input output c.end.result end;
      out_fault = clause.out_fault g.H.Link.seen g.H.Link.wrote g.H.HasPair.tells g.N.Net.seen c.args.nets.now.serve c.run.new.nets.serve idle (Ran output.writes_now output.new) input output c.end.result end;
      net_fault = clause.net_fault g.H.Link.seen g.H.Link.wrote g.H.HasPair.tells g.N.Net.seen c.args.nets.now.serve c.run.new.nets.serve idle (Ran output.writes_now output.new) input output c.end.result end;
      front = clause.front g.H.Link.seen g.H.Link.wrote g.H.HasPair.tells g.N.Net.seen c.args.nets.now.serve c.run.new.nets.serve idle (Ran output.writes_now output.new) input output c.end.result end;
      memory = clause.memory g.H.Link.seen g.H.Link.wrote g.H.HasPair.tells g.N.Net.seen c.args.nets.now.serve c.run.new.nets.serve idle (Ran output.writes_now output.new) input output c.end.result end;
      binds = clause.binds g.H.Link.seen g.H.Link.wrote g.H.HasPair.tells g.N.Net.seen c.args.nets.now.serve c.run.new.nets.serve idle (Ran output.writes_now output.new) input output c.end.result end;
      bound = clause.bound g.H.Link.seen g.H.Link.wrote g.H.HasPair.tells g.N.Net.seen c.args.nets.now.serve c.run.new.nets.serve idle (Ran output.writes_now output.new) input output c.end.result end;
      dialled = clause.dialled g.H.Link.seen g.H.Link.wrote g.H.HasPair.tells g.N.Net.seen c.args.nets.now.serve c.run.new.nets.serve idle (Ran output.writes_now output.new) input output c.end.result end;
      lent = clause.lent g.H.Link.seen g.H.Link.wrote g.H.HasPair.tells g.N.Net.seen c.args.nets.now.serve c.run.new.nets.serve idle (Ran output.writes_now output.new) input output c.end.result end;
      refused = clause.refused g.H.Link.seen g.H.Link.wrote g.H.HasPair.tells g.N.Net.seen c.args.nets.now.serve c.run.new.nets.serve idle (Ran output.writes_now output.new) input output c.end.result end;
      untouched = clause.untouched g.H.Link.seen g.H.Link.wrote g.H.HasPair.tells g.N.Net.seen c.args.nets.now.serve c.run.new.nets.serve idle (Ran output.writes_now output.new) input output c.end.result end;
      ran = clause.ran g.H.Link.seen g.H.Link.wrote g.H.HasPair.tells g.N.Net.seen c.args.nets.now.serve c.run.new.nets.serve idle (Ran output.writes_now output.new) input output c.end.result end;
      refused_idle = clause.refused_idle g.H.Link.seen g.H.Link.wrote g.H.HasPair.tells g.N.Net.seen c.args.nets.now.serve c.run.new.nets.serve idle (Ran output.writes_now output.new) input output c.end.result end;
      idle = clause.never_ran g.H.Link.seen g.H.Link.wrote g.H.HasPair.tells g.N.Net.seen c.args.nets.now.serve c.run.new.nets.serve idle (Ran output.writes_now output.new) input output c.end.result end;
      left_idle = clause.left_idle g.H.Link.seen g.H.Link.wrote g.H.HasPair.tells g.N.Net.seen c.args.nets.now.serve c.run.new.nets.serve idle (Ran output.writes_now output.new) input output c.end.result end;
      complete = clause.complete g.H.Link.seen g.H.Link.wrote g.H.HasPair.tells g.N.Net.seen c.args.nets.now.serve c.run.new.nets.serve idle (Ran output.writes_now output.new) input output c.end.result end;
    }
