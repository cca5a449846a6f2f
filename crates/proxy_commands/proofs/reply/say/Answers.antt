use Rattle.std.proofs.Common.{ℕ}
use Rattle.px_link.specs.declared.fault.Fault.{Fault}
use Rattle.proxy_commands.specs.Ends.{Output, put}
use Rattle.proxy_commands.specs.Stops.{stop_of_output}
use Rattle.proxy_commands.proofs.Writing.{say_nothing, say_ok, say_stops, says_err}
use Rattle.proxy_commands.proofs.reply.say.Goals as goal

pub returns-in_err-reply-clause-told : goal.returns-in_err-reply-clause-told
returns-in_err-reply-clause-told g c = λ input stops.
    let output : Output = put (g.K.Sink.faults c.args.out.now) (g.K.Sink.faults c.args.out.now) (g.K.Sink.written c.args.out.now) (g.K.Sink.written c.args.out.now) in
    says_err input output c.from_residual.result c.in_err-reply.field-0.0 c.from_residual.ensures.1
    (say_nothing input (g.K.Sink.faults c.args.out.now) (g.K.Sink.written c.args.out.now) c.in_err-reply.field-0.0 (c.in_err-reply.ensures.told input stops))

pub returns-in_err-write_all-clause-told : goal.returns-in_err-write_all-clause-told
returns-in_err-write_all-clause-told g c = λ input stops.
    let before : ℕ = g.K.Sink.faults c.args.out.now in
    let now : ℕ = g.K.Sink.faults c.write_all.new.self in
    let output : Output = put before now (g.K.Sink.written c.args.out.now) (g.K.Sink.written c.write_all.new.self) in
    let fault : Fault = c.in_err-write_all.field-0.0 in
    says_err input output c.from_residual-in_err-write_all.result (stop_of_output fault) c.from_residual-in_err-write_all.ensures.1
    (say_stops input before now output.old output.new c.in_ok-reply.reply c.as_slice.result.now fault c.as_slice.ensures (c.in_ok-reply.ensures.told input stops) c.in_err-write_all.ensures.err
    c.in_err-write_all.ensures.count)

pub returns-clause-told : goal.returns-clause-told
returns-clause-told g c = λ input stops.
    let output : Output = put (g.K.Sink.faults c.args.out.now) (g.K.Sink.faults c.write_all.new.self) (g.K.Sink.written c.args.out.now) (g.K.Sink.written c.write_all.new.self) in
    say_ok input output c.in_ok-reply.reply c.as_slice.result.now c.as_slice.ensures (c.in_ok-reply.ensures.told input stops) c.in_ok-write_all.ensures.ok
