use Rattle.std.proofs.Common.{ℕ, subst}
use Rattle.std.specs.Prelude.{Ok}
use Rattle.px_link.specs.declared.fault.Fault.{Fault}
use Rattle.proxy_commands.specs.Ends.{Output, put}
use Rattle.proxy_commands.specs.Stops.{Answers, stop_of_output}
use Rattle.proxy_commands.proofs.Writing.{write_ok, write_stops, writes_err}
use Rattle.proxy_commands.proofs.command.write.Goals as goal

pub returns-in_err-write_all : goal.returns-in_err-write_all
returns-in_err-write_all g c = λ input made.
    let before : ℕ = g.K.Sink.faults c.args.out.now in
    let now : ℕ = g.K.Sink.faults c.write_all.new.self in
    let output : Output = put before now (g.K.Sink.written c.args.out.now) (g.K.Sink.written c.write_all.new.self) in
    let fault : Fault = c.in_err-write_all.field-0.0 in
    let good : Answers input (Ok c.in_ok-text.text) = subst (Answers input) c.in_ok-text.was made in
    writes_err input output c.from_residual-in_err-write_all.result (stop_of_output fault) c.from_residual-in_err-write_all.ensures.1
    (write_stops input before now output.old output.new c.in_ok-text.text c.as_slice.result.now fault c.as_slice.ensures good c.in_err-write_all.ensures.err c.in_err-write_all.ensures.count)

pub returns : goal.returns
returns g c = λ input made.
    let output : Output = put (g.K.Sink.faults c.args.out.now) (g.K.Sink.faults c.write_all.new.self) (g.K.Sink.written c.args.out.now) (g.K.Sink.written c.write_all.new.self) in
    write_ok input output c.in_ok-text.text c.as_slice.result.now c.as_slice.ensures (subst (Answers input) c.in_ok-text.was made) c.in_ok-write_all.ensures.ok
