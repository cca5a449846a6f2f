use Rattle.std.proofs.Common.{sym, subst}
use Rattle.proxy_commands.specs.Ends.{Output, Tells, put}
use Rattle.proxy_commands.specs.declared.status.Status.{Status}
use Rattle.proxy_commands.proofs.Writing.{tells, tells_stop}
use Rattle.proxy_commands.proofs.reply.end.Goals as goal

pub returns-in-Ok-clause-told : goal.returns-in-Ok-clause-told
returns-in-Ok-clause-told g c = λ input stops.
    let output : Output = put (g.K.Sink.faults c.args.out.now) (g.K.Sink.faults c.say.new.out) (g.K.Sink.written c.args.out.now) (g.K.Sink.written c.say.new.out) in
    tells input output c.in-Ok.status (c.in-Ok.ensures.told input stops)

pub returns-in-Err-clause-told : goal.returns-in-Err-clause-told
returns-in-Err-clause-told g c = λ input stops.
    let output : Output = put (g.K.Sink.faults c.args.out.now) (g.K.Sink.faults c.say.new.out) (g.K.Sink.written c.args.out.now) (g.K.Sink.written c.say.new.out) in
    subst (λ (s : Status). Tells input output s) (sym c.status.ensures) (tells_stop input output c.in-Err.stop (c.in-Err.ensures.told input stops))
