use Rattle.std.proofs.Common.{rules, ◌≡◌, true}
use Rattle.px_link.specs.Told.{Rose, GainsFront}
use Rattle.px_run.specs.declared.lines.Output.TheVariants as outputs
use Rattle.px_run.proofs.Texts.{writes_open, writes_part, writes_fails}
use Rattle.px_run.proofs.lines.write_text.Goals as goal

pub returns-in-Err-Failed : goal.returns-in-Err-Failed
returns-in-Err-Failed g c =
    let o : c.args.output.now ≡ outputs.Open = search rules in
    let r : Rose (g.K.Sink.faults c.args.out.now) (g.K.Sink.faults c.write_all.new.self) = search rules in
    let f : GainsFront (g.K.Sink.written c.args.out.now) (g.K.Sink.written c.write_all.new.self) c.args.text.now = search rules in
    record {
      writes = λ writes before text w.
          writes_fails writes (g.K.Sink.faults c.args.out.now) (g.K.Sink.faults c.write_all.new.self) before (g.K.Sink.written c.args.out.now) (g.K.Sink.written c.write_all.new.self) text c.args.text.now r f
          (writes_open true c.args.output.now outputs.Open writes (g.K.Sink.faults c.args.out.now) before (g.K.Sink.written c.args.out.now) text o w);
    }

pub returns-in-Err-OutOfMemory : goal.returns-in-Err-OutOfMemory
returns-in-Err-OutOfMemory g c =
    let o : c.args.output.now ≡ outputs.Open = search rules in
    let f : GainsFront (g.K.Sink.written c.args.out.now) (g.K.Sink.written c.write_all.new.self) c.args.text.now = search rules in
    record {
      writes = λ writes before text w.
          writes_part writes (g.K.Sink.faults c.args.out.now) before (g.K.Sink.written c.args.out.now) (g.K.Sink.written c.write_all.new.self) text c.args.text.now f
          (writes_open true c.args.output.now outputs.Open writes (g.K.Sink.faults c.args.out.now) before (g.K.Sink.written c.args.out.now) text o w);
    }
