use Rattle.std.specs.Prelude.{Some}
use Rattle.h1_head.specs.declared.answer.Side.TheVariants.{Response}
use Rattle.forward_core.proofs.AnswerLemmas.Totals.{reads_over}
use Rattle.forward_core.proofs.answer.laws.total.Goals as goal

pub returns : goal.returns
returns c = λ cfg. record {
  heads = λ head_asked bytes. c.some_reading.ensures (Response head_asked) cfg.limits bytes;
  shorter = λ head_asked bytes received rest x. c.has_bytes.ensures (Response head_asked) cfg.limits bytes received rest x;
  bodies = λ framing bytes how.
      let read = c.reading.ensures cfg.limits framing bytes (Some how) in
      reads_over cfg.limits framing bytes how read.0 read.1;
}
