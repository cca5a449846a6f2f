use Rattle.h1_head.specs.declared.answer.Side.TheVariants as side
use Rattle.forward_core.proofs.request.laws.total.Goals as goal

pub returns : goal.returns
returns c = λ cfg. record {
  heads = λ bytes. c.some_reading.ensures side.Request cfg.limits bytes;
  shorter = λ bytes received rest h. c.has_bytes.ensures side.Request cfg.limits bytes received rest h;
}
