use Rattle.std.proofs.Common.{arith}
use Rattle.cfg_parse.proofs.JudgingLemmas.{keep_so}
use Rattle.cfg_parse.proofs.refused.keep.Goals as goal

pub returns : goal.returns
returns c =
    rw (← c.in_ok-text.ensures) (λ all is. keep_so c.push.result c.args.first.now c.push.new.self all (record { line = c.args.line; kind = c.args.kind; text = c.in_ok-text.text })
    c.push.ensures.ok (omega (arith, c.len.ensures)) is)
