use Rattle.std.proofs.Common.{sym, arith}
use Rattle.std.proofs.lemmas.List.{take_all, length-take-le}
use Rattle.proxy_commands.proofs.refusals.front.Goals as goal

pub returns-then-line-le-MAX_SHOWN : goal.returns-then-line-le-MAX_SHOWN
returns-then-line-le-MAX_SHOWN c = sym (take_all 200 c.args.line.now (omega (arith, c.if-line-le-MAX_SHOWN.true)))

pub slice_bounds-result-end : goal.slice_bounds-result-end
slice_bounds-result-end c = sym (length-take-le 200 c.args.line.now (omega (arith, c.if-line-le-MAX_SHOWN.false)))
