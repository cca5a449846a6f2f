use Rattle.std.proofs.Common.{All, take}
use Rattle.px_proxyproto.specs.Lines.{IsInLine}
use Rattle.px_proxyproto.proofs.state.cut_line.Given as goal

abbrev pub invariant-loop-i : goal.invariant-loop-i
invariant-loop-i l = All IsInLine (take l.i l.bytes)
