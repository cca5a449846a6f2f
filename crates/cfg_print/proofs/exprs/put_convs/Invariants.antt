use Rattle.std.proofs.Common.{◌≡◌, ◌++◌, drop}
use Rattle.std.specs.List.{flat_map}
use Rattle.cfg_print.specs.Exprs.{conv_text}
use Rattle.cfg_print.proofs.exprs.put_convs.Given as goal

abbrev pub invariant-loop-conv : goal.invariant-loop-conv
invariant-loop-conv l = l.out.items ++ flat_map conv_text (drop l.conv-index l.convs) ≡ l.initial.out.items ++ flat_map conv_text l.convs
