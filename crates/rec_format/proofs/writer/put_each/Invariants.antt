use Rattle.std.proofs.Common.{◌≡◌, ◌++◌, drop}
use Rattle.std.specs.List.{flat_map}
use Rattle.rec_format.specs.Read.{visits}
use Rattle.rec_format.specs.Written.{visit_text}
use Rattle.rec_format.proofs.writer.put_each.Given as goal

abbrev pub invariant-loop-conn : goal.invariant-loop-conn
invariant-loop-conn l = l.text.items ++ flat_map visit_text (visits (drop l.conn-index l.conns)) ≡ l.initial.text.items ++ flat_map visit_text (visits l.conns)
