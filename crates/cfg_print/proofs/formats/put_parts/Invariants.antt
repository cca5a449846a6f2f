use Rattle.std.proofs.Common.{◌≡◌, ◌++◌, drop}
use Rattle.std.specs.List.{flat_map}
use Rattle.cfg_print.specs.Formats.{part_text}
use Rattle.cfg_print.proofs.formats.put_parts.Given as goal

abbrev pub invariant-loop-part : goal.invariant-loop-part
invariant-loop-part l = l.out.items ++ flat_map part_text (drop l.part-index l.parts) ≡ l.initial.out.items ++ flat_map part_text l.parts
