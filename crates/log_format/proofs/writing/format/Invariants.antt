use Rattle.std.proofs.Common.{◌≡◌, ◌≤◌, ◌++◌, length, drop}
use Rattle.std.specs.List.{flat_map}
use Rattle.log_format.specs.Format.{part_text, text}
use Rattle.log_format.proofs.writing.format.Given as goal

-- what is joined, with the texts of the parts that are left, is the whole
abbrev pub invariant-loop-at : goal.invariant-loop-at
invariant-loop-at g l = record {
  into_cap : l.into.cap ≡ l.fn.into.cap;
  cap : l.buf.cap ≡ l.initial.buf.cap;
  spare_cap : l.spare.cap ≡ l.initial.buf.cap;
  within : length l.into.bytes ≤ l.into.cap;
  joined : l.into.bytes ++ flat_map (part_text l.initial.buf.cap (g.E.Env.samples l.env)) (drop l.at l.fmt.parts) ≡ text l.initial.buf.cap (g.E.Env.samples l.env) l.fmt;
}
