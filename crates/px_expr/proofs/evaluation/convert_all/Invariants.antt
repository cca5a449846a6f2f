use Rattle.std.proofs.Common.{◌≡◌, drop}
use Rattle.px_sample.specs.Sample.{value_in}
use Rattle.px_expr.specs.Expr.{put_through}
use Rattle.px_expr.proofs.evaluation.convert_all.Given as goal

-- the converters that are left make of the sample what all make of the first
abbrev pub invariant-loop-at : goal.invariant-loop-at
invariant-loop-at l = record {
  cap : l.buf.cap ≡ l.initial.buf.cap;
  spare_cap : l.spare.cap ≡ l.initial.buf.cap;
  left : put_through l.initial.buf.cap (drop l.at l.convs) (value_in l.made l.buf.bytes) ≡ put_through l.initial.buf.cap l.convs (value_in l.initial.made l.initial.buf.bytes);
}
