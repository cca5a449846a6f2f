use Rattle.std.proofs.Common.{◌≡◌, length}
use Rattle.std.specs.List.{list_any}
use Rattle.px_expr.specs.Expr.{samples}
use Rattle.acl_eval.specs.Matches.{sample_matches}
use Rattle.acl_eval.proofs.evaluation.test_holds.Given as goal

-- the samples that are left decide as all of them
abbrev pub invariant-samples : goal.invariant-samples
invariant-samples g l = record {
  cap : l.buf.cap ≡ l.initial.buf.cap;
  spare_cap : l.spare.cap ≡ l.initial.buf.cap;
  left : list_any (sample_matches l.initial.buf.cap l.test) (samples l.initial.buf.cap (λ fetch. g.E.Env.left l.env fetch l.place) l.test.expr) ≡ list_any (sample_matches l.initial.buf.cap l.test) (samples l.initial.buf.cap (g.E.Env.samples l.env) l.test.expr);
}

abbrev pub decreases-samples : goal.decreases-samples
decreases-samples g l = length (g.E.Env.left l.env l.test.expr.fetch l.place)
