use Rattle.std.proofs.Common.{◌≡◌, drop}
use Rattle.std.specs.List.{list_all}
use Rattle.acl_eval.specs.Condition.{term_holds}
use Rattle.acl_eval.proofs.evaluation.group_holds.Given as goal

-- the terms that are left decide as all of them
abbrev pub invariant-loop-at : goal.invariant-loop-at
invariant-loop-at g l = record {
  cap : l.buf.cap ≡ l.initial.buf.cap;
  spare_cap : l.spare.cap ≡ l.initial.buf.cap;
  left : list_all (term_holds l.initial.buf.cap (g.E.Env.samples l.env)) (drop l.at l.terms) ≡ list_all (term_holds l.initial.buf.cap (g.E.Env.samples l.env)) l.terms;
}
