use Rattle.std.proofs.Common.{◌≡◌, drop}
use Rattle.std.specs.List.{list_any}
use Rattle.acl_eval.specs.Condition.{group_holds}
use Rattle.acl_eval.proofs.evaluation.some_group_holds.Given as goal

-- the groups that are left decide as all of them
abbrev pub invariant-loop-at : goal.invariant-loop-at
invariant-loop-at g l = record {
  cap : l.buf.cap ≡ l.initial.buf.cap;
  spare_cap : l.spare.cap ≡ l.initial.buf.cap;
  left : list_any (group_holds l.initial.buf.cap (g.E.Env.samples l.env)) (drop l.at l.groups) ≡ list_any (group_holds l.initial.buf.cap (g.E.Env.samples l.env)) l.groups;
}
