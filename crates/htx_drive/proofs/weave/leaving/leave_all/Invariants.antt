use Rattle.htx_drive.proofs.WeaveLemmas.Whole.{LeftUpTo}
use Rattle.htx_drive.proofs.weave.leaving.leave_all.Given as goal

abbrev pub invariant-loop-place : goal.invariant-loop-place
invariant-loop-place g l = LeftUpTo g.C.Machine.meaning g.C.Machine.stands g.C.Machine.seen g.L.Link.seen g.L.Link.wrote g.N.Net.seen l.place l.initial.conns l.conns
