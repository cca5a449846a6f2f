use Rattle.std.proofs.Common.{false, [], ◌++◌, ◌+◌}
use Rattle.htx_drive.specs.declared.SessionFault.TheVariants as faults
use Rattle.px_link.specs.Net.{address_of}
use Rattle.px_run.proofs.Courses.{none_open, not_true, steps_on, gives_up_so}
use Rattle.px_run.proofs.step.opens.Goals as goal

pub open-requires-clause-none : goal.open-requires-clause-none
open-requires-clause-none g c =
    none_open c.args.conn.now.server _ c.requires.may.serving (λ e. not_true _ c.requires.wanted ((g.met.C.Machine.wants_mean c.args.core.now).serving e).0)

pub returns-in-Ok-clause-goes : goal.returns-in-Ok-clause-goes
returns-in-Ok-clause-goes g c = λ cfg first first_net w.
    steps_on (g.C.Machine.meaning cfg) (g.C.Machine.stands cfg) g.C.Machine.seen g.L.Link.seen g.L.Link.wrote first (address_of c.args.to.now) (g.N.Net.seen first_net) c.args.core.now c.open.new.core _ _ _ _ _ _ (λ n. 1 + n)
    (λ all ahead count h. c.in-Ok.ensures.goes cfg all ahead count first first_net h) w

pub returns-in-Err-clause-goes : goal.returns-in-Err-clause-goes
returns-in-Err-clause-goes g c = λ cfg first first_net w.
    let h = w.1 [] in
    record {
      so = gives_up_so (g.C.Machine.meaning cfg) (g.C.Machine.stands cfg) g.C.Machine.seen g.L.Link.seen g.L.Link.wrote first (address_of c.args.to.now) (g.N.Net.seen first_net) c.open.new.core _ _ _ _ _ faults.OutOfMemory _ h.0 c.fail.ensures.ran
          (λ all left count s. c.fail.ensures.given_up cfg c.open.new.core all left count first false (address_of c.args.to.now) first_net s)
          (c.in-Err.ensures.goes cfg (w.0 ++ []) [] h.0 first first_net h.1);
      core = tt;
    }
