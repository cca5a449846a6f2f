use Rattle.std.proofs.Common.{false, [], ◌++◌}
use Rattle.px_link.specs.Net.{address_of}
use Rattle.htx_drive.specs.declared.SessionFault.TheVariants as faults
use Rattle.px_run.proofs.Courses.{works, gives_up_so}
use Rattle.px_run.proofs.step.step.Goals as goal

pub returns-in-Ok-Some-clause-goes : goal.returns-in-Ok-Some-clause-goes
returns-in-Ok-Some-clause-goes g c = λ cfg first first_net w.
    let s = works (g.C.Machine.meaning cfg) (g.C.Machine.stands cfg) g.C.Machine.seen g.L.Link.seen g.L.Link.wrote first (address_of c.args.to.now) (g.N.Net.seen first_net) c.args.core.now c.worked.new.core _ _ _ _ _ _ (λ all ahead count h. c.in-Ok-Some.ensures.goes cfg all ahead count first (address_of c.args.to.now) first_net h) w in
    c.does.ensures.goes cfg first first_net s

pub returns-in-Ok-Some-clause-logs : goal.returns-in-Ok-Some-clause-logs
returns-in-Ok-Some-clause-logs g c = λ cfg first first_net w.
    let s = works (g.C.Machine.meaning cfg) (g.C.Machine.stands cfg) g.C.Machine.seen g.L.Link.seen g.L.Link.wrote first (address_of c.args.to.now) (g.N.Net.seen first_net) c.args.core.now c.worked.new.core _ _ _ _ _ _ (λ all ahead count h. c.in-Ok-Some.ensures.goes cfg all ahead count first (address_of c.args.to.now) first_net h) w in
    c.does.ensures.logs cfg first first_net s

pub returns-in-Ok-None-clause-goes : goal.returns-in-Ok-None-clause-goes
returns-in-Ok-None-clause-goes g c = λ cfg first first_net w.
    let s = works (g.C.Machine.meaning cfg) (g.C.Machine.stands cfg) g.C.Machine.seen g.L.Link.seen g.L.Link.wrote first (address_of c.args.to.now) (g.N.Net.seen first_net) c.args.core.now c.worked.new.core _ _ _ _ _ _ (λ all ahead count h. c.in-Ok-None.ensures.goes cfg all ahead count first (address_of c.args.to.now) first_net h) w in
    c.says.ensures.goes cfg first (address_of c.args.to.now) first_net s

pub returns-in-Ok-None-clause-logs : goal.returns-in-Ok-None-clause-logs
returns-in-Ok-None-clause-logs g c = λ cfg first first_net w.
    let s = works (g.C.Machine.meaning cfg) (g.C.Machine.stands cfg) g.C.Machine.seen g.L.Link.seen g.L.Link.wrote first (address_of c.args.to.now) (g.N.Net.seen first_net) c.args.core.now c.worked.new.core _ _ _ _ _ _ (λ all ahead count h. c.in-Ok-None.ensures.goes cfg all ahead count first (address_of c.args.to.now) first_net h) w in
    c.says.ensures.logs cfg first (address_of c.args.to.now) first_net s

pub returns-in-Err-clause-goes : goal.returns-in-Err-clause-goes
returns-in-Err-clause-goes g c = λ cfg first first_net w.
    let h = w.1 [] in
    record {
      so = gives_up_so (g.C.Machine.meaning cfg) (g.C.Machine.stands cfg) g.C.Machine.seen g.L.Link.seen g.L.Link.wrote first (address_of c.args.to.now) (g.N.Net.seen first_net) c.worked.new.core _ _ _ _ _ faults.OutOfMemory _ h.0 c.fail.ensures.ran
          (λ all left count s. c.fail.ensures.given_up cfg c.worked.new.core all left count first false (address_of c.args.to.now) first_net s)
          (c.in-Err.ensures.goes cfg (w.0 ++ []) [] h.0 first (address_of c.args.to.now) first_net h.1);
      core = tt;
    }
