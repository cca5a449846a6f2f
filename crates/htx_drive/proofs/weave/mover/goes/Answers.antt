use Rattle.std.proofs.Common.{refl, true}
use Rattle.px_link.specs.Net.{address_of}
use Rattle.htx_drive.specs.declared.SessionFault.TheVariants as faults
use Rattle.htx_drive.specs.declared.weave.moves.Moved.TheVariants as moves
use Rattle.htx_drive.proofs.WeaveLemmas.Moving.{as_moved, as_fault, over_ended, over_given_up, stood}
use Rattle.htx_drive.proofs.weave.mover.goes.Goals as goal

pub returns-in-Ok-Took-clause-goes : goal.returns-in-Ok-Took-clause-goes
returns-in-Ok-Took-clause-goes g c = λ cfg all ahead total first first_net e h.
    as_moved (g.C.Machine.stands cfg) g.C.Machine.seen all ahead c.moves.new.core g.L.Link.seen g.L.Link.wrote first _ _ (address_of c.args.to.now) _ _ total _ c.in-Ok-Took.field-0 moves.Took c.in-Ok-Took.field-0-is (c.in-Ok-Took.ensures.goes cfg all ahead total first first_net e h)

pub returns-in-Ok-Over-clause-goes : goal.returns-in-Ok-Over-clause-goes
returns-in-Ok-Over-clause-goes g c = λ cfg all ahead total first first_net e h.
    let k = as_moved (g.C.Machine.stands cfg) g.C.Machine.seen all ahead c.moves.new.core g.L.Link.seen g.L.Link.wrote first _ _ (address_of c.args.to.now) _ _ total _ c.in-Ok-Over.field-0 (moves.Over c.in-Ok-Over.end) c.in-Ok-Over.field-0-is (c.in-Ok-Over.ensures.goes cfg all ahead total first first_net e h) in (
      record {
        count = k.count;
        is = k.is;
        so = over_ended (g.C.Machine.meaning cfg) (g.C.Machine.stands cfg) g.C.Machine.seen all ahead g.L.Link.seen g.L.Link.wrote first _ (address_of c.args.to.now) _ _ _ k.count (c.finish.ensures.ended cfg all ahead k.count first (address_of c.args.to.now) first_net k.so);
      },
      stood (g.C.Machine.stands cfg) g.C.Machine.seen all ahead c.moves.new.core g.L.Link.seen g.L.Link.wrote first _ _ (address_of c.args.to.now) _ _ k.count k.so,
    )

pub returns-in-Ok-Spent-clause-goes : goal.returns-in-Ok-Spent-clause-goes
returns-in-Ok-Spent-clause-goes g c = λ cfg all ahead total first first_net e h.
    as_moved (g.C.Machine.stands cfg) g.C.Machine.seen all ahead c.moves.new.core g.L.Link.seen g.L.Link.wrote first _ _ (address_of c.args.to.now) _ _ total _ c.in-Ok-Spent.field-0 moves.Spent c.in-Ok-Spent.field-0-is (c.in-Ok-Spent.ensures.goes cfg all ahead total first first_net e h)

pub returns-in-Err-ClientWrite-clause-goes : goal.returns-in-Err-ClientWrite-clause-goes
returns-in-Err-ClientWrite-clause-goes g c = λ cfg all ahead total first first_net e h.
    let k = as_fault (g.C.Machine.meaning cfg) (g.C.Machine.stands cfg) g.C.Machine.seen all c.moves.new.core g.L.Link.seen g.L.Link.wrote first _ (address_of c.args.to.now) _ _ total _ c.in-Err-ClientWrite.field-0 faults.ClientWrite c.in-Err-ClientWrite.field-0-is (c.in-Err-ClientWrite.ensures.goes cfg all ahead total first first_net e h) in (
      record {
        count = k.count;
        is = k.is;
        so = over_given_up (g.C.Machine.meaning cfg) (g.C.Machine.stands cfg) g.C.Machine.seen all g.L.Link.seen g.L.Link.wrote first _ (address_of c.args.to.now) _ _ _ k.count c.fail.ensures.ran (c.fail.ensures.given_up cfg c.moves.new.core all k.so.0 k.count first true (address_of c.args.to.now) first_net k.so.1);
      },
      (k.so.1.past, k.so.1.idle.stand.stand refl),
    )

pub returns-in-Err-OutOfMemory-clause-goes : goal.returns-in-Err-OutOfMemory-clause-goes
returns-in-Err-OutOfMemory-clause-goes g c = λ cfg all ahead total first first_net e h.
    as_fault (g.C.Machine.meaning cfg) (g.C.Machine.stands cfg) g.C.Machine.seen all c.moves.new.core g.L.Link.seen g.L.Link.wrote first _ (address_of c.args.to.now) _ _ total _ c.in-Err-OutOfMemory.field-0 faults.OutOfMemory c.in-Err-OutOfMemory.field-0-is (c.in-Err-OutOfMemory.ensures.goes cfg all ahead total first first_net e h)
