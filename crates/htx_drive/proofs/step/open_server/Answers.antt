use Rattle.std.proofs.Common.{true, false}
use Rattle.px_link.specs.Net.{address_of}
use Rattle.htx_drive.proofs.Steps.{opened_in, unroomed_so, opens, refused, unroomed}
use Rattle.htx_drive.proofs.step.open_server.Goals as goal

pub returns-in-Ok-clause-goes : goal.returns-in-Ok-clause-goes
returns-in-Ok-clause-goes g c = λ cfg all ahead budget first client first_net past h most.
    opens _ _ g.L.Link.seen g.L.Link.wrote first client (address_of c.args.to.now) _ _ _ past budget h most c.in-Ok.link c.in-Ok.ensures.connects
    (λ s. opened_in (g.C.Machine.stands cfg) g.C.Machine.seen all ahead budget _ c.server_opened.new.self past true (c.server_opened.ensures.leads cfg past s.stand) s)

pub returns-in-Err-Failed-clause-goes : goal.returns-in-Err-Failed-clause-goes
returns-in-Err-Failed-clause-goes g c = λ cfg all ahead budget first client first_net past h most.
    let r = rw c.in-Err-Failed.field-0-is at c.in-Err-Failed.ensures.connects in
    refused _ _ g.L.Link.seen g.L.Link.wrote first client (address_of c.args.to.now) _ _ _ past budget h most r
    (λ s. opened_in (g.C.Machine.stands cfg) g.C.Machine.seen all ahead budget _ c.server_opened-in-Err-Failed.new.self past false (c.server_opened-in-Err-Failed.ensures.leads cfg past s.stand) s)

pub returns-in-Err-OutOfMemory-clause-goes : goal.returns-in-Err-OutOfMemory-clause-goes
returns-in-Err-OutOfMemory-clause-goes g c = λ cfg all ahead budget first client first_net past h most.
    let r = rw c.in-Err-OutOfMemory.field-0-is at c.in-Err-OutOfMemory.ensures.connects in
    unroomed _ _ g.L.Link.seen g.L.Link.wrote first client (address_of c.args.to.now) _ _ _ past budget h most r
    (unroomed_so (g.C.Machine.meaning cfg) (g.C.Machine.stands cfg) g.C.Machine.seen all ahead budget c.args.core.now (λ p s. (_, g.met.C.Machine.taken_is_a_front cfg c.args.core.now p s)) past)
