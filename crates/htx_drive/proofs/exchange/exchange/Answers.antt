use Rattle.std.proofs.Common.{◌++◌, ◌∷◌, [], false, true, arith}
use Rattle.session_core.specs.History.{connected}
use Rattle.px_link.specs.Net.{address_of}
use Rattle.std.proofs.lemmas.Bool.{false≢true}
use Rattle.htx_drive.proofs.Resting.{over_more}
use Rattle.htx_drive.proofs.Dialling.{ends_as, served_goes, dials_refused, dials_memory, moved_opened}
use Rattle.htx_drive.specs.Turned.{none_failed}
use Rattle.htx_drive.proofs.Turning.{opens_in}
use Rattle.htx_drive.proofs.exchange.exchange.Goals as goal

pub returns-in-Ok-clause-goes : goal.returns-in-Ok-clause-goes
returns-in-Ok-clause-goes g c = λ cfg all budget first first_net past h d.
    ends_as c.with_link.result _ _ _ _
    (λ x s. served_goes _ g.L.Link.seen g.L.Link.wrote first _ false c.in-Ok.link (address_of c.args.to.now) _ _ _ _ past _ _ d c.in-Ok.ensures.connects s)
    (λ b s. served_goes _ g.L.Link.seen g.L.Link.wrote first _ b c.in-Ok.link (address_of c.args.to.now) _ _ _ _ past _ _ d c.in-Ok.ensures.connects s)
    (c.with_link.ensures.goes cfg all budget first past h)

pub returns-in-Err-Failed-clause-goes : goal.returns-in-Err-Failed-clause-goes
returns-in-Err-Failed-clause-goes g c = λ cfg all budget first first_net past h d.
    let r = rw c.in-Err-Failed.field-0-is at c.in-Err-Failed.ensures.connects in
    let opened = moved_opened past false in
    record {
      now = record past { connects = past.connects ++ connected false ∷ [] };
      idle = record { stand = record { stand = opens_in (g.C.Machine.stands cfg) g.C.Machine.seen all _ budget _ _ _ c.server_opened.new.self past false (c.server_opened.ensures.leads cfg past h.stand.stand.stand) (omega arith) h.stand.stand; over = over_more past.connects (connected false) h.stand.over (λ there. absurd (false≢true there)) }; came = h.came; put = h.put; closed = h.closed };
      dials = dials_refused (address_of c.args.to.now) _ _ _ past.connects d r;
      more = omega arith;
    }

pub returns-in-Err-OutOfMemory-clause-goes : goal.returns-in-Err-OutOfMemory-clause-goes
returns-in-Err-OutOfMemory-clause-goes g c = λ cfg all budget first first_net past h d.
    let r = rw c.in-Err-OutOfMemory.field-0-is at c.in-Err-OutOfMemory.ensures.connects in
    record {
      now = past;
      idle = record { stand = record { front = ((g.C.Machine.seen c.args.core.now).begun, g.met.C.Machine.taken_is_a_front cfg c.args.core.now past h.stand.stand.stand); stand = λ e. h.stand.stand.stand; turned = none_failed true h.stand.stand.turned; paid = h.stand.stand.paid }; came = h.came; put = h.put; closed = h.closed };
      dials = dials_memory (address_of c.args.to.now) _ _ _ past.connects d r;
      more = omega arith;
    }
