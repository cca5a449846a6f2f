use Rattle.std.proofs.Common.{◌≡◌, ◌++◌, ◌∷◌, [], Some, false, true, refl, ap, arith, sym}
use Rattle.session_core.specs.History.{connected, closing_by, close_by, ServerClosed}
use Rattle.htx_drive.specs.Dialled.{closed_how}
use Rattle.htx_drive.specs.Turned.{StandsIn, takes_none}
use Rattle.http_model.specs.declared.Close.TheVariants.{Failed}
use Rattle.htx_drive.proofs.Last.{stand_last}
use Rattle.htx_drive.proofs.Resting.{over_more}
use Rattle.htx_drive.proofs.Turning.{opens_in}
use Rattle.htx_drive.proofs.Dialling.{linked_fresh, returned, moved_opened, moved_closed}
use Rattle.htx_drive.proofs.exchange.with_link.Goals as goal

pub returns-in-Ok-clause-goes : goal.returns-in-Ok-clause-goes
returns-in-Ok-clause-goes g c = λ cfg all budget first past h.
    let done = c.in-Ok.ensures.goes cfg all budget first c.args.lent past.connects (record past { connects = past.connects ++ connected true ∷ [] }) (connected true) (record {
      idle = record { stand = opens_in (g.C.Machine.stands cfg) g.C.Machine.seen all _ budget _ _ _ c.server_opened.new.self past true (c.server_opened.ensures.leads cfg past h.stand.stand.stand) (omega arith) h.stand.stand; came = h.came; put = h.put; closed = h.closed };
      connects = refl;
      linked = linked_fresh g.L.Link.seen g.L.Link.wrote c.args.lent;
    }) in
    let hand = done.hand in
    let how : c.in-Ok.how ≡ close_by done.now.note = (g.met.C.Machine.wants_say cfg c.serve.new.core done.now hand.idle.stand.stand).server_close c.in-Ok.how c.in-Ok.ensures.how in
    let opened = moved_opened past true in
    let shut = moved_closed past.connects done.now done.c (close_by done.now.note) hand.connects hand.linked.unclosed in
    let more = done.more in
    record {
      behind = record done.now { connects = past.connects ++ closing_by done.now.note done.c ∷ [] };
      c = closing_by done.now.note done.c;
      idle = record {
        stand = record {
          stand = stand_last (StandsIn (g.C.Machine.stands cfg) g.C.Machine.seen all (g.T.Turns.left c.serve.new.turns) budget c.serve.new.resources.left c.server_closed.new.self) done.now past.connects done.c (closing_by done.now.note) hand.connects
              (record { stand = c.server_closed.ensures.leads cfg done.now hand.idle.stand.stand; worked = false; turned = takes_none true _ done.now ServerClosed refl hand.idle.stand.turned; paid = hand.idle.stand.paid });
          over = over_more past.connects (closing_by done.now.note done.c) h.stand.over (λ there. refl);
        };
        came = hand.idle.came;
        put = hand.idle.put;
        closed = hand.idle.closed;
      };
      connects = refl;
      there = hand.linked.there;
      returned = returned g.L.Link.seen g.L.Link.wrote c.args.lent _ _ _ _ done.c c.in-Ok.how (Some (close_by done.now.note)) hand.linked c.close.ensures.seen c.close.ensures.wrote c.keep.ensures.keeps (sym how);
      more = omega arith;
    }

pub returns-in-Err-clause-goes : goal.returns-in-Err-clause-goes
returns-in-Err-clause-goes g c = λ cfg all budget first past h.
    let done = c.in-Err.ensures.goes cfg all budget first c.args.lent past.connects (record past { connects = past.connects ++ connected true ∷ [] }) (connected true) (record {
      idle = record { stand = opens_in (g.C.Machine.stands cfg) g.C.Machine.seen all _ budget _ _ _ c.server_opened.new.self past true (c.server_opened.ensures.leads cfg past h.stand.stand.stand) (omega arith) h.stand.stand; came = h.came; put = h.put; closed = h.closed };
      connects = refl;
      linked = linked_fresh g.L.Link.seen g.L.Link.wrote c.args.lent;
    }) in
    let opened = moved_opened past true in
    let more = done.more in
    record {
      behind = done.now;
      c = done.c;
      idle = done.hand.idle;
      connects = done.hand.connects;
      there = done.hand.linked.there;
      returned = returned g.L.Link.seen g.L.Link.wrote c.args.lent _ _ _ _ done.c Failed done.c.closed done.hand.linked c.close-in-Err.ensures.seen c.close-in-Err.ensures.wrote c.keep-in-Err.ensures.keeps (ap closed_how done.hand.linked.unclosed);
      more = omega arith;
    }
