use Rattle.std.proofs.Common.{take, ◌∙◌, sym, subst}
use Rattle.session_core.specs.History.{taking, stopping, ServerTook, ServerStopped}
use Rattle.htx_drive.specs.Machine.{Leads}
use Rattle.htx_drive.proofs.Reading.{came_same}
use Rattle.htx_drive.proofs.Writing.{put_more_at, put_fails_at, longer_at, up_to_taken}
use Rattle.htx_drive.proofs.Last.{stand_last, last_is, more_taken, more_stopped}
use Rattle.htx_drive.proofs.server_side.write_server.Goals as goal

pub returns-in-Ok-clause-moves : goal.returns-in-Ok-clause-moves
returns-in-Ok-clause-moves g c = λ cfg first before past k s e h.
    let w = c.in-Ok.ensures.writes in
    let t = w.2 in
    let is = (g.met.C.Machine.wants_say cfg c.args.core.now past s).server_write before k e c.requires.wanted in
    let window = g.C.Machine.seen c.args.core.now in
    let bytes = take c.in-Ok.taken window.to_server in
    let leads = subst (λ core. Leads g.C.Machine.stands core c.server_took.new.self (ServerTook (take c.in-Ok.taken (g.C.Machine.seen core).to_server))) c.offer_server.ensures.same c.server_took.ensures.leads in
    record {
      next = taking bytes k;
      event = ServerTook bytes;
      makes = up_to_taken c.args.most w.0 c.in-Ok.taken window.to_server t.some t.within w.1;
      is = last_is past before k (taking bytes) e;
      stand = stand_last (g.C.Machine.stands cfg c.server_took.new.self) past before k (taking bytes) e (leads cfg past s);
      linked = record {
        there = h.there;
        unclosed = h.unclosed;
        came = came_same _ _ _ k.stream h.came t.input;
        put = put_more_at _ _ _ _ _ _ k.taken window.to_server w.0 c.in-Ok.taken k.stopped is h.came.kind h.put t;
        closed = t.input.closed ∙ h.closed;
      };
      more = more_taken k _ (longer_at k.taken window.to_server w.0 c.in-Ok.taken t.some t.within);
    }

pub returns-in-Err-Failed-clause-moves : goal.returns-in-Err-Failed-clause-moves
returns-in-Err-Failed-clause-moves g c = λ cfg first before past k s e h.
    let t = (rw c.in-Err-Failed.field-0-is at c.in-Err-Failed.ensures.writes).2 in
    let is = (g.met.C.Machine.wants_say cfg c.args.core.now past s).server_write before k e c.requires.wanted in
    record {
      next = stopping k;
      event = ServerStopped;
      makes = tt;
      is = last_is past before k stopping e;
      stand = stand_last (g.C.Machine.stands cfg c.server_stopped.new.self) past before k stopping e (c.server_stopped.ensures.leads cfg past (subst (λ core. g.C.Machine.stands cfg core past) (sym c.offer_server.ensures.same) s));
      linked = record {
        there = h.there;
        unclosed = h.unclosed;
        came = came_same _ _ _ k.stream h.came t.input;
        put = put_fails_at _ _ _ _ _ _ k.taken k.stopped is h.came.kind h.put t;
        closed = t.input.closed ∙ h.closed;
      };
      more = more_stopped k is;
    }
