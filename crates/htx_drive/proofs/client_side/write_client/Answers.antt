use Rattle.std.proofs.Common.{◌<◌, ◌++◌, length, take, false, refl, sym, subst, ◌∙◌, arith}
use Rattle.session_core.specs.History.{ClientTook}
use Rattle.htx_drive.specs.Machine.{Leads}
use Rattle.htx_drive.proofs.Reading.{came_same}
use Rattle.htx_drive.proofs.Writing.{put_fails, put_more_at, longer_at, up_to_taken}
use Rattle.htx_drive.proofs.client_side.write_client.Goals as goal

pub returns-in-Ok-clause-moves : goal.returns-in-Ok-clause-moves
returns-in-Ok-clause-moves g c = λ cfg first past h.
    let w = c.in-Ok.ensures.writes in
    let t = w.2 in
    let window = (g.C.Machine.seen c.args.core.now).to_client in
    let bytes = take c.in-Ok.taken window in
    let leads = subst (λ core. Leads g.C.Machine.stands core c.client_took.new.self (ClientTook (take c.in-Ok.taken (g.C.Machine.seen core).to_client))) c.offer_client.ensures.same c.client_took.ensures.leads in
    let longer : length past.taken < length (past.taken ++ bytes) = longer_at past.taken window w.0 c.in-Ok.taken t.some t.within in
    record {
      came = past.client;
      taken = past.taken ++ bytes;
      event = ClientTook bytes;
      makes = up_to_taken c.args.most w.0 c.in-Ok.taken window t.some t.within w.1;
      is = refl;
      idle = record {
        stand = leads cfg past h.stand;
        came = came_same _ _ _ past.client h.came t.input;
        put = put_more_at _ _ _ _ _ _ past.taken window w.0 c.in-Ok.taken false refl h.came.kind h.put t;
        closed = t.input.closed ∙ h.closed;
      };
      more = omega (arith, longer);
    }

pub returns-in-Err-Failed-clause-moves : goal.returns-in-Err-Failed-clause-moves
returns-in-Err-Failed-clause-moves g c = λ cfg first past h.
    let t = (rw c.in-Err-Failed.field-0-is at c.in-Err-Failed.ensures.writes).2 in
    record {
      stand = subst (λ core. g.C.Machine.stands cfg core past) (sym c.offer_client.ensures.same) h.stand;
      came = came_same _ _ _ past.client h.came t.input;
      put = put_fails _ _ _ _ _ _ past.taken h.came.kind h.put t;
      closed = t.input.closed ∙ h.closed;
    }
