use Rattle.std.proofs.Common.{ℕ, ◌<◌, ◌≤◌, length, refl, arith, ◌∙◌}
use Rattle.std.proofs.lemmas.List.{length-take}
use Rattle.http_model.specs.declared.Ending.TheVariants.{Closed, Broke}
use Rattle.session_core.specs.History.{gains, ends, FromClient, ClientEnded}
use Rattle.htx_drive.specs.Turned.{most_of_client}
use Rattle.htx_drive.proofs.Reading.{came_gains, came_closes, came_breaks, in_front, read_front, size-front, size-ends, more_left}
use Rattle.htx_drive.proofs.Writing.{put_still}
use Rattle.htx_drive.proofs.client_side.read_client.Goals as goal

pub returns-then-given-eq0-clause-moves : goal.returns-then-given-eq0-clause-moves
returns-then-given-eq0-clause-moves g c = λ cfg first past h.
    let r = c.in-Ok.ensures.reads in
    let is = (g.met.C.Machine.wants_say cfg c.args.core.now past h.stand).client_read c.requires.wanted in
    let size = size-ends past.client Closed is in
    record {
      came = ends past.client Closed;
      taken = past.taken;
      event = ClientEnded Closed;
      makes = tt;
      is = refl;
      idle = record {
        stand = c.client_ended.ensures.leads cfg past h.stand;
        came = came_closes _ _ _ past.client _ _ c.if-given-eq0.true is h.came r;
        put = put_still _ _ _ _ _ _ past.taken _ c.in-Ok.ensures.wrote r.writes h.put;
        closed = r.closed ∙ h.closed;
      };
      more = omega arith;
    }

pub returns-else-given-eq0-clause-moves : goal.returns-else-given-eq0-clause-moves
returns-else-given-eq0-clause-moves g c = λ cfg first past h.
    let r = c.in-Ok.ensures.reads in
    let is = (g.met.C.Machine.wants_say cfg c.args.core.now past h.stand).client_read c.requires.wanted in
    let some : 0 < c.in-Ok.given = omega arith in
    let within : length c.read.new.into ≤ c.args.most = omega (arith, length-take {A = ℕ}) in
    let short : length c.read.new.into ≤ most_of_client = omega (arith, length-take {A = ℕ}) in
    record {
      came = gains past.client _;
      taken = past.taken;
      event = FromClient _;
      makes = read_front most_of_client c.args.most c.in-Ok.given c.read.new.into _ some r.within within short;
      is = refl;
      idle = record {
        stand = c.from_client.ensures.leads cfg past h.stand;
        came = came_gains _ _ _ past.client c.read.new.into _ _ is (in_front _ c.read.new.into _ r.within) h.came r;
        put = put_still _ _ _ _ _ _ past.taken _ c.in-Ok.ensures.wrote r.writes h.put;
        closed = r.closed ∙ h.closed;
      };
      more = more_left _ _ (length past.taken) (size-front past.client c.in-Ok.given c.read.new.into _ some r.within);
    }

pub returns-in-Err-clause-moves : goal.returns-in-Err-clause-moves
returns-in-Err-clause-moves g c = λ cfg first past h.
    let r = c.in-Err.ensures.reads in
    let is = (g.met.C.Machine.wants_say cfg c.args.core.now past h.stand).client_read c.requires.wanted in
    let size = size-ends past.client Broke is in
    record {
      came = ends past.client Broke;
      taken = past.taken;
      event = ClientEnded Broke;
      makes = tt;
      is = refl;
      idle = record {
        stand = c.client_ended-in-Err.ensures.leads cfg past h.stand;
        came = came_breaks _ _ _ past.client is h.came r;
        put = put_still _ _ _ _ _ _ past.taken _ c.in-Err.ensures.wrote r.writes h.put;
        closed = r.closed ∙ h.closed;
      };
      more = omega arith;
    }
