use Rattle.std.proofs.Common.{ℕ, ◌<◌, ◌≤◌, length, arith, ◌∙◌}
use Rattle.std.proofs.lemmas.List.{length-take}
use Rattle.http_model.specs.declared.Ending.TheVariants.{Closed, Broke}
use Rattle.session_core.specs.History.{gains, ends, given_by, ended_by, FromServer, ServerEnded}
use Rattle.htx_drive.specs.Turned.{most_of_server}
use Rattle.htx_drive.proofs.Reading.{came_gains, came_closes, came_breaks, in_front, read_front, size-front, size-ends}
use Rattle.htx_drive.proofs.Writing.{put_still}
use Rattle.htx_drive.proofs.Last.{stand_last, last_is, more_stream}
use Rattle.htx_drive.proofs.server_side.read_server.Goals as goal

pub returns-then-given-eq0-clause-moves : goal.returns-then-given-eq0-clause-moves
returns-then-given-eq0-clause-moves g c = λ cfg first before past k s e h.
    let r = c.in-Ok.ensures.reads in
    let is = (g.met.C.Machine.wants_say cfg c.args.core.now past s).server_read before k e c.requires.wanted in
    record {
      next = ended_by Closed k;
      event = ServerEnded Closed;
      makes = tt;
      is = last_is past before k (ended_by Closed) e;
      stand = stand_last (g.C.Machine.stands cfg c.server_ended.new.self) past before k (ended_by Closed) e (c.server_ended.ensures.leads cfg past s);
      linked = record {
        there = h.there;
        unclosed = h.unclosed;
        came = came_closes _ _ _ k.stream _ _ c.if-given-eq0.true is h.came r;
        put = put_still _ _ _ _ _ _ k.taken _ c.in-Ok.ensures.wrote r.writes h.put;
        closed = r.closed ∙ h.closed;
      };
      more = more_stream k (ends k.stream Closed) (size-ends k.stream Closed is);
    }

pub returns-else-given-eq0-clause-moves : goal.returns-else-given-eq0-clause-moves
returns-else-given-eq0-clause-moves g c = λ cfg first before past k s e h.
    let r = c.in-Ok.ensures.reads in
    let is = (g.met.C.Machine.wants_say cfg c.args.core.now past s).server_read before k e c.requires.wanted in
    let some : 0 < c.in-Ok.given = omega arith in
    let within : length c.read.new.into ≤ c.args.most = omega (arith, length-take {A = ℕ}) in
    let short : length c.read.new.into ≤ most_of_server = omega (arith, length-take {A = ℕ}) in
    record {
      next = given_by _ k;
      event = FromServer _;
      makes = read_front most_of_server c.args.most c.in-Ok.given c.read.new.into _ some r.within within short;
      is = last_is past before k (given_by _) e;
      stand = stand_last (g.C.Machine.stands cfg c.from_server.new.self) past before k (given_by _) e (c.from_server.ensures.leads cfg past s);
      linked = record {
        there = h.there;
        unclosed = h.unclosed;
        came = came_gains _ _ _ k.stream c.read.new.into _ _ is (in_front _ c.read.new.into _ r.within) h.came r;
        put = put_still _ _ _ _ _ _ k.taken _ c.in-Ok.ensures.wrote r.writes h.put;
        closed = r.closed ∙ h.closed;
      };
      more = more_stream k (gains k.stream _) (size-front k.stream c.in-Ok.given c.read.new.into _ some r.within);
    }

pub returns-in-Err-clause-moves : goal.returns-in-Err-clause-moves
returns-in-Err-clause-moves g c = λ cfg first before past k s e h.
    let r = c.in-Err.ensures.reads in
    let is = (g.met.C.Machine.wants_say cfg c.args.core.now past s).server_read before k e c.requires.wanted in
    record {
      next = ended_by Broke k;
      event = ServerEnded Broke;
      makes = tt;
      is = last_is past before k (ended_by Broke) e;
      stand = stand_last (g.C.Machine.stands cfg c.server_ended-in-Err.new.self) past before k (ended_by Broke) e (c.server_ended-in-Err.ensures.leads cfg past s);
      linked = record {
        there = h.there;
        unclosed = h.unclosed;
        came = came_breaks _ _ _ k.stream is h.came r;
        put = put_still _ _ _ _ _ _ k.taken _ c.in-Err.ensures.wrote r.writes h.put;
        closed = r.closed ∙ h.closed;
      };
      more = more_stream k (ends k.stream Broke) (size-ends k.stream Broke is);
    }
