use Rattle.std.proofs.Common.{◌++◌, take, sym, subst, ◌∙◌}
use Rattle.std.proofs.lemmas.Bool.{false≢true}
use Rattle.std.specs.Prelude.{Err}
use Rattle.px_link.specs.declared.fault.Fault.{Fault}
use Rattle.px_link.specs.Link.{Writes, WriteFailed, NoRoom}
use Rattle.fcgi_link.proofs.Asking.{sends_more, sends_kept, unread_both, unread_by}
use Rattle.fcgi_link.proofs.asks.send.Goals as goal

pub records-preserved : goal.records-preserved
records-preserved g c =
    let wrote = g.L.Link.wrote in
    let left = c.records.translator.left in
    let took = c.in-Ok.ensures.writes in
    record {
      application = c.drop_front.ensures.application ∙ c.records.invariant.application;
      sends = sends_more c.args.translator.now c.records.translator c.drop_front.new.self (wrote c.args.inner.now) (wrote c.records.inner) (wrote c.write.new.self) (take c.in-Ok.count left) c.records.invariant.sends
          (λ given text s. c.drop_front.ensures.given given text s) (λ bytes h. subst (λ l. wrote c.write.new.self (bytes ++ take c.in-Ok.count l)) c.ready-in-records.ensures (took.wrote bytes h));
      nothing = λ e. absurd (false≢true (sym e));
      unread = unread_both _ _ _ c.records.invariant.unread (unread_by _ _ took.input);
    }

pub returns-in-Err-Failed-clause-sends : goal.returns-in-Err-Failed-clause-sends
returns-in-Err-Failed-clause-sends g c =
    let wrote = g.L.Link.wrote in
    let seen = g.L.Link.seen in
    let old = c.records.inner in
    let new = c.write.new.self in
    let done : WriteFailed (wrote old) (wrote new) (seen old) (seen new) =
    subst (λ (fault : Fault). Writes (wrote old) (wrote new) (seen old) (seen new) c.ready-in-records.result.now (Err fault)) c.in-Err-Failed.field-0-is c.in-Err-Failed.ensures.writes in
    sends_kept c.args.translator.now c.records.translator (wrote c.args.inner.now) (wrote c.records.inner) (wrote c.write.new.self) c.records.invariant.sends done.wrote

pub returns-in-Err-OutOfMemory-clause-sends : goal.returns-in-Err-OutOfMemory-clause-sends
returns-in-Err-OutOfMemory-clause-sends g c =
    let wrote = g.L.Link.wrote in
    let seen = g.L.Link.seen in
    let old = c.records.inner in
    let new = c.write.new.self in
    let done : NoRoom (wrote old) (wrote new) (seen old) (seen new) =
    subst (λ (fault : Fault). Writes (wrote old) (wrote new) (seen old) (seen new) c.ready-in-records.result.now (Err fault)) c.in-Err-OutOfMemory.field-0-is c.in-Err-OutOfMemory.ensures.writes in
    sends_kept c.args.translator.now c.records.translator (wrote c.args.inner.now) (wrote c.records.inner) (wrote c.write.new.self) c.records.invariant.sends done.wrote
