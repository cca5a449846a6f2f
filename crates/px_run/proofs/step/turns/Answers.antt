use Rattle.std.proofs.Common.{rules, subst, sym, [], ◌∷◌, ◌++◌, true, false}
use Rattle.htx_drive.specs.Driven.{paid_more, failed_by}
use Rattle.htx_drive.specs.declared.SessionFault.{SessionFault}
use Rattle.htx_drive.specs.Weave.Single.{GivesUp}
use Rattle.htx_drive.specs.declared.SessionFault.TheVariants as faults
use Rattle.px_run.specs.Course.{GoesOn, StandsSomehow}
use Rattle.px_run.proofs.Courses.{turns_on, gives_up_so, failed_stands}
use Rattle.px_run.proofs.Logs.{logs_told, moment_failed, works_by}
use Rattle.px_run.proofs.step.turns.Goals as goal

pub returns-in-Ok-clause-goes : goal.returns-in-Ok-clause-goes
returns-in-Ok-clause-goes g c = λ cfg first to first_net w.
    let v = works_by (g.C.Machine.meaning cfg) (g.C.Machine.stands cfg) g.C.Machine.seen g.L.Link.seen g.L.Link.wrote first to (g.N.Net.seen first_net) c.args.core.now c.counted-waits.new.core _ _ _ c.counted-waits.ensures.same w in
    let P : g.row.C.Denot → Type 0 = λ core. GoesOn (g.C.Machine.stands cfg) g.C.Machine.seen core g.L.Link.seen g.L.Link.wrote first c.take_turn.new.conn.client c.take_turn.new.conn.server to (g.N.Net.seen first_net) (g.N.Net.seen c.take_turn.new.conn.net) in
    let on =
    turns_on (g.C.Machine.meaning cfg) (g.C.Machine.stands cfg) g.C.Machine.seen g.L.Link.seen g.L.Link.wrote first to (g.N.Net.seen first_net) c.args.turn c.counted-waits.new.core c.take_turn.new.core _ _ _ _ _ _ (λ n. paid_more c.in-Ok.field-0 n)
    (λ all ahead count h. c.in-Ok.ensures.goes cfg all ahead count first to first_net h) v in
    subst P (sym c.counted-behind.ensures.same) on

pub returns-in-Err-ClientWrite-clause-goes : goal.returns-in-Err-ClientWrite-clause-goes
returns-in-Err-ClientWrite-clause-goes g c = λ cfg first to first_net w.
    let v = works_by (g.C.Machine.meaning cfg) (g.C.Machine.stands cfg) g.C.Machine.seen g.L.Link.seen g.L.Link.wrote first to (g.N.Net.seen first_net) c.args.core.now c.counted-waits.new.core _ _ _ c.counted-waits.ensures.same w in
    let h = v.1 (c.args.turn ∷ []) in
    let P : SessionFault → Type 0 = λ f. GivesUp (g.C.Machine.meaning cfg) (g.C.Machine.stands cfg) g.C.Machine.seen (v.0 ++ c.args.turn ∷ []) c.take_turn.new.core g.L.Link.seen g.L.Link.wrote first c.take_turn.new.conn.client to (g.N.Net.seen first_net) (g.N.Net.seen c.take_turn.new.conn.net) h.0 (failed_by f) in
    let k = subst P c.in-Err-ClientWrite.field-0-is (c.in-Err-ClientWrite.ensures.goes cfg (v.0 ++ c.args.turn ∷ []) [] h.0 first to first_net h.1) in
    let Q : g.row.C.Denot → Type 0 = λ core. StandsSomehow (g.C.Machine.stands cfg) core in
    record {
      so = gives_up_so (g.C.Machine.meaning cfg) (g.C.Machine.stands cfg) g.C.Machine.seen g.L.Link.seen g.L.Link.wrote first to (g.N.Net.seen first_net) c.take_turn.new.core c.take_turn.new.conn.client _ _ _ _ faults.ClientWrite _ h.0 c.fail.ensures.ran
          (λ all left count s. c.fail.ensures.given_up cfg c.take_turn.new.core all left count first true to first_net s) k;
      core = subst Q (sym c.tell.ensures.same) (failed_stands (g.C.Machine.meaning cfg) (g.C.Machine.stands cfg) g.C.Machine.seen g.L.Link.seen g.L.Link.wrote first to (g.N.Net.seen first_net) c.take_turn.new.core _ _ _ h.0 k);
    }

pub returns-in-Err-ClientWrite-clause-logs : goal.returns-in-Err-ClientWrite-clause-logs
returns-in-Err-ClientWrite-clause-logs g c = λ cfg first to first_net w.
    let v = works_by (g.C.Machine.meaning cfg) (g.C.Machine.stands cfg) g.C.Machine.seen g.L.Link.seen g.L.Link.wrote first to (g.N.Net.seen first_net) c.args.core.now c.counted-waits.new.core _ _ _ c.counted-waits.ensures.same w in
    let h = v.1 (c.args.turn ∷ []) in
    let P : SessionFault → Type 0 = λ f. GivesUp (g.C.Machine.meaning cfg) (g.C.Machine.stands cfg) g.C.Machine.seen (v.0 ++ c.args.turn ∷ []) c.take_turn.new.core g.L.Link.seen g.L.Link.wrote first c.take_turn.new.conn.client to (g.N.Net.seen first_net) (g.N.Net.seen c.take_turn.new.conn.net) h.0 (failed_by f) in
    let k = subst P c.in-Err-ClientWrite.field-0-is (c.in-Err-ClientWrite.ensures.goes cfg (v.0 ++ c.args.turn ∷ []) [] h.0 first to first_net h.1) in
    let sound : g.C.Machine.sound c.take_turn.new.core = search rules in
    logs_told (g.C.Machine.meaning cfg) (g.C.Machine.stands cfg) g.C.Machine.seen g.L.Link.seen g.L.Link.wrote first to (g.N.Net.seen first_net) c.take_turn.new.core c.args.tools.now.log.logs c.tell.new.log.logs c.args.tools.now.log.connection c.tell.new.log.connection c.args.tools.now.log.text.items c.tell.new.log.text.items (λ past s. g.met.C.Machine.tells cfg c.take_turn.new.core past s sound)
    (moment_failed (g.C.Machine.meaning cfg) (g.C.Machine.stands cfg) g.C.Machine.seen g.L.Link.seen g.L.Link.wrote first to (g.N.Net.seen first_net) c.take_turn.new.core c.take_turn.new.conn.client (g.N.Net.seen c.take_turn.new.conn.net) (v.0 ++ c.args.turn ∷ []) h.0 k) c.tell.ensures.logs

pub returns-in-Err-OutOfMemory-clause-goes : goal.returns-in-Err-OutOfMemory-clause-goes
returns-in-Err-OutOfMemory-clause-goes g c = λ cfg first to first_net w.
    let v = works_by (g.C.Machine.meaning cfg) (g.C.Machine.stands cfg) g.C.Machine.seen g.L.Link.seen g.L.Link.wrote first to (g.N.Net.seen first_net) c.args.core.now c.counted-waits.new.core _ _ _ c.counted-waits.ensures.same w in
    let h = v.1 (c.args.turn ∷ []) in
    let P : SessionFault → Type 0 = λ f. GivesUp (g.C.Machine.meaning cfg) (g.C.Machine.stands cfg) g.C.Machine.seen (v.0 ++ c.args.turn ∷ []) c.take_turn.new.core g.L.Link.seen g.L.Link.wrote first c.take_turn.new.conn.client to (g.N.Net.seen first_net) (g.N.Net.seen c.take_turn.new.conn.net) h.0 (failed_by f) in
    let k = subst P c.in-Err-OutOfMemory.field-0-is (c.in-Err-OutOfMemory.ensures.goes cfg (v.0 ++ c.args.turn ∷ []) [] h.0 first to first_net h.1) in
    record {
      so = gives_up_so (g.C.Machine.meaning cfg) (g.C.Machine.stands cfg) g.C.Machine.seen g.L.Link.seen g.L.Link.wrote first to (g.N.Net.seen first_net) c.take_turn.new.core c.take_turn.new.conn.client _ _ _ _ faults.OutOfMemory _ h.0 c.fail-in-Err-OutOfMemory.ensures.ran
          (λ all left count s. c.fail-in-Err-OutOfMemory.ensures.given_up cfg c.take_turn.new.core all left count first false to first_net s) k;
      core = tt;
    }
