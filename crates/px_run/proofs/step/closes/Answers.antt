use Rattle.std.proofs.Common.{subst, sym, ap, ◌∙◌}
use Rattle.px_run.proofs.Courses.{is_open, not_both, steps_on}
use Rattle.px_run.proofs.Logs.{moment_works, logs_told, works_by}
use Rattle.px_run.proofs.step.closes.Goals as goal

pub close-requires-clause-wanted : goal.close-requires-clause-wanted
close-requires-clause-wanted g c = ap (λ (core : g.row.C.Denot). (g.C.Machine.seen core).wants.server_close) c.tell.ensures.same ∙ c.requires.wanted

pub close-requires-clause-open : goal.close-requires-clause-open
close-requires-clause-open g c = is_open _ _ c.requires.may.serving (λ e. not_both _ _ c.requires.wanted ((g.met.C.Machine.wants_mean c.args.core.now).idle e).2)

pub close-requires-clause-lent : goal.close-requires-clause-lent
close-requires-clause-lent g c = c.requires.may.lent (is_open _ _ c.requires.may.serving (λ e. not_both _ _ c.requires.wanted ((g.met.C.Machine.wants_mean c.args.core.now).idle e).2))

pub close-requires-clause-sound : goal.close-requires-clause-sound
close-requires-clause-sound g c = let P : g.row.C.Denot → Type 0 = λ core. g.C.Machine.sound core in subst P (sym c.tell.ensures.same) c.requires.may.is_sound

pub returns-clause-goes : goal.returns-clause-goes
returns-clause-goes g c = λ cfg first to first_net w.
    steps_on (g.C.Machine.meaning cfg) (g.C.Machine.stands cfg) g.C.Machine.seen g.L.Link.seen g.L.Link.wrote first to (g.N.Net.seen first_net) c.tell.new.core c.close.new.core _ _ _ _ _ _ (λ n. n) (λ all ahead count h. c.close.ensures.goes cfg all ahead count first to first_net h)
    (works_by (g.C.Machine.meaning cfg) (g.C.Machine.stands cfg) g.C.Machine.seen g.L.Link.seen g.L.Link.wrote first to (g.N.Net.seen first_net) c.args.core.now c.tell.new.core _ _ _ c.tell.ensures.same w)

pub returns-clause-logs : goal.returns-clause-logs
returns-clause-logs g c = λ cfg first to first_net w.
    logs_told (g.C.Machine.meaning cfg) (g.C.Machine.stands cfg) g.C.Machine.seen g.L.Link.seen g.L.Link.wrote first to (g.N.Net.seen first_net) c.args.core.now c.args.tools.now.log.logs c.tell.new.log.logs c.args.tools.now.log.connection c.tell.new.log.connection c.args.tools.now.log.text.items c.tell.new.log.text.items (λ past s. g.met.C.Machine.tells cfg c.args.core.now past s c.requires.may.is_sound) (moment_works (g.C.Machine.meaning cfg) (g.C.Machine.stands cfg) g.C.Machine.seen g.L.Link.seen g.L.Link.wrote first to (g.N.Net.seen first_net) c.args.core.now _ _ _ w) c.tell.ensures.logs
