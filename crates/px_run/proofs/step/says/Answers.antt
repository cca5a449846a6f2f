use Rattle.std.proofs.Common.{◌<◌, subst, sym, ap, true, ◌≡◌, ◌∙◌}
use Rattle.std.specs.Prelude.{is_some}
use Rattle.htx_drive.specs.declared.weave.conn.Conn.{Conn}
use Rattle.px_run.proofs.Courses.{steps_on}
use Rattle.px_run.proofs.Logs.{moment_works, logs_told, works_by}
use Rattle.px_run.proofs.step.says.Goals as goal

pub end_said-requires-clause-serving : goal.end_said-requires-clause-serving
end_said-requires-clause-serving g c = ap (λ (core : g.row.C.Denot). (g.C.Machine.seen core).serving) c.tell.ensures.same ∙ c.requires.may.serving

pub end_said-requires-clause-sound : goal.end_said-requires-clause-sound
end_said-requires-clause-sound g c = let P : g.row.C.Denot → Type 0 = λ core. g.C.Machine.sound core in subst P (sym c.tell.ensures.same) c.requires.may.is_sound

pub returns-clause-may : goal.returns-clause-may
returns-clause-may g c =
    let P : Conn g.row.L.Denot g.row.N.Denot → Type 0 = λ conn. is_some conn.server ≡ true → 0 < (g.N.Net.seen conn.net).lent in
    record {
      is_sound = c.end_said.ensures.sound;
      serving = c.end_said.ensures.serving;
      lent = subst P (sym c.end_said.ensures.conn) c.requires.may.lent;
      goes_on = ap (λ (conn : Conn g.row.L.Denot g.row.N.Denot). conn.ran) c.end_said.ensures.conn ∙ c.requires.may.goes_on;
    }

pub returns-clause-goes : goal.returns-clause-goes
returns-clause-goes g c = λ cfg first to first_net w.
    steps_on (g.C.Machine.meaning cfg) (g.C.Machine.stands cfg) g.C.Machine.seen g.L.Link.seen g.L.Link.wrote first to (g.N.Net.seen first_net) c.tell.new.core c.end_said.new.core _ _ _ _ _ _ (λ n. n) (λ all ahead count h. c.end_said.ensures.goes cfg all ahead count first to first_net h)
    (works_by (g.C.Machine.meaning cfg) (g.C.Machine.stands cfg) g.C.Machine.seen g.L.Link.seen g.L.Link.wrote first to (g.N.Net.seen first_net) c.args.core.now c.tell.new.core _ _ _ c.tell.ensures.same w)

pub returns-clause-logs : goal.returns-clause-logs
returns-clause-logs g c = λ cfg first to first_net w.
    logs_told (g.C.Machine.meaning cfg) (g.C.Machine.stands cfg) g.C.Machine.seen g.L.Link.seen g.L.Link.wrote first to (g.N.Net.seen first_net) c.args.core.now c.args.tools.now.log.logs c.tell.new.log.logs c.args.tools.now.log.connection c.tell.new.log.connection c.args.tools.now.log.text.items c.tell.new.log.text.items (λ past s. g.met.C.Machine.tells cfg c.args.core.now past s c.requires.may.is_sound) (moment_works (g.C.Machine.meaning cfg) (g.C.Machine.stands cfg) g.C.Machine.seen g.L.Link.seen g.L.Link.wrote first to (g.N.Net.seen first_net) c.args.core.now _ _ _ w) c.tell.ensures.logs
