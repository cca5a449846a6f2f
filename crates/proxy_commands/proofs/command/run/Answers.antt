use Rattle.std.proofs.Common.{ℕ, List, ◌≡◌, map, inl, inr, refl, subst}
use Rattle.std.specs.Prelude.{Option, Result, string_bytes}
use Rattle.http_rules.specs.declared.config.Config.{Config}
use Rattle.px_command.specs.declared.options.RunOptions.{RunOptions}
use Rattle.px_run.specs.declared.plan.RunFault.{RunFault}
use Rattle.serve_run.specs.declared.outcome.ServeFault.{ServeFault}
use Rattle.proxy_commands.specs.Ends.{put}
use Rattle.proxy_sessions.specs.Running.{Runs}
use Rattle.proxy_sessions.specs.Serving.{Serves}
use Rattle.px_command.specs.Asked.{IsAsked}
use Rattle.px_command.specs.Command.{IsCheck, IsCheckAll, IsCheckPrint, IsCheckRecord, IsReplay, IsExplain, IsExplainBlocks, IsWeave, IsServe, IsRun, IsDrill, IsHelp, IsHelpOf, IsVersion}
use Rattle.proxy_commands.specs.Files.{Builder, told_by}
use Rattle.proxy_commands.specs.Stops.{Input, given}
use Rattle.proxy_commands.proofs.Writing.{any_of_run}
use Rattle.proxy_commands.proofs.command.run.Goals as goal

pub returns-in-Check : goal.returns-in-Check
returns-in-Check g c =
    let words : List (List ℕ) = map string_bytes c.args.words.now in
    let is : IsCheck words c.in-Check.cfg.now = subst (IsAsked words) c.in-Check.is c.in_ok-cfg.ensures in
    let builder : Builder = told_by (g.P.Patterns.refusals c.args.pats.now) (g.P.Patterns.refusals c.check.new.pats) (g.P.Patterns.last_refused c.check.new.pats) in
    let input : Input = given words (g.F.Files.files c.args.files.now) builder (g.F.Files.last_failed c.check.new.files) (g.F.Files.faults c.args.files.now) (g.F.Files.faults c.check.new.files) in
    inl (inl (c.write.ensures input (c.check.ensures words is), refl), refl)

pub returns-in-CheckAll : goal.returns-in-CheckAll
returns-in-CheckAll g c =
    let words : List (List ℕ) = map string_bytes c.args.words.now in
    let is : IsCheckAll words c.in-CheckAll.cfg.now = subst (IsAsked words) c.in-CheckAll.is c.in_ok-cfg.ensures in
    let builder : Builder = told_by (g.P.Patterns.refusals c.args.pats.now) (g.P.Patterns.refusals c.check_all.new.pats) (g.P.Patterns.last_refused c.check_all.new.pats) in
    let input : Input = given words (g.F.Files.files c.args.files.now) builder (g.F.Files.last_failed c.check_all.new.files) (g.F.Files.faults c.args.files.now) (g.F.Files.faults c.check_all.new.files) in
    inl (inl (c.write-in-CheckAll.ensures input (c.check_all.ensures words is), refl), refl)

pub returns-in-CheckPrint : goal.returns-in-CheckPrint
returns-in-CheckPrint g c =
    let words : List (List ℕ) = map string_bytes c.args.words.now in
    let is : IsCheckPrint words c.in-CheckPrint.cfg.now = subst (IsAsked words) c.in-CheckPrint.is c.in_ok-cfg.ensures in
    let builder : Builder = told_by (g.P.Patterns.refusals c.args.pats.now) (g.P.Patterns.refusals c.check_print.new.pats) (g.P.Patterns.last_refused c.check_print.new.pats) in
    let input : Input = given words (g.F.Files.files c.args.files.now) builder (g.F.Files.last_failed c.check_print.new.files) (g.F.Files.faults c.args.files.now) (g.F.Files.faults c.check_print.new.files) in
    inl (inl (c.write-in-CheckPrint.ensures input (c.check_print.ensures words is), refl), refl)

pub returns-in-CheckRecord : goal.returns-in-CheckRecord
returns-in-CheckRecord g c =
    let words : List (List ℕ) = map string_bytes c.args.words.now in
    let is : IsCheckRecord words c.in-CheckRecord.rec.now = subst (IsAsked words) c.in-CheckRecord.is c.in_ok-cfg.ensures in
    let builder : Builder = told_by (g.P.Patterns.refusals c.args.pats.now) (g.P.Patterns.refusals c.args.pats.now) (g.P.Patterns.last_refused c.args.pats.now) in
    let input : Input = given words (g.F.Files.files c.args.files.now) builder (g.F.Files.last_failed c.check_record.new.files) (g.F.Files.faults c.args.files.now) (g.F.Files.faults c.check_record.new.files) in
    inl (inl (c.write-in-CheckRecord.ensures input (c.check_record.ensures words builder is refl), refl), refl)

pub returns-in-Replay : goal.returns-in-Replay
returns-in-Replay g c =
    let words : List (List ℕ) = map string_bytes c.args.words.now in
    let is : IsReplay words c.in-Replay.cfg.now c.in-Replay.rec.now = subst (IsAsked words) c.in-Replay.is c.in_ok-cfg.ensures in
    let builder : Builder = told_by (g.P.Patterns.refusals c.args.pats.now) (g.P.Patterns.refusals c.replay.new.pats) (g.P.Patterns.last_refused c.replay.new.pats) in
    let input : Input = given words (g.F.Files.files c.args.files.now) builder (g.F.Files.last_failed c.replay.new.files) (g.F.Files.faults c.args.files.now) (g.F.Files.faults c.replay.new.files) in
    inl (inl (c.write-in-Replay.ensures input (c.replay.ensures words is), refl), refl)

pub returns-in-Explain : goal.returns-in-Explain
returns-in-Explain g c =
    let words : List (List ℕ) = map string_bytes c.args.words.now in
    let is : IsExplain words c.in-Explain.cfg.now c.in-Explain.rec.now = subst (IsAsked words) c.in-Explain.is c.in_ok-cfg.ensures in
    let builder : Builder = told_by (g.P.Patterns.refusals c.args.pats.now) (g.P.Patterns.refusals c.explain.new.pats) (g.P.Patterns.last_refused c.explain.new.pats) in
    let input : Input = given words (g.F.Files.files c.args.files.now) builder (g.F.Files.last_failed c.explain.new.files) (g.F.Files.faults c.args.files.now) (g.F.Files.faults c.explain.new.files) in
    inl (inl (c.write-in-Explain.ensures input (c.explain.ensures words is), refl), refl)

pub returns-in-ExplainBlocks : goal.returns-in-ExplainBlocks
returns-in-ExplainBlocks g c =
    let words : List (List ℕ) = map string_bytes c.args.words.now in
    let is : IsExplainBlocks words c.in-ExplainBlocks.cfg.now c.in-ExplainBlocks.rec.now = subst (IsAsked words) c.in-ExplainBlocks.is c.in_ok-cfg.ensures in
    let builder : Builder = told_by (g.P.Patterns.refusals c.args.pats.now) (g.P.Patterns.refusals c.explain_blocks.new.pats) (g.P.Patterns.last_refused c.explain_blocks.new.pats) in
    let input : Input = given words (g.F.Files.files c.args.files.now) builder (g.F.Files.last_failed c.explain_blocks.new.files) (g.F.Files.faults c.args.files.now) (g.F.Files.faults c.explain_blocks.new.files) in
    inl (inl (c.write-in-ExplainBlocks.ensures input (c.explain_blocks.ensures words is), refl), refl)

pub returns-in-Weave : goal.returns-in-Weave
returns-in-Weave g c =
    let words : List (List ℕ) = map string_bytes c.args.words.now in
    let is : IsWeave words c.in-Weave.cfg.now c.in-Weave.rec.now c.in-Weave.cores = subst (IsAsked words) c.in-Weave.is c.in_ok-cfg.ensures in
    let builder : Builder = told_by (g.P.Patterns.refusals c.args.pats.now) (g.P.Patterns.refusals c.weave.new.pats) (g.P.Patterns.last_refused c.weave.new.pats) in
    let input : Input = given words (g.F.Files.files c.args.files.now) builder (g.F.Files.last_failed c.weave.new.files) (g.F.Files.faults c.args.files.now) (g.F.Files.faults c.weave.new.files) in
    inl (inl (c.write-in-Weave.ensures input (c.weave.ensures words is), refl), refl)

pub returns-in-Serve : goal.returns-in-Serve
returns-in-Serve g c =
    let words : List (List ℕ) = map string_bytes c.args.words.now in
    let is : IsServe words c.in-Serve.cfg.now c.in-Serve.connections = subst (IsAsked words) c.in-Serve.is c.in_ok-cfg.ensures in
    inl (c.serve.ensures words is, refl)

pub returns-in-Run : goal.returns-in-Run
returns-in-Run g c =
    let words : List (List ℕ) = map string_bytes c.args.words.now in
    let is : IsRun words c.in-Run.cfg.now c.in-Run.options = subst (IsAsked words) c.in-Run.is c.in_ok-cfg.ensures in
    let builder : Builder = told_by (g.P.Patterns.refusals c.args.pats.now) (g.P.Patterns.refusals c.run_many.new.pats) (g.P.Patterns.last_refused c.run_many.new.pats) in
    let input : Input = given words (g.F.Files.files c.args.files.now) builder (g.F.Files.last_failed c.run_many.new.files) (g.F.Files.faults c.args.files.now) (g.F.Files.faults c.run_many.new.files) in
    let before : ℕ = g.K.Sink.faults c.args.out.now in
    let now : ℕ = g.K.Sink.faults c.run_many.new.out in
    let old : Option (List ℕ) = g.K.Sink.written c.args.out.now in
    let new : Option (List ℕ) = g.K.Sink.written c.run_many.new.out in
    let Does : Config → ℕ → Result (Unit {0}) ServeFault → Type 0 = Serves g.H.Link.seen g.H.Link.wrote g.H.HasPair.tells g.N.Net.seen c.args.nets.now.serve c.args.nets.now.serve before now old new in
    let Ran : Config → RunOptions → Result (Unit {0}) RunFault → Type 0 = Runs g.L.Link.seen g.L.Link.wrote g.L.HasPair.tells g.M.Net.seen (g.S.Nets.accepts_none c.run_many.new.many.nets) c.args.nets.now.run.net c.run_many.new.many.net before now old new in
    any_of_run input (put before now old new) (c.args.nets.now.serve ≡ c.args.nets.now.serve) (c.run_many.new.many ≡ c.args.nets.now.run) Does Ran c.run_many.result refl (c.run_many.ensures words is)

pub returns-in-Drill : goal.returns-in-Drill
returns-in-Drill g c =
    let words : List (List ℕ) = map string_bytes c.args.words.now in
    let is : IsDrill words c.in-Drill.seed c.in-Drill.exchanges = subst (IsAsked words) c.in-Drill.is c.in_ok-cfg.ensures in
    let builder : Builder = told_by (g.P.Patterns.refusals c.args.pats.now) (g.P.Patterns.refusals c.drill.new.pats) (g.P.Patterns.last_refused c.drill.new.pats) in
    let input : Input = given words (g.F.Files.files c.args.files.now) builder (g.F.Files.last_failed c.args.files.now) (g.F.Files.faults c.args.files.now) (g.F.Files.faults c.args.files.now) in
    inl (inl (c.write-in-Drill.ensures input (c.drill.ensures words input.files input.last input.reads input.reads_now is), refl), refl)

pub returns-in_ok-help_text-in-Help : goal.returns-in_ok-help_text-in-Help
returns-in_ok-help_text-in-Help g c =
    let words : List (List ℕ) = map string_bytes c.args.words.now in
    let is : IsHelp words = subst (IsAsked words) c.in-Help.is c.in_ok-cfg.ensures in
    let builder : Builder = told_by (g.P.Patterns.refusals c.args.pats.now) (g.P.Patterns.refusals c.args.pats.now) (g.P.Patterns.last_refused c.args.pats.now) in
    let input : Input = given words (g.F.Files.files c.args.files.now) builder (g.F.Files.last_failed c.args.files.now) (g.F.Files.faults c.args.files.now) (g.F.Files.faults c.args.files.now) in
    inl (inl (c.write-in-Help.ensures input (inr (inr (inr (inr (inr (inr (inl (inl is, c.in_ok-help_text-in-Help.ensures))))))), refl), refl), refl)

pub returns-in_ok-help_of_text-in-HelpOf : goal.returns-in_ok-help_of_text-in-HelpOf
returns-in_ok-help_of_text-in-HelpOf g c =
    let words : List (List ℕ) = map string_bytes c.args.words.now in
    let is : IsHelpOf words c.in-HelpOf.command = subst (IsAsked words) c.in-HelpOf.is c.in_ok-cfg.ensures in
    let builder : Builder = told_by (g.P.Patterns.refusals c.args.pats.now) (g.P.Patterns.refusals c.args.pats.now) (g.P.Patterns.last_refused c.args.pats.now) in
    let input : Input = given words (g.F.Files.files c.args.files.now) builder (g.F.Files.last_failed c.args.files.now) (g.F.Files.faults c.args.files.now) (g.F.Files.faults c.args.files.now) in
    inl (inl (c.write-in-HelpOf.ensures input (inr (inr (inr (inr (inr (inr (inl (inr (inl (c.in-HelpOf.command, is)), c.in_ok-help_of_text-in-HelpOf.ensures))))))), refl), refl), refl)

pub returns-in_ok-version_text-in-Version : goal.returns-in_ok-version_text-in-Version
returns-in_ok-version_text-in-Version g c =
    let words : List (List ℕ) = map string_bytes c.args.words.now in
    let is : IsVersion words = subst (IsAsked words) c.in-Version.is c.in_ok-cfg.ensures in
    let builder : Builder = told_by (g.P.Patterns.refusals c.args.pats.now) (g.P.Patterns.refusals c.args.pats.now) (g.P.Patterns.last_refused c.args.pats.now) in
    let input : Input = given words (g.F.Files.files c.args.files.now) builder (g.F.Files.last_failed c.args.files.now) (g.F.Files.faults c.args.files.now) (g.F.Files.faults c.args.files.now) in
    inl (inl (c.write-in-Version.ensures input (inr (inr (inr (inr (inr (inr (inl (inr (inr is), c.in_ok-version_text-in-Version.ensures))))))), refl), refl), refl)
