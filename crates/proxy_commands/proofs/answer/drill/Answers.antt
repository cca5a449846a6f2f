use Rattle.std.proofs.Common.{ℕ, List, inl, inr, subst}
use Rattle.std.specs.Prelude.{Ok, Err}
use Rattle.px_pattern.specs.Refusals.{Kept}
use Rattle.htx_drive.specs.Drill.Drill.{configuration}
use Rattle.cfg_parse.specs.Whole.{Loads}
use Rattle.cfg_parse.specs.declared.fault.CfgFault.{CfgFault}
use Rattle.proxy_commands.specs.Files.{told_by}
use Rattle.proxy_commands.specs.Stops.{Input, given, stop_of_configuration}
use Rattle.proxy_commands.proofs.Causes.{answers_err}
use Rattle.proxy_commands.proofs.Drill.{drill_stops}
use Rattle.proxy_commands.proofs.Told.{accepted_text, built_text}
use Rattle.proxy_commands.proofs.answer.drill.Goals as goal

pub returns-in_err-cfg : goal.returns-in_err-cfg
returns-in_err-cfg g c =
    let before : ℕ = g.P.Patterns.refusals c.args.pats.now in
    let now : ℕ = g.P.Patterns.refusals c.load.new.pats in
    let kept : Kept = g.P.Patterns.last_refused c.load.new.pats in
    let fault : CfgFault = c.in_err-cfg.field-0.0 in
    let loads : Loads configuration before now kept (Err fault) = subst (λ (t : List ℕ). Loads t before now kept (Err fault)) c.configuration.ensures c.in_err-cfg.ensures.loads in
    λ words files last reads reads_now drill.
    let input : Input = given words files (told_by before now kept) last reads reads_now in
    answers_err input c.from_residual.result (stop_of_configuration fault) c.from_residual.ensures.1 (drill_stops input before now kept fault loads)

pub returns : goal.returns
returns g c =
    let before : ℕ = g.P.Patterns.refusals c.args.pats.now in
    let now : ℕ = g.P.Patterns.refusals c.load.new.pats in
    let kept : Kept = g.P.Patterns.last_refused c.load.new.pats in
    let loads : Loads configuration before now kept (Ok c.in_ok-cfg.cfg) =
    subst (λ (t : List ℕ). Loads t before now kept (Ok c.in_ok-cfg.cfg)) c.configuration.ensures c.in_ok-cfg.ensures.loads in
    λ words files last reads reads_now drill. (
      inr (inr (inr (inr (inr (inl (c.args.seed, c.args.exchanges, drill, (c.in_ok-cfg.cfg, accepted_text configuration before now kept c.in_ok-cfg.cfg loads, c.in_ok-drill_lines.ensures))))))),
      built_text configuration before now kept c.in_ok-cfg.cfg loads,
    )
