use Rattle.std.proofs.Common.{ℕ, List, sym, subst}
use Rattle.std.specs.Prelude.{Option, Ok}
use Rattle.px_link.specs.Told.{NamedBytes, Reads}
use Rattle.cfg_parse.specs.declared.fault.CfgFault.{CfgFault}
use Rattle.proxy_commands.specs.Files.{Builder, told_by}
use Rattle.proxy_commands.specs.Stops.{Input, StopsBy, given, stop_of_configuration}
use Rattle.proxy_commands.proofs.Causes.{load_stops, passed_on}
use Rattle.proxy_commands.proofs.Told.{accepted_text, built_text, configured}
use Rattle.proxy_commands.proofs.answer.configuration.Goals as goal

pub returns-in_err-cfg-clause-stop : goal.returns-in_err-cfg-clause-stop
returns-in_err-cfg-clause-stop g c =
    let told : Option (List NamedBytes) = g.F.Files.files c.args.files.now in
    let text : List ℕ = c.as_slice.result.now in
    let read : Reads told c.args.name.now 1048577 text = subst (λ (t : List ℕ). Reads told c.args.name.now 1048577 t) (sym c.as_slice.ensures) c.in_ok-text.ensures.bytes in
    let builder : Builder = told_by (g.P.Patterns.refusals c.args.pats.now) (g.P.Patterns.refusals c.load.new.pats) (g.P.Patterns.last_refused c.load.new.pats) in
    let fault : CfgFault = c.in_err-cfg.field-0.0 in
    λ words named.
    let input : Input = given words told builder (g.F.Files.last_failed c.read.new.files) (g.F.Files.faults c.args.files.now) (g.F.Files.faults c.read.new.files) in
    passed_on c.from_residual-in_err-cfg.result (stop_of_configuration fault) (StopsBy input) c.from_residual-in_err-cfg.ensures.1
    (load_stops input c.args.name.now text fault named read c.in_err-cfg.ensures.loads)

pub returns-clause-accepted : goal.returns-clause-accepted
returns-clause-accepted g c =
    let told : Option (List NamedBytes) = g.F.Files.files c.args.files.now in
    let text : List ℕ = c.as_slice.result.now in
    let read : Reads told c.args.name.now 1048577 text = subst (λ (t : List ℕ). Reads told c.args.name.now 1048577 t) (sym c.as_slice.ensures) c.in_ok-text.ensures.bytes in
    configured told c.args.name.now text (Ok c.in_ok-cfg.cfg) read
    (accepted_text text (g.P.Patterns.refusals c.args.pats.now) (g.P.Patterns.refusals c.load.new.pats) (g.P.Patterns.last_refused c.load.new.pats) c.in_ok-cfg.cfg c.in_ok-cfg.ensures.loads)

pub returns-clause-built : goal.returns-clause-built
returns-clause-built g c =
    built_text c.as_slice.result.now (g.P.Patterns.refusals c.args.pats.now) (g.P.Patterns.refusals c.load.new.pats) (g.P.Patterns.last_refused c.load.new.pats) c.in_ok-cfg.cfg c.in_ok-cfg.ensures.loads
