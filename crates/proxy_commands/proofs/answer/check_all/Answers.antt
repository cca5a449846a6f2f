use Rattle.std.proofs.Common.{ℕ, List, sym, subst}
use Rattle.std.specs.Prelude.{Option}
use Rattle.px_link.specs.Told.{NamedBytes, Reads}
use Rattle.proxy_commands.specs.Files.{Builder, told_by}
use Rattle.proxy_commands.specs.Stops.{Input, given}
use Rattle.proxy_commands.proofs.Causes.{all_answers}
use Rattle.proxy_commands.proofs.answer.check_all.Goals as goal

pub returns : goal.returns
returns g c =
    let told : Option (List NamedBytes) = g.F.Files.files c.args.files.now in
    let text : List ℕ = c.as_slice.result.now in
    let read : Reads told c.args.name.now 1048577 text = subst (λ (t : List ℕ). Reads told c.args.name.now 1048577 t) (sym c.as_slice.ensures) c.in_ok-text.ensures.bytes in
    let builder : Builder = told_by (g.P.Patterns.refusals c.args.pats.now) (g.P.Patterns.refusals c.verdict_of.new.pats) (g.P.Patterns.last_refused c.verdict_of.new.pats) in
    λ words is.
    let input : Input = given words told builder (g.F.Files.last_failed c.read.new.files) (g.F.Files.faults c.args.files.now) (g.F.Files.faults c.read.new.files) in
    all_answers input c.args.name.now text c.in_ok-verdict.verdict c.verdict_text.result is read c.in_ok-verdict.ensures.judges c.verdict_text.ensures
