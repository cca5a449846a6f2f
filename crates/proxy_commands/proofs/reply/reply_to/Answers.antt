use Rattle.std.proofs.Common.{sym, subst, ap, ◌∙◌}
use Rattle.proxy_commands.specs.Answers.{DecidesBy}
use Rattle.proxy_commands.specs.Lines.{file_line}
use Rattle.proxy_commands.specs.Stops.{StopsBy}
use Rattle.proxy_commands.specs.declared.stop.Stop.TheVariants as stops
use Rattle.proxy_commands.proofs.Causes.{refused_by}
use Rattle.proxy_commands.proofs.reply.reply_to.Goals as goal

pub returns-in_ok-refused_line-in-Refused-clause-told : goal.returns-in_ok-refused_line-in-Refused-clause-told
returns-in_ok-refused_line-in-Refused-clause-told c = λ input stopped.
    let by : StopsBy input (stops.Refused c.in-Refused.line c.in-Refused.kind) = subst (StopsBy input) c.in-Refused.is stopped in
    (refused_by input c.in-Refused.line c.in-Refused.kind _ by c.in_ok-refused_line-in-Refused.ensures, λ is. absurd cc, tt)

pub returns-in_ok-file_line-in-File-clause-told : goal.returns-in_ok-file_line-in-File-clause-told
returns-in_ok-file_line-in-File-clause-told c = λ input stopped.
    let by : StopsBy input (stops.File c.in-File.name) = subst (StopsBy input) c.in-File.is stopped in (
      (subst (DecidesBy input.words input.files input.builder) (sym by.1) by.2, c.in_ok-file_line-in-File.ensures ∙ ap file_line (sym by.1)),
      λ is. by.0,
      tt,
    )
