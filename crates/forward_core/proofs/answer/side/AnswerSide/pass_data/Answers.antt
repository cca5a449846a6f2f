use Rattle.std.specs.Prelude.{take}
use Rattle.std.proofs.Common.{subst}
use Rattle.std.proofs.lemmas.List.{take_rest}
use Rattle.forward_core.specs.Answer.Said.{AnswerPuts}
use Rattle.forward_core.proofs.AnswerLemmas.PassLemmas.{puts_then}
use Rattle.forward_core.proofs.answer.side.AnswerSide.pass_data.Goals as goal

pub returns-clause-leads : goal.returns-clause-leads
returns-clause-leads c = λ some.
    let old = c.args.self.now in
    let mid = c.pass_wide-passed.new.self in
    let new = c.pass_on.new.self in
    let bytes = c.args.bytes.now in
    let at = c.pass_wide-passed.result in
    let n = c.pass_on.result in
    puts_then old mid new at n bytes c.pass_wide-passed.ensures.leads (subst (λ xs. AnswerPuts mid new (take n xs)) (take_rest bytes at) c.pass_on.ensures.leads)
