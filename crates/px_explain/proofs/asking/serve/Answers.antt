use Rattle.std.proofs.Common.{List, ℕ, sym, ap, subst, ◌∙◌}
use Rattle.std.specs.Prelude.{Option, Some}
use Rattle.std.proofs.lemmas.Result.{IfOk-weaker}
use Rattle.session_model.specs.Asking.{asker_of}
use Rattle.rec_format.specs.declared.record.ServerSpec.{ServerSpec}
use Rattle.px_explain.specs.Traced.{AnswerOf}
use Rattle.px_explain.specs.Walked.{IsTold}
use Rattle.px_explain.proofs.Asked.{served}
use Rattle.px_explain.proofs.asking.serve.Goals as goal

pub returns-in-Some-Some : goal.returns-in-Some-Some
returns-in-Some-Some c =
    let cfg = c.args.config.now in
    let walk = c.args.walk.now in
    let server = c.in-Some-Some.server in
    IfOk-weaker c.answer.result _ _
    (λ answer t. λ f known method vars.
    let told = subst (λ (bytes : List ℕ). IsTold walk c.answer.new.walk answer (AnswerOf cfg (asker_of f.received f.head) walk.teller.vars bytes)) c.as_slice.ensures (t (asker_of f.received f.head) known method) in
    served cfg f walk c.answer.new.walk answer c.args.servers.now server (sym c.in-Some-Some.ensures.value ∙ ap (λ (x : Option ServerSpec). Some x) c.in-Some-Some.field-0-is) vars told) c.answer.ensures
