use Rattle.std.proofs.Common.{refl}
use Rattle.std.proofs.lemmas.Result.{IfOk-weaker}
use Rattle.http_model.specs.Refusal.{refusal}
use Rattle.px_explain.proofs.saying.refuse.Goals as goal

pub say-requires-clause-reply : goal.say-requires-clause-reply
say-requires-clause-reply c = (refusal c.args.code, record { blocks = c.refusal.ensures.blocks; none = refl })

pub returns : goal.returns
returns c =
    IfOk-weaker c.say.result _ _
    (λ answer h. let t = h (refusal c.args.code) (record { blocks = c.refusal.ensures.blocks; none = refl }) in record { lines = t.lines; status = t.status }) c.say.ensures
