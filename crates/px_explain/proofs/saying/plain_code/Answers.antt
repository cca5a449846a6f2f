use Rattle.std.proofs.Common.{refl, ◌∙◌}
use Rattle.http_model.specs.Refusal.{refusal}
use Rattle.px_explain.proofs.Replies.{code_front, front_of}
use Rattle.px_explain.proofs.saying.plain_code.Goals as goal

pub returns-clause-code : goal.returns-clause-code
returns-clause-code c =
    c.code_of.ensures ∙ code_front (refusal 500).head (refusal 500).body c.refusal.new.to.blocks (c.refusal.ensures.blocks ∙ front_of (refusal 500) refl)
