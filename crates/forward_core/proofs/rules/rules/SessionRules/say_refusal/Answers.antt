use Rattle.std.proofs.Common.{refl}
use Rattle.http_model.specs.Refusal.{refusal}
use Rattle.forward_core.proofs.rules.rules.SessionRules.say_refusal.Goals as goal

pub say_reply-requires-clause-reply : goal.say_reply-requires-clause-reply
say_reply-requires-clause-reply c = (refusal c.args.code, record { blocks = c.refusal.ensures.blocks; none = refl })

pub returns-clause-said : goal.returns-clause-said
returns-clause-said c = (c.in_ok-_kept.ensures.says (refusal c.args.code) (record { blocks = c.refusal.ensures.blocks; none = refl })).says
