use Rattle.std.proofs.Common.{refl, sym, subst, []}
use Rattle.std.specs.Prelude.{Result}
use Rattle.http_model.specs.declared.Why.{Why}
use Rattle.http_model.specs.declared.Why.TheVariants.{Room}
use Rattle.http_model.specs.Head.{Message}
use Rattle.http_rules.specs.declared.action.stepped.Stepped.TheVariants.{Failed}
use Rattle.http_rules.specs.Action.Outcome.{Answers}
use Rattle.http_rules.proofs.ActionLemmas.Answering.{joined_held, joined_over}
use Rattle.http_rules.proofs.action.redirect.lead_by.Goals as goal

pub returns-in-Held-clause-came : goal.returns-in-Held-clause-came
returns-in-Held-clause-came c =
    λ wanted joins.
    let keeps = rw c.in-Held.is at joins in
    subst (λ (r : Result Message Why). Answers r c.lead_to.result c.lead_to.new.reply.blocks) (joined_held c.args.reply.now.size c.args.code wanted c.args.location.now keeps) c.lead_to.ensures.came

pub returns-in-Over-clause-came : goal.returns-in-Over-clause-came
returns-in-Over-clause-came c =
    λ wanted joins.
    let keeps = rw c.in-Over.is at joins in
    subst (λ (r : Result Message Why). Answers r (Failed Room) c.args.reply.now.blocks) (sym (joined_over c.args.reply.now.size c.args.code wanted c.args.location.now keeps)) (refl, c.requires)
