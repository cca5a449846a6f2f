use Rattle.std.proofs.Common.{List, ℕ, sym, ap, ◌∙◌, subst}
use Rattle.http_rules.specs.declared.rule.action.DelBy.{DelBy}
use Rattle.http_rules.specs.declared.rule.action.DelBy.TheVariants as by
use Rattle.http_rules.specs.Action.Steps.{del_step}
use Rattle.http_rules.specs.Action.Outcome.{Came}
use Rattle.http_rules.proofs.action.removal.del_header.Goals as goal

pub returns-in-Str-clause-came : goal.returns-in-Str-clause-came
returns-in-Str-clause-came c =
    λ side env vars at.
    subst (λ (b : DelBy). Came side env (del_step c.args.msg.now.size b env) c.remove_meant.result c.remove_meant.new.msg.blocks vars)
    (ap (λ (t : List ℕ). by.Str t) c.as_slice.ensures ∙ sym c.in-Str.is) (c.remove_meant.ensures.came side env vars at)

pub returns-in-Beg-clause-came : goal.returns-in-Beg-clause-came
returns-in-Beg-clause-came c =
    λ side env vars at.
    subst (λ (b : DelBy). Came side env (del_step c.args.msg.now.size b env) c.remove_meant-in-Beg.result c.remove_meant-in-Beg.new.msg.blocks vars)
    (ap (λ (t : List ℕ). by.Beg t) c.as_slice-in-Beg.ensures ∙ sym c.in-Beg.is) (c.remove_meant-in-Beg.ensures.came side env vars at)

pub returns-in-End-clause-came : goal.returns-in-End-clause-came
returns-in-End-clause-came c =
    λ side env vars at.
    subst (λ (b : DelBy). Came side env (del_step c.args.msg.now.size b env) c.remove_meant-in-End.result c.remove_meant-in-End.new.msg.blocks vars)
    (ap (λ (t : List ℕ). by.End t) c.as_slice-in-End.ensures ∙ sym c.in-End.is) (c.remove_meant-in-End.ensures.came side env vars at)

pub returns-in-Sub-clause-came : goal.returns-in-Sub-clause-came
returns-in-Sub-clause-came c =
    λ side env vars at.
    subst (λ (b : DelBy). Came side env (del_step c.args.msg.now.size b env) c.remove_meant-in-Sub.result c.remove_meant-in-Sub.new.msg.blocks vars)
    (ap (λ (t : List ℕ). by.Sub t) c.as_slice-in-Sub.ensures ∙ sym c.in-Sub.is) (c.remove_meant-in-Sub.ensures.came side env vars at)
