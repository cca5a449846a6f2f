use Rattle.std.proofs.Common.{◌≡◌, ◌++◌, ℕ, List, Bool, true, sym, ap, ◌∙◌}
use Rattle.http_rules.specs.Action.Lines.{with_part, front_of, back_of, is_target}
use Rattle.http_rules.proofs.ActionLemmas.Lines.{sent}
use Rattle.http_rules.proofs.action.line.put_part.Goals as goal

pub returns-in-Done-clause-came : goal.returns-in-Done-clause-came
returns-in-Done-clause-came c =
    λ side env vars at.
    let line = c.in-Some.line in
    let text = c.args.text.now in
    let part = c.args.part in
    let is = sym c.in-Some.ensures in
    let pieces : c.around.result.0.now ++ (text ++ c.around.result.1.now) ≡ with_part part line.b.now text =
    ap (λ (x : List ℕ). x ++ (text ++ c.around.result.1.now)) c.around.ensures.front ∙ ap (λ (x : List ℕ). front_of part line.b.now ++ (text ++ x)) c.around.ensures.back
    in
    let good : is_target (with_part part line.b.now text) ≡ true = sym (ap (λ (x : List ℕ). is_target x) pieces) ∙ c.in-Done.ensures.made.0 in
    sent side env vars c.args.msg.now.size (λ target. with_part part target text) c.bytes.result.now c.put_target.result c.args.msg.now.blocks c.put_target.new.msg.blocks
    line.a.now line.b.now line.c.now at is good (c.bytes.ensures.bytes ∙ (c.in-Done.ensures.made.1 ∙ pieces))
    (c.put_target.ensures.came side env vars line.a.now line.b.now line.c.now at is)
