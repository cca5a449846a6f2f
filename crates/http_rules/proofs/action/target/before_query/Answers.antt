use Rattle.std.proofs.Common.{◌≡◌, ◌++◌, ℕ, List, ap, ◌∙◌, append_assoc}
use Rattle.uri_parts.specs.Target.{target_parts}
use Rattle.http_rules.specs.Action.Lines.{origin_of, path_of, mark_by}
use Rattle.http_rules.proofs.ActionLemmas.Targets.{marked}
use Rattle.http_rules.proofs.action.target.before_query.Goals as goal

pub returns : goal.returns
returns c =
    let target = c.args.target.now in
    let text = c.args.text.now in
    ap (λ (x : List ℕ). x ++ (c.mark_before.result.now ++ text)) c.cut_query.ensures.front
    ∙ append_assoc (origin_of target) (path_of target) (c.mark_before.result.now ++ text)
    ∙ ap (λ (x : List ℕ). origin_of target ++ (path_of target ++ (x ++ text))) (c.mark_before.ensures ∙ ap (λ (x : List ℕ). mark_by x text) c.cut_query.ensures.query)
    ∙ ap (λ (x : List ℕ). origin_of target ++ (path_of target ++ x)) (marked (target_parts target).query text)
