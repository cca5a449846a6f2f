use Rattle.std.proofs.Common.{◌≡◌, length, ap, ◌∙◌}
use Rattle.uri_parts.specs.Target.{TargetParts}
use Rattle.uri_parts.specs.Cut.{query_text}
use Rattle.http_rules.specs.Action.Lines.{origin_of, path_of, query_of}
use Rattle.http_rules.proofs.ActionLemmas.Targets.{front_of_two, back_of_two}
use Rattle.http_rules.proofs.action.target.cut_path.Goals as goal

-- the bytes of the query are counted
counted : (c : goal.After-split_at) → c.query_len.result ≡ length (query_of c.args.target.now)
counted c = c.query_len.ensures ∙ ap (λ (p : TargetParts). length (query_text p.query)) c.cut_target-parts.ensures

pub returns-clause-origin : goal.returns-clause-origin
returns-clause-origin c =
    let t = c.args.target.now in
    c.split_at.ensures.front ∙ front_of_two t (origin_of t) (path_of t) (query_of t) _ c.query_len.result (c.one_cut.ensures.spells t) (ap (λ (p : TargetParts). length p.path) c.cut_target-parts.ensures) (counted c)

pub returns-clause-pathq : goal.returns-clause-pathq
returns-clause-pathq c =
    let t = c.args.target.now in
    c.split_at.ensures.back ∙ back_of_two t (origin_of t) (path_of t) (query_of t) _ c.query_len.result (c.one_cut.ensures.spells t) (ap (λ (p : TargetParts). length p.path) c.cut_target-parts.ensures) (counted c)
