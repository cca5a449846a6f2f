use Rattle.std.proofs.Common.{◌≡◌, ◌++◌, ◌-◌, ℕ, List, length, take, drop, sym, ap, ◌∙◌, append_assoc}
use Rattle.uri_parts.specs.Target.{TargetParts, target_parts}
use Rattle.uri_parts.specs.Cut.{query_text}
use Rattle.http_rules.specs.Action.Lines.{origin_of, path_of, query_of}
use Rattle.http_rules.proofs.ActionLemmas.Targets.{front_piece, back_piece}
use Rattle.http_rules.proofs.action.target.cut_query.Goals as goal

-- the bytes of the query are counted
counted : (c : goal.After-split_at) → c.query_len.result ≡ length (query_of c.args.target.now)
counted c = c.query_len.ensures ∙ ap (λ (p : TargetParts). length (query_text p.query)) c.cut_target-parts.ensures

-- what the target is
spelled : (c : goal.After-split_at) → (origin_of c.args.target.now ++ path_of c.args.target.now) ++ query_of c.args.target.now ≡ c.args.target.now
spelled c = append_assoc (origin_of c.args.target.now) (path_of c.args.target.now) (query_of c.args.target.now) ∙ c.one_cut.ensures.spells c.args.target.now

pub returns-clause-front : goal.returns-clause-front
returns-clause-front c =
    let n = c.query_len.result in
    c.split_at.ensures.front ∙ front_piece c.args.target.now (origin_of c.args.target.now ++ path_of c.args.target.now) (query_of c.args.target.now) n (spelled c) (counted c)

pub returns-clause-query : goal.returns-clause-query
returns-clause-query c =
    let n = c.query_len.result in
    c.split_at.ensures.back ∙ back_piece c.args.target.now (origin_of c.args.target.now ++ path_of c.args.target.now) (query_of c.args.target.now) n (spelled c) (counted c)
