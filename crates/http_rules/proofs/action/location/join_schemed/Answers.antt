use Rattle.std.proofs.Common.{◌≡◌, ◌++◌, ℕ, List, ap, ◌∙◌}
use Rattle.std.specs.Prelude.{codes}
use Rattle.uri_parts.specs.Target.{target_parts}
use Rattle.http_rules.specs.Action.Replies.{schemed, behind_schemed}
use Rattle.http_rules.proofs.ActionLemmas.Joining.{recapped, retold, in_five}
use Rattle.http_rules.proofs.action.location.join_schemed.Goals as goal

pub returns-clause-joins : goal.returns-clause-joins
returns-clause-joins c =
    let text = c.args.text.now in
    let host = c.args.host.now in
    let three = text ++ (codes "://" ++ host) in
    let path = c.led_path.result.now in
    let behind = c.behind_schemed-behind.result.now in
    let cap = c.args.into.now.cap in
    let four = c.put_piece-both.ensures.joins three (recapped cap c.join_three-front.new.into.cap three c.join_three-front.new.into.bytes c.join_three-front.result c.join_three-front.ensures.cap c.join_three-front.ensures.joins) in
    let next = c.join_three-front.new.into.cap in
    let five = c.put_piece.ensures.joins (three ++ path) (recapped next c.put_piece-both.new.into.cap (three ++ path) c.put_piece-both.new.into.bytes c.put_piece-both.result c.put_piece-both.ensures.cap four) in
    let parts = target_parts c.args.target.now in
    retold cap c.put_piece-both.new.into.cap ((three ++ path) ++ behind) (schemed c.args.drop_query text host parts) c.put_piece.new.into.bytes c.put_piece.result (c.put_piece-both.ensures.cap ∙ c.join_three-front.ensures.cap)
    (in_five text (codes "://") host path behind
    ∙ ap (λ (b : List ℕ). text ++ (codes "://" ++ (host ++ (path ++ b)))) c.behind_schemed-behind.ensures
    ∙ ap (λ (p : List ℕ). text ++ (codes "://" ++ (host ++ (p ++ behind_schemed c.args.drop_query parts)))) c.led_path.ensures) five
