use Rattle.std.proofs.Common.{◌≡◌, ◌++◌, [], ℕ, List, sym, ◌∙◌, subst}
use Rattle.http_rules.specs.declared.action.joining.Joined.TheVariants.{Held}
use Rattle.http_rules.specs.Action.Joining.{Joins}
use Rattle.http_rules.proofs.ActionLemmas.Joining.{no_pieces, recapped, retold, in_three}
use Rattle.http_rules.proofs.action.joining.join_three.Goals as goal

pub returns-clause-joins : goal.returns-clause-joins
returns-clause-joins c =
    let first = c.args.first.now in
    let second = c.args.second.now in
    let cap = c.clear.new.self.cap in
    let start = subst (λ (held : List ℕ). Joins cap [] Held held) (sym c.clear.ensures.bytes) (no_pieces cap) in
    let one = c.put_piece-front.ensures.joins [] start in
    let two = c.put_piece-both.ensures.joins ([] ++ first) (recapped cap c.put_piece-front.new.into.cap ([] ++ first) c.put_piece-front.new.into.bytes c.put_piece-front.result c.put_piece-front.ensures.cap one) in
    let next = c.put_piece-front.new.into.cap in
    let three = c.put_piece.ensures.joins (([] ++ first) ++ second) (recapped next c.put_piece-both.new.into.cap (([] ++ first) ++ second) c.put_piece-both.new.into.bytes c.put_piece-both.result c.put_piece-both.ensures.cap two) in
    retold c.args.into.now.cap c.put_piece-both.new.into.cap ((([] ++ first) ++ second) ++ c.args.third.now) (first ++ (second ++ c.args.third.now)) c.put_piece.new.into.bytes c.put_piece.result
    (c.put_piece-both.ensures.cap ∙ c.put_piece-front.ensures.cap ∙ c.clear.ensures.cap) (in_three first second c.args.third.now) three
