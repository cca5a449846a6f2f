use Rattle.std.proofs.Common.{◌+◌, ◌≤◌, ◌∙◌, ap, take, length, arith}
use Rattle.cfg_expr.proofs.ConditionLemmas.Windows.{window_front, window_len}
use Rattle.cfg_expr.proofs.condition.words_left.WordsLeft.around.Goals as goal

pub returns-clause-front : goal.returns-clause-front
returns-clause-front c =
    let words = c.self.inside.words.now in
    let len = window_len words c.self.inside.at c.self.inside.end c.self.invariant.1 in
    let seen = ap length c.self.view_is in
    let inside : c.self.inside.at + c.args.number ≤ c.self.inside.end = omega (arith, len, seen, c.requires, c.self.invariant.0) in
    window_front words c.self.inside.at c.args.number c.self.inside.end inside ∙ ap (take c.args.number) c.self.view_is
