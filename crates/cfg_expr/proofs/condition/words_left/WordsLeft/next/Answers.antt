use Rattle.std.proofs.Common.{◌<◌, ◌∙◌, sym, take, arith}
use Rattle.cfg_expr.proofs.ConditionLemmas.Windows.{drop-slice_get, slice_get-take}
use Rattle.cfg_expr.proofs.condition.words_left.WordsLeft.next.Goals as goal

pub returns : goal.returns
returns c =
    let words = c.self.inside.words.now in
    let before_end : c.self.inside.at < c.self.inside.end = omega arith in
    let word = slice_get-take words c.self.inside.end c.self.inside.at c.word-word.result.now before_end c.self.invariant.1 c.word-word.ensures in
    sym c.self.view_is ∙ drop-slice_get (take c.self.inside.end words) c.self.inside.at c.word-word.result.now word
