use Rattle.std.proofs.Common.{sym, ◌∙◌}
use Rattle.cfg_parse.proofs.ListLemmas.{drop-slice_get}
use Rattle.cfg_parse.proofs.arguments.Arguments.next.Goals as goal

pub returns : goal.returns
returns c = sym c.self.view_is ∙ drop-slice_get c.self.inside.words.now c.self.inside.at c.word-word.result.now c.word-word.ensures
