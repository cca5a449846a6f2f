use Rattle.std.proofs.Common.{List, ℕ, ◌++◌, ◌∙◌, ap, codes}
use Rattle.cfg_print.specs.Words.{spaced}
use Rattle.cfg_print.proofs.Joining.{five_words}
use Rattle.cfg_print.proofs.filters.put_replace.Goals as goal

pub returns : goal.returns
returns c =
    five_words c.put.result c.args.page.now.text.items c.put_filter_name.new.page.text.items c.put_word.new.self.text.items c.put_word-2.new.self.text.items c.put.new.self.text.items
    (codes "filter") (codes "body-replace") c.args.side.now c.args.from.now c.args.to.now c.in_ok-put_filter_name.ensures
    (c.in_ok-put_word.ensures ∙ ap (λ (w : List ℕ). c.put_filter_name.new.page.text.items ++ spaced w) c.as_slice.ensures)
    (c.in_ok-put_word-2.ensures ∙ ap (λ (w : List ℕ). c.put_word.new.self.text.items ++ spaced w) c.as_slice-2.ensures)
    c.put.ensures
