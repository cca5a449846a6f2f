use Rattle.std.proofs.Common.{rules, ◌≡◌, sym, ◌∙◌, IsTrue}
use Rattle.px_command.proofs.Items.{alone_word}
use Rattle.px_command.proofs.words.is_alone.Goals as goal

pub returns-in-len1 : goal.returns-in-len1
returns-in-len1 c =
    let to : IsTrue c.eq.result → c.as_str.result.now ≡ c.args.word.now = search rules in
    let from : c.as_str.result.now ≡ c.args.word.now → IsTrue c.eq.result = search rules in
    alone_word c.args.words.now c.only-item.result c.args.word.now c.eq.result (search rules) (search rules) c.only-item.is
    (λ t. sym c.as_str.ensures.value ∙ to t) (λ is. from (c.as_str.ensures.value ∙ is))
