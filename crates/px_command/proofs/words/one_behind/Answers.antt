use Rattle.std.proofs.Common.{rules, ◌≡◌, ◌∙◌, [], ◌∷◌, sym, ap, map}
use Rattle.std.specs.Prelude.{string_bytes}
use Rattle.px_command.proofs.Items.{first_of_two, two, two_are}
use Rattle.px_command.proofs.words.one_behind.Goals as goal

pub returns-then-ne-clause-none : goal.returns-then-ne-clause-none
returns-then-ne-clause-none c =
    let differs : c.as_str.result.now ≡ c.args.command.now → ⊥ = search rules in
    let items : c.args.words.now ≡ c.name-item.result ∷ c.word-item.result ∷ [] =
    two c.args.words.now c.name-item.result c.word-item.result (search rules) (search rules) c.name-item.is c.word-item.is in
    λ word is.
    differs (c.as_str.ensures.value ∙ first_of_two (string_bytes c.name-item.result) (string_bytes c.word-item.result) c.args.command.now word (sym (ap (map string_bytes) items) ∙ is))

pub returns-clause-some : goal.returns-clause-some
returns-clause-some c =
    let same : c.as_str.result.now ≡ c.args.command.now = search rules in
    let items : c.args.words.now ≡ c.name-item.result ∷ c.word-item.result ∷ [] =
    two c.args.words.now c.name-item.result c.word-item.result (search rules) (search rules) c.name-item.is c.word-item.is in
    ap (map string_bytes) items
    ∙ two_are (string_bytes c.name-item.result) (string_bytes c.word-item.result) c.args.command.now c.as_str-2.result.now (sym c.as_str.ensures.value ∙ same) (sym c.as_str-2.ensures.value)
