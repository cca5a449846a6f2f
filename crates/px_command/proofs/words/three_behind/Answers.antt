use Rattle.std.proofs.Common.{rules, ◌≡◌, ◌∙◌, [], ◌∷◌, sym, ap, map}
use Rattle.std.specs.Prelude.{string_bytes}
use Rattle.px_command.proofs.Items.{first_of_four, four, four_are}
use Rattle.px_command.proofs.words.three_behind.Goals as goal

pub returns-then-ne-clause-none : goal.returns-then-ne-clause-none
returns-then-ne-clause-none c =
    let differs : c.as_str.result.now ≡ c.args.command.now → ⊥ = search rules in
    let items : c.args.words.now ≡ c.name-item.result ∷ c.first-item.result ∷ c.second-item.result ∷ c.third-item.result ∷ [] =
    four c.args.words.now c.name-item.result c.first-item.result c.second-item.result c.third-item.result (search rules) (search rules) c.name-item.is c.first-item.is c.second-item.is c.third-item.is in
    λ first second third is.
    differs
    (c.as_str.ensures.value ∙ first_of_four (string_bytes c.name-item.result) (string_bytes c.first-item.result) (string_bytes c.second-item.result) (string_bytes c.third-item.result) c.args.command.now first second third (sym (ap (map string_bytes) items) ∙ is))

pub returns-clause-some : goal.returns-clause-some
returns-clause-some c =
    let same : c.as_str.result.now ≡ c.args.command.now = search rules in
    let items : c.args.words.now ≡ c.name-item.result ∷ c.first-item.result ∷ c.second-item.result ∷ c.third-item.result ∷ [] =
    four c.args.words.now c.name-item.result c.first-item.result c.second-item.result c.third-item.result (search rules) (search rules) c.name-item.is c.first-item.is c.second-item.is c.third-item.is in
    ap (map string_bytes) items
    ∙ four_are (string_bytes c.name-item.result) (string_bytes c.first-item.result) (string_bytes c.second-item.result) (string_bytes c.third-item.result) c.args.command.now c.as_str-2.result.now c.as_str-3.result.now c.as_str-4.result.now
    (sym c.as_str.ensures.value ∙ same) (sym c.as_str-2.ensures.value) (sym c.as_str-3.ensures.value) (sym c.as_str-4.ensures.value)
