use Rattle.std.proofs.Common.{rules, ◌≡◌, ◌∙◌, ◌-◌, ◌∷◌, sym, ap, map, length, take, drop}
use Rattle.std.specs.Prelude.{string_bytes}
use Rattle.px_command.proofs.Items.{front_are, two_and}
use Rattle.px_command.proofs.words.some_behind.Goals as goal

pub returns-clause-some : goal.returns-clause-some
returns-clause-some c =
    let same : c.as_str.result.now ≡ c.args.command.now = search rules in
    let items : c.args.words.now ≡ c.name-item.result ∷ c.first-item.result ∷ take (length c.args.words.now - 2) (drop 2 c.args.words.now) =
    two_and c.args.words.now c.name-item.result c.first-item.result (search rules) c.name-item.is c.first-item.is in
    ap (map string_bytes) items
    ∙ front_are (string_bytes c.name-item.result) (string_bytes c.first-item.result) c.args.command.now c.as_str-2.result.now _
    (sym c.as_str.ensures.value ∙ same) (sym c.as_str-2.ensures.value)
