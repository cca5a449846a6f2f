use Rattle.std.proofs.Common.{◌-◌, ◌+◌, ◌≤◌, ap, ◌∙◌, drop, take, length, reverse, arith}
use Rattle.std.proofs.lemmas.List.{length-reverse}
use Rattle.px_conv.proofs.FieldsLemmas.{row_reversed}
use Rattle.px_conv.proofs.fields.row_before.Goals as goal

-- the row of the reversed list is one of the list
pub returns : goal.returns
returns c = λ all same.
    let first = c.in_ok-row.row.first in
    let len = c.in_ok-row.row.len in
    let row = c.in_ok-row.ensures.row (reverse all) (length-reverse all ∙ same) in
    let fits : c.in_ok-row.row.first + c.in_ok-row.row.len ≤ length all = omega (arith, c.in_ok-row.ensures.within) in
    (row.0, omega arith, ap reverse row.2 ∙ row_reversed all first len fits ∙ ap (λ n. take len (drop (n - (first + len)) all)) same)
