use Rattle.std.proofs.Common.{ap, ◌∙◌, sym}
use Rattle.std.proofs.lemmas.Int.{to_z-of_z}
use Rattle.px_conv.specs.Fields.{parts, whole}
use Rattle.px_conv.proofs.FieldsLemmas.{whole_row}
use Rattle.px_conv.proofs.fields.extent_of.Goals as goal

-- the first and the last of the row are its ends
pub returns : goal.returns
returns c =
    let all = parts c.args.kind c.args.separators.now c.args.text.now in
    let index = c.ranges.index in
    let row = simp to_z-of_z at c.in_ok-row.ensures all (sym c.number_of.ensures) in
    sym (ap whole row.2 ∙ whole_row all c.in_ok-row.row.first c.in_ok-row.row.len c.in_ok-first.first c.in_ok-last.last row.0 (sym c.in_ok-first.ensures) (sym c.in_ok-last.ensures))
