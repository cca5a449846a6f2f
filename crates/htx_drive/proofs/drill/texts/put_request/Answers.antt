use Rattle.std.proofs.Common.{◌++◌, ◌∙◌, List, ℕ, ap, decimal}
use Rattle.std.specs.Prelude.{codes}
use Rattle.htx_drive.specs.Drill.Drill.{field_lines, body_lines}
use Rattle.htx_drive.proofs.DrillLemmas.Behind.{five_pieces}
use Rattle.htx_drive.proofs.drill.texts.put_request.Goals as goal

pub returns : goal.returns
returns c =
    let plan = c.args.drawn.now in
    let fields = ap (λ (l : List ℕ). c.extend_from_slice-2.new.self.items ++ field_lines 0 l) c.deref.ensures.value in
    five_pieces c.put_body.result c.args.text.now.items c.extend_from_slice.new.self.items c.put_number.new.text.items c.extend_from_slice-2.new.self.items c.put_fields.new.text.items c.put_body.new.text.items (codes "POST /d/") (decimal c.args.number)
    (codes " HTTP/1.1\r\nHost: d\r\n") (field_lines 0 plan.fields.items) (body_lines plan.request 120) c.in_ok-extend_from_slice.ensures.items c.in_ok-put_number.ensures c.in_ok-extend_from_slice-2.ensures.items (c.in_ok-put_fields.ensures ∙ fields) c.put_body.ensures
