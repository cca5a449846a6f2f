use Rattle.std.proofs.Common.{ℕ, length, decimal}
use Rattle.std.specs.Prelude.{codes}
use Rattle.std.specs.List.{flat_map}
use Rattle.rec_format.specs.Read.{visits}
use Rattle.rec_format.specs.Written.{visit_text}
use Rattle.rec_format.proofs.Joining.{joined_lines}
use Rattle.rec_format.proofs.writer.put_numbered.Goals as goal

pub returns : goal.returns
returns c =
    let n : ℕ = length c.args.conns.now in
    joined_lines c.put_each.result c.args.text.now.items (codes "connections ") (decimal n) (flat_map visit_text (visits c.args.conns.now)) c.extend_from_slice.new.self.items c.put_number.new.text.items c.put_each.new.text.items
    c.in_ok-extend_from_slice.ensures.items c.in_ok-put_number.ensures c.put_each.ensures
