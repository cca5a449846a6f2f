use Rattle.std.proofs.Common.{◌≡◌, ◌≤◌, ◌+◌, List, ℕ, take, drop, length, ap, ◌∙◌, arith}
use Rattle.std.proofs.lemmas.List.{length-take-le}
use Rattle.wire_buf.proofs.Storing.{pushed}
use Rattle.wire_buf.proofs.Window.push.Goals as goal

pub returns-clause-items : goal.returns-clause-items
returns-clause-items c =
    let count : ℕ = c.min-count.result in
    let ring : List ℕ = c.make_room-begin.new.ring.items in
    let piece : List ℕ = take count c.args.bytes.now in
    let size : length piece ≡ count = length-take-le count c.args.bytes.now (omega (arith, c.min-count.ensures)) in
    let fits : c.make_room-begin.result + c.self.inside.len + count ≤ length ring = c.make_room-begin.ensures.room in
    let kept : take c.self.inside.len (drop c.make_room-begin.result ring) ≡ c.args.self.now.items = c.make_room-begin.ensures.kept ∙ ap (λ b. b.items) c.self.view_is in
    ap (λ xs. take (c.self.inside.len + count) (drop c.make_room-begin.result xs)) c.write.ensures.items
    ∙ pushed ring piece c.args.self.now.items c.make_room-begin.result c.self.inside.len count fits size kept
