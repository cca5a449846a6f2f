use Rattle.std.proofs.Common.{◌≡◌, ◌≤◌, ◌+◌, ◌++◌, List, ℕ, take, drop, length, sym, ap, ◌∙◌}
use Rattle.wire_buf.proofs.Storing.{pushed}
use Rattle.wire_buf.proofs.Window.push_five.Goals as goal

pub returns-clause-items : goal.returns-clause-items
returns-clause-items c =
    let count : ℕ = c.count_of-count.result in
    let ring : List ℕ = c.make_room-begin.new.ring.items in
    let piece : List ℕ = c.args.first.now ++ (c.args.second.now ++ (c.args.third.now ++ (c.args.fourth.now ++ c.args.fifth.now))) in
    let size : length piece ≡ count = sym c.count_of-count.ensures in
    let fits : c.make_room-begin.result + c.self.inside.len + count ≤ length ring = c.make_room-begin.ensures.room in
    let kept : take c.self.inside.len (drop c.make_room-begin.result ring) ≡ c.args.self.now.items = c.make_room-begin.ensures.kept ∙ ap (λ b. b.items) c.self.view_is in
    ap (λ xs. take (c.self.inside.len + count) (drop c.make_room-begin.result xs)) c.write_pieces.ensures.items
    ∙ pushed ring piece c.args.self.now.items c.make_room-begin.result c.self.inside.len count fits size kept
