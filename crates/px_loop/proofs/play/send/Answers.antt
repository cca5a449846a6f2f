use Rattle.std.proofs.Common.{rules, ◌++◌, take, drop}
use Rattle.px_loop.proofs.Pieces.{cut, wrote}
use Rattle.px_loop.proofs.play.send.Goals as goal

pub pieces-preserved : goal.pieces-preserved
pieces-preserved g c =
    let i = c.pieces.invariant in
    let left = c.pieces.left.now in
    let back = c.split_at.ensures.back in
    rw back (
      i.0 ++ take c.in-Ok.n left,
      cut c.args.bytes.now i.0 left c.in-Ok.n i.1,
      λ before w. wrote (g.L.Link.wrote c.write.new.self) before i.0 (take c.in-Ok.n left) (c.in-Ok.ensures.writes.wrote (before ++ i.0) (i.2 before w)),
    )
