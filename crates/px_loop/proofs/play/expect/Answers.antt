use Rattle.std.proofs.Common.{rules, ◌++◌, take, drop}
use Rattle.px_loop.proofs.Pieces.{cut, came}
use Rattle.px_loop.proofs.play.expect.Goals as goal

pub pieces-preserved : goal.pieces-preserved
pieces-preserved g c =
    let i = c.pieces.invariant in
    let left = c.pieces.left.now in
    let back = c.split_at.ensures.back in
    rw back (
      i.0 ++ take c.in-Ok.n left,
      cut c.args.bytes.now i.0 left c.in-Ok.n i.1,
      λ coming told.
          let had = i.2 coming told in
          let got = c.in-Ok.ensures.came had.0 had.2 in
          (drop c.in-Ok.n had.0, came coming i.0 had.0 left c.in-Ok.n had.1 got.0, got.1),
    )
