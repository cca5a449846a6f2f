use Rattle.std.proofs.Common.{◌≡◌, ℕ, List, ◌++◌, length}
use Rattle.px_loop.proofs.play.send.Given as goal

abbrev pub invariant-pieces : goal.invariant-pieces
invariant-pieces g l =
    (front : List ℕ) × (l.bytes ≡ front ++ l.left)
    × ((before : List ℕ) → g.L.Link.wrote l.initial.link before → g.L.Link.wrote l.link (before ++ front))

abbrev pub decreases-pieces : goal.decreases-pieces
decreases-pieces g l = length l.left
