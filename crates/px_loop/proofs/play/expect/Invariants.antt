use Rattle.std.proofs.Common.{◌≡◌, ℕ, List, ◌++◌, length, Some}
use Rattle.px_loop.proofs.play.expect.Given as goal

abbrev pub invariant-pieces : goal.invariant-pieces
invariant-pieces g l =
    (front : List ℕ) × (l.bytes ≡ front ++ l.left)
    × ((coming : List ℕ) → (g.L.Link.seen l.initial.link).to_come ≡ Some coming
    → (later : List ℕ) × (coming ≡ front ++ later) × ((g.L.Link.seen l.link).to_come ≡ Some later))

abbrev pub decreases-pieces : goal.decreases-pieces
decreases-pieces g l = length l.left
