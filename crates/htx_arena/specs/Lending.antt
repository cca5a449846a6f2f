use Rattle.std.specs.Prelude.{ℕ, List}
use Rattle.std.specs.Borrow.{Lends, MutBor, Fml, Array, u8}
use Rattle.htx_arena.specs.Layout.Contents.{Contents}
use Rattle.htx_arena.specs.Layout.Written.{written}
use Rattle.htx_arena.specs.contracts.arena.Arena.{the_row}
use Rattle.htx_arena.specs.contracts.late.LateArena as late

-- once the borrow r ends, the arena has what r shows last as the value of the block
abbrev pub LendsValue : MutBor Contents → ℕ → MutBor (List ℕ) → Fml
LendsValue s at r = Lends the_row (Array u8 0) s r (written s.now at)

-- once the borrow r ends, the late arena is what r shows last
abbrev pub LendsArena : MutBor Contents → MutBor Contents → Fml
LendsArena s r = Lends late.the_row the_row s r (λ w. w)
