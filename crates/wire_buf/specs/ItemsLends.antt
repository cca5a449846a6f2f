-- What a ring ends as, once a `&mut` to items of it has ended.
use Rattle.std.specs.Prelude.{ℕ, List, ◌++◌, take, drop, length, slice_range}
use Rattle.std.specs.Borrow.{MutBor, Fml, Lends, Array, RattleType, u8}
use Rattle.std.specs.List.{refill}
use Rattle.std.specs.contracts.alloc.Global as global
use Rattle.std.specs.contracts.impls.GlobalAllocator.TheImpl.{ghosts}
use Rattle.circular_buffer.specs.Buffer.{Buffer, buffer}
use Rattle.circular_buffer.specs.contracts.heap.HeapCircularBuffer as heap

abbrev pub ring_row : RattleType
ring_row = heap.the_row u8 global.the_row ghosts

-- a ring whose items were written over. No `&mut [u8]` changes its length; a list of another length, which never comes, is
-- cut or filled up.
abbrev pub with_items : Buffer ℕ → List ℕ → Buffer ℕ
with_items b ws = buffer (refill (length b.items) b.items ws) b.capacity

-- the same, of those from `begin` to `end`
abbrev pub with_run : List ℕ → ℕ → ℕ → List ℕ → List ℕ
with_run xs begin end ws =
    let run = slice_range xs begin end in
    take begin xs ++ (refill (length run) run ws ++ drop end xs)

abbrev pub LendsAll : MutBor (Buffer ℕ) → MutBor (List ℕ) → Fml
LendsAll b r = Lends ring_row (Array u8 0) b r (with_items b.now)

abbrev pub LendsRun : MutBor (Buffer ℕ) → ℕ → ℕ → MutBor (List ℕ) → Fml
LendsRun b begin end r = Lends ring_row (Array u8 0) b r (λ ws. with_items b.now (with_run b.now.items begin end ws))
