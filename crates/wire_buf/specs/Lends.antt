-- What a window is once the bytes that it lends are given back.
use Rattle.std.specs.Prelude.{ℕ, List, length}
use Rattle.std.specs.Borrow.{MutBor, Fml, Lends, Array, u8}
use Rattle.std.specs.List.{refill}
use Rattle.circular_buffer.specs.Buffer.{Buffer, buffer}
use Rattle.wire_buf.specs.contracts.Window.{the_row}

-- The window holds what the slice shows last. No `&mut [u8]` changes its length; a list of another length, which never
-- comes, is cut or filled up.
abbrev pub LendsBytes : MutBor (Buffer ℕ) → MutBor (List ℕ) → Fml
LendsBytes w r = Lends the_row (Array u8 0) w r (λ ws. buffer (refill (length w.now.items) w.now.items ws) w.now.capacity)
