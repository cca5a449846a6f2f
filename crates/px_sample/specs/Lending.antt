-- What a buffer is once the bytes that it lends are given back.
use Rattle.std.specs.Prelude.{ℕ, List, length}
use Rattle.std.specs.Borrow.{MutBor, Fml, Lends, Array, u8}
use Rattle.std.specs.List.{refill}
use Rattle.px_sample.specs.Buffer.{Buffer}
use Rattle.px_sample.specs.contracts.buf.Buf.{the_row}

-- the buffer after a write over its bytes; a list of another length, which never comes, is cut or filled up
abbrev pub rewritten : Buffer → List ℕ → Buffer
rewritten b ws = record b { bytes = refill (length b.bytes) b.bytes ws }

-- The buffer holds what the slice shows last. No `&mut [u8]` changes its length.
abbrev pub LendsBytes : MutBor Buffer → MutBor (List ℕ) → Fml
LendsBytes b r = Lends the_row (Array u8 0) b r (rewritten b.now)
