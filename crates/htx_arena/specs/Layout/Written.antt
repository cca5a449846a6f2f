use Rattle.std.specs.Prelude.{ℕ, List, length, slice_set}
use Rattle.std.specs.List.{refill}
use Rattle.htx_model.specs.Block.{value_of}
pub use Rattle.htx_model.specs.Block.{with_value}
use Rattle.htx_model.specs.Blocks.{block_at}
use Rattle.htx_arena.specs.Layout.Contents.{Contents}

-- The arena after a write behind the value of a block. No `&mut [u8]` changes its length; a list of
-- another length, which never comes, is cut or filled up.
abbrev pub written : Contents → ℕ → List ℕ → Contents
written s at w =
    let value = value_of (block_at s.blocks at) in
    record s { blocks = slice_set s.blocks at (with_value (block_at s.blocks at) (refill (length value) value w)) }
