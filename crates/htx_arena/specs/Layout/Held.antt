-- What the array's bytes are, as a caller sees it.
use Rattle.std.specs.Prelude.{ℕ, zero, suc, Bool, ◌≡◌, ◌+◌, ◌*◌, ◌/◌, ◌^◌, ◌<◌, ◌≤◌, ◌⊎◌, List, [], ◌∷◌, length, slice_index, nat_eq, if◌then◌else◌}
use Rattle.htx_model.specs.Block.{Block, payload_len}
use Rattle.htx_model.specs.Blocks.{block_at}
use Rattle.htx_arena.specs.Space.Windows.{window, desc_at}
use Rattle.htx_arena.specs.Layout.Raw.{info_of, payload_of, block_in}

-- The array's first descriptors and the payload bytes at their addresses are those of these blocks at these
-- addresses; payloads don't overlap, and each ends below the descriptors.
pub record held (raw : List ℕ) (blocks : List Block) (addrs : List ℕ) : Type 0 where
  pub same_length : length addrs ≡ length blocks
  pub descriptor : (i : ℕ) → i < length blocks → desc_at raw i ≡ record { addr = slice_index addrs i; info = info_of (block_at blocks i) }
  pub payload : (i : ℕ) → i < length blocks → window raw (slice_index addrs i) (payload_len (block_at blocks i)) ≡ payload_of (block_at blocks i)
  pub within : (i : ℕ) → i < length blocks → slice_index addrs i + payload_len (block_at blocks i) + 8 * length blocks ≤ length raw
  pub apart : (i j : ℕ) → i < j → j < length blocks → (slice_index addrs i + payload_len (block_at blocks i) ≤ slice_index addrs j) ⊎ (slice_index addrs j + payload_len (block_at blocks j) ≤ slice_index addrs i)

-- ---- the blocks that an array's bytes tell

-- whether no block has a descriptor with this info word: type 15 of the top four bits
abbrev pub is_unused : ℕ → Bool
is_unused info = nat_eq (info / 2 ^ 28) 15

-- the blocks that the first k used descriptors tell, of so many descriptors from a number on
abbrev pub told_from : ℕ → List ℕ → ℕ → ℕ → List Block
told_from zero raw i k = []
told_from (suc descriptors) raw i zero = []
told_from (suc descriptors) raw i (suc k) =
    if is_unused (desc_at raw i).info then told_from descriptors raw (i + 1) (suc k) else block_in raw i ∷ told_from descriptors raw (i + 1) k

-- the blocks that the first k used descriptors tell, from the array's end on, with their payload bytes at their addresses
abbrev pub blocks_of : List ℕ → ℕ → List Block
blocks_of raw k = told_from (length raw / 8) raw 0 k
