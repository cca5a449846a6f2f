-- Blocks that go from the front of one list to the end of another.
use Rattle.std.specs.Prelude.{◌≡◌, ℕ, zero, suc, ◌+◌, ◌-◌, ◌<◌, ◌≤◌, ◌⊎◌, List, [], ◌∷◌, ◌++◌, length, take, drop, sum_by, ⊤}
use Rattle.htx_model.specs.Block.{Block, Data, kind_of, payload_len, weight}
use Rattle.htx_model.specs.declared.Kind.TheVariants as kinds
use Rattle.htx_model.specs.Blocks.{load, append_data, block_at}
use Rattle.htx_model.specs.Flow.{put_behind, added, AreFilled}
use Rattle.htx_xfer.specs.declared.Copied.{Copied}

-- the payload bytes of blocks
abbrev pub payload : List Block → ℕ
payload blocks = sum_by payload_len blocks

-- the first n blocks, and of the next, if it is data, its first k bytes
abbrev pub front_of : List Block → ℕ → ℕ → List Block
front_of [] n k = []
front_of (Data p ∷ bs) zero (suc k) = Data (take (suc k) p) ∷ []
front_of (b ∷ bs) zero k = []
front_of (b ∷ bs) (suc n) k = b ∷ front_of bs n k

-- what stays behind them
abbrev pub rest_of : List Block → ℕ → ℕ → List Block
rest_of [] n k = []
rest_of (Data p ∷ bs) zero (suc k) = Data (drop (suc k) p) ∷ bs
rest_of (b ∷ bs) zero k = b ∷ bs
rest_of (b ∷ bs) (suc n) k = rest_of bs n k

-- the next block doesn't go: its payload passes what is left of the limit, or it doesn't fit; of data, its first byte
abbrev pub Stays : ℕ → ℕ → List Block → List Block → Type 0
Stays size left to [] = ⊤
Stays size left to (Data p ∷ bs) = (left ≡ 0) ⊎ (size < load (append_data to (take 1 p)))
Stays size left to (b ∷ bs) = (left < payload_len b) ⊎ (size < load (to ++ b ∷ []))

-- ---- what callers see

-- The longest front that limit and size allow goes behind the others: so many blocks, and of the next, if it is data, so
-- many bytes and not all.
pub record Moves (from : List Block) (size limit : ℕ) (to from' to' : List Block) (moved : ℕ) : Type 0 where
  pub count : ℕ
  pub part : ℕ
  pub left : from' ≡ rest_of from count part
  pub to_is : to' ≡ added to (front_of from count part)
  pub bytes : moved ≡ payload (front_of from count part)
  pub within : moved ≤ limit
  pub most : Stays size (limit - moved) to' from'

-- ---- inside

-- so many payload bytes of a block go behind the others: all, or of data as many as limit and size allow
pub record MovesBlock (b : Block) (size limit : ℕ) (to to' : List Block) (moved : ℕ) : Type 0 where
  pub within : moved ≤ limit
  pub most : moved ≤ payload_len b
  pub all : moved ≡ payload_len b → to' ≡ put_behind to b
  pub part : moved < payload_len b → (to' ≡ added to (front_of (b ∷ []) 0 moved)) × Stays size (limit - moved) to' (rest_of (b ∷ []) 0 moved)
  pub cut : moved < payload_len b → 0 < moved → kind_of b ≡ kinds.Data

-- what was copied is the longest front that limit and size allow
pub record Copies (from : List Block) (size limit : ℕ) (to to' : List Block) (copied : Copied) : Type 0 where
  pub count : copied.count ≤ length from
  pub cut : 0 < copied.part → (copied.count < length from) × (kind_of (block_at from copied.count) ≡ kinds.Data) × (copied.part < payload_len (block_at from copied.count))
  pub to_is : to' ≡ added to (front_of from copied.count copied.part)
  pub bytes : copied.bytes ≡ payload (front_of from copied.count copied.part)
  pub filled : AreFilled (front_of from copied.count copied.part)
  pub within : copied.bytes ≤ limit
  pub most : Stays size (limit - copied.bytes) to' (rest_of from copied.count copied.part)
  pub stuck : copied.count < length from → (limit < payload (take copied.count from) + payload_len (block_at from copied.count)) ⊎ (size < load (added to (take copied.count from)) + weight (block_at from copied.count))
