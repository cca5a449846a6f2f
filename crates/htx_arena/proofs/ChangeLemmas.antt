-- When a block fits that a call puts in the place of one.
use Rattle.std.proofs.Common.{◌≡◌, ℕ, ◌+◌, ◌<◌, ◌≤◌, List, length, set, arith}
use Rattle.std.specs.Prelude.{◌↔◌}
use Rattle.htx_model.specs.Block.{Block, payload_len}
use Rattle.htx_model.specs.Blocks.{Fits, load, block_at}
use Rattle.htx_model.proofs.PublicLaws.{load-set}

-- where its payload is within the room and the old payload
pub set-fits : (size : ℕ) (blocks : List Block) (i room m : ℕ) (b : Block) → i < length blocks → room + load blocks ≡ size → payload_len b ≡ m → Fits (set blocks i b) size ↔ (m ≤ room + payload_len (block_at blocks i))
set-fits size blocks i room m b h free len = let change = load-set blocks i b h in (λ fits. omega arith, λ less. omega arith)
