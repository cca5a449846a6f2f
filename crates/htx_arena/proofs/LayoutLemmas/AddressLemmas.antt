-- Where a payload stands that replaces another.
use Rattle.std.proofs.Common.{◌≡◌, ℕ, ◌<◌, ◌≤◌, refl}
use Rattle.std.proofs.lemmas.Bool.{le-leb, lt-leb}
use Rattle.htx_model.specs.Block.{payload_len}
use Rattle.htx_model.specs.Blocks.{block_at}
use Rattle.htx_arena.specs.Layout.Contents.{Contents}
use Rattle.htx_arena.specs.Layout.Addresses.{placed_anew, replaced}

pub replaced-shorter : (s : Contents) (i len : ℕ) → len ≤ payload_len (block_at s.blocks i) → replaced s i len ≡ record { addrs = s.addrs; front = s.front }
replaced-shorter s i len h = rw (le-leb len (payload_len (block_at s.blocks i)) h) refl

pub replaced-longer : (s : Contents) (i len : ℕ) → payload_len (block_at s.blocks i) < len → replaced s i len ≡ placed_anew s i len
replaced-longer s i len h = rw (lt-leb len (payload_len (block_at s.blocks i)) h) refl
