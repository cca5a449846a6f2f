use Rattle.header_ops.proofs.Heads.{HasEnd-head_blocks, without-head_blocks, with-head_blocks, set-head_blocks, framing-head_blocks}
use Rattle.header_ops.proofs.laws.edits_of_heads.Goals as goal

pub returns : goal.returns
returns c = record { end = HasEnd-head_blocks; remove = without-head_blocks; add = with-head_blocks; set = set-head_blocks; strip = framing-head_blocks }
