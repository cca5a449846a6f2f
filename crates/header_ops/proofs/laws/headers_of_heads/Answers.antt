use Rattle.header_ops.proofs.Heads.{fulls-head_blocks, values-head_blocks, matching-head_blocks}
use Rattle.header_ops.proofs.laws.headers_of_heads.Goals as goal

pub returns : goal.returns
returns c = record { fulls = fulls-head_blocks; values = values-head_blocks; matching = matching-head_blocks }
