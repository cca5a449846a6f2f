use Rattle.std.proofs.Common.{ℕ, List}
use Rattle.http_model.specs.Block.{Block}
use Rattle.header_ops.proofs.Walking.{onwards_whole}
use Rattle.header_ops.proofs.walk.first_place.Goals as goal

pub returns-clause-whole : goal.returns-clause-whole
returns-clause-whole c = λ (name : List ℕ) (blocks : List Block). onwards_whole name blocks
