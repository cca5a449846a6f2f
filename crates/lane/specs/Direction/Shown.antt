-- A head that is put out alone: an interim response.
use Rattle.std.specs.Prelude.{◌≡◌, ℕ, List, ◌++◌, true}
use Rattle.htx_model.specs.Block.{Block}
use Rattle.htx_model.specs.Blocks.{flow}
use Rattle.http_model.specs.declared.Framing.TheVariants as framing
use Rattle.http_model.specs.Head.{Head, head_blocks}
use Rattle.h1_write.specs.declared.writer.Writer.{Writer}
use Rattle.h1_write.specs.Spelled.{HasWritten}
use Rattle.lane.specs.Direction.State.{LaneState}

-- of a head alone this text was put out, with these blocks left of it
pub record Shows (w : Writer) (head : Head) (text : List ℕ) (left : List Block) : Type 0 where
  pub taken : List Block
  pub has : HasWritten framing.Absent true taken left text w
  pub flows : flow (taken ++ left) ≡ head_blocks head

-- some text more is put out of whatever head it is
pub record Goes (old new : LaneState) : Type 0 where
  pub put : List ℕ
  pub window : new.output.items ≡ old.output.items ++ put
  pub shows : (head : Head) (text : List ℕ) → Shows old.writer head text old.out.blocks → Shows new.writer head (text ++ put) new.out.blocks
