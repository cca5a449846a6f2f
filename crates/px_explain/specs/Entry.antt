-- What is told of one rule that is reached.
use Rattle.std.specs.Prelude.{ℕ, List, Option}
use Rattle.http_model.specs.Block.{Block}
use Rattle.px_explain.specs.declared.trace.TraceLine.{TraceLine}

-- its line, the load that it would have needed where that is told, and the blocks that it leaves in an array of this size
pub record TraceEntry : Type 0 where
  pub line : TraceLine
  pub wanted : Option ℕ
  pub size : ℕ
  pub left : List Block

abbrev pub line_in : TraceEntry → TraceLine
line_in entry = entry.line
