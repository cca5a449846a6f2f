-- Blocks that `del-header` takes out.
use Rattle.std.specs.Prelude.{List, Bool, false, not, filter}
use Rattle.http_model.specs.Block.{Block, Header}
use Rattle.http_rules.specs.declared.rule.action.DelBy.{DelBy}
use Rattle.http_rules.specs.Action.Steps.{goes}

-- the block is a field that goes
abbrev pub is_going : DelBy → Block → Bool
is_going by (Header name value) = goes by (name, value)
is_going by block = false

-- each of them goes
abbrev pub without_going : DelBy → List Block → List Block
without_going by blocks = filter (λ block. not (is_going by block)) blocks
