-- A head that stands in an array.
use Rattle.std.proofs.Common.{List, ℕ, [], Bool, Option, sym, ◌∙◌}
use Rattle.std.proofs.lemmas.List.{append-nil}
use Rattle.htx_model.specs.Block.{Block}
use Rattle.http_model.specs.Head.{head_blocks}
use Rattle.http_model.specs.declared.Framing.{Framing}
use Rattle.http_model.specs.declared.Limits.{Limits}
use Rattle.h1_head.specs.Answers.{Keeps}
use Rattle.h1_head.specs.Kind.{HeadKind}
use Rattle.http_rules.specs.Run.{IsHead}
use Rattle.http_rules.specs.Action.Outcome.{IsFront}

-- what was read is a head
pub kept_head : (K : HeadKind) (limits : Limits) (whole : Bool) (window : List ℕ) (blocks : List Block) (used : ℕ) (framing : Framing) (declared : Option ℕ) (close : Bool)
    → Keeps K limits whole window blocks used framing declared close → IsHead blocks
kept_head K limits whole window blocks used framing declared close k = (k.head, k.blocks_are)

-- a head has no body behind it
pub head_front : (blocks : List Block) → IsHead blocks → IsFront blocks
head_front blocks h = (h.0, [], h.1 ∙ sym (append-nil (head_blocks h.0)))

pub ruleset heads = (kept_head, head_front)
