-- What an answer of the reader says.
use Rattle.std.specs.Prelude.{◌≡◌, ℕ, ◌≤◌, List, ◌++◌, Bool, Option, Result, Ok, ⊤, drop, length}
use Rattle.htx_model.specs.Block.{Block}
use Rattle.http_model.specs.declared.Framing.{Framing}
use Rattle.http_model.specs.declared.Limits.{Limits}
use Rattle.http_model.specs.Head.{Head, head_blocks}
use Rattle.http_model.specs.Reading.{Received, Begins}
use Rattle.h1_head.specs.declared.answer.HeadRead.{HeadRead}
use Rattle.h1_head.specs.declared.answer.HeadRead.TheVariants as answer
use Rattle.h1_head.specs.declared.answer.HeadWhy.{HeadWhy}
use Rattle.h1_head.specs.Kind.{HeadKind, request_heads}
use Rattle.h1_head.specs.Stream.{HeadOf}
use Rattle.h1_head.specs.Decides.{OnEachStream}
use Rattle.h1_head.specs.Received.{IsReceived}

-- P of the bytes to skip, where more is asked for
abbrev pub IfMore : HeadRead → (ℕ → Type 0) → Type 0
IfMore (answer.More skip) P = P skip
IfMore (answer.Head used framing declared close) P = ⊤
IfMore (answer.Refuse code why) P = ⊤

-- P of the bytes used, the framing, the declared length and the mark to close, where there is a head
abbrev pub IfHead : HeadRead → (ℕ → Framing → Option ℕ → Bool → Type 0) → Type 0
IfHead (answer.More skip) P = ⊤
IfHead (answer.Head used framing declared close) P = P used framing declared close
IfHead (answer.Refuse code why) P = ⊤

-- P of the code and the reason, where it is refused
abbrev pub IfRefuse : HeadRead → (ℕ → HeadWhy → Type 0) → Type 0
IfRefuse (answer.More skip) P = ⊤
IfRefuse (answer.Head used framing declared close) P = ⊤
IfRefuse (answer.Refuse code why) P = P code why

-- P, where there is no head
abbrev pub UnlessHead : HeadRead → Type 0 → Type 0
UnlessHead (answer.More skip) P = P
UnlessHead (answer.Head used framing declared close) P = ⊤
UnlessHead (answer.Refuse code why) P = P

-- The blocks are those of a received head, which each stream that begins with the window begins with; what follows it
-- there stands behind the bytes used.
pub record Keeps
    (K : HeadKind) (limits : Limits) (whole : Bool) (window : List ℕ) (blocks : List Block)
    (used : ℕ) (framing : Framing) (declared : Option ℕ) (close : Bool) : Type 0 where
  pub head : Head
  pub blocks_are : blocks ≡ head_blocks head
  pub within : used ≤ length window
  pub begins : OnEachStream whole (λ more. HeadOf K limits (window ++ more)
      (Begins (record { head = head; framing = framing; declared = declared; close = close }) (drop used window ++ more)))
  pub received : IsReceived K limits head

-- the same of a request
abbrev pub KeepsHead : Limits → (whole : Bool) → (window : List ℕ) → List Block → (used : ℕ) → Framing → Option ℕ → Bool → Type 0
KeepsHead limits whole window blocks used framing declared close = Keeps request_heads limits whole window blocks used framing declared close

-- the decision keeps a head whose blocks these are
abbrev pub IsKept : Result Received HeadWhy → List Block → Framing → Option ℕ → Bool → Type 0
IsKept decision blocks framing declared close =
    (head : Head) × (blocks ≡ head_blocks head)
    × (decision ≡ Ok (record { head = head; framing = framing; declared = declared; close = close }))
