-- Messages that are said as the blocks of one list.
use Rattle.std.specs.Prelude.{◌≡◌, ℕ, List, [], true, ⊤}
use Rattle.http_model.specs.declared.Framing.{Framing}
use Rattle.http_model.specs.declared.Framing.TheVariants.{Absent, Length, Chunked, ToClose}
use Rattle.http_model.specs.Head.{Message}
use Rattle.forward_core.specs.Answer.Status.{is_status_line}

-- the body of such a message is sent as it is
abbrev pub IsSentAsItIs : Framing → (body : List ℕ) → Type 0
IsSentAsItIs Absent body = body ≡ []
IsSentAsItIs (Length n) body = ⊤
IsSentAsItIs ToClose body = ⊤
IsSentAsItIs Chunked body = ⊥

-- a refusal or a reply: a response without trailers and chunks
pub record IsListed (m : Message) : Type 0 where
  pub line : is_status_line m.head.line ≡ true
  pub trailers : m.trailers ≡ []
  pub framed : IsSentAsItIs m.framing m.body
