-- A stream in two parts.
use Rattle.std.specs.Prelude.{◌≡◌, ℕ, List}
use Rattle.session_model.specs.Stream.{Stream}
use Rattle.session_core.specs.History.{Coming, Continues, prepend}

-- what goes on from bytes in front of a stream is those bytes and what goes on from that stream
pub record Splits (used : List ℕ) (c : Coming) (s : Stream) : Type 0 where
  pub rest : Stream
  pub is : s ≡ prepend used rest
  pub continues : Continues c rest
