-- What a stream says to a reader of heads, and to a reader of bodies.
use Rattle.std.specs.Prelude.{ℕ, List, Bool, Option}
use Rattle.http_model.specs.declared.Framing.{Framing}
use Rattle.http_model.specs.Head.{Field, Head}

-- what is kept of a head that was received: its fields, how its body is framed, the length that a field declares,
-- and whether a Connection element is `close`
pub record Received : Type 0 where
  pub head : Head
  pub framing : Framing
  pub declared : Option ℕ
  pub close : Bool

-- what a whole stream begins with: empty lines alone, a head that is refused, or one that is kept, and what follows it
pub data HeadReading : Type 0 where
  Nothing : HeadReading
  Refused : (code : ℕ) → HeadReading
  Begins : Received → (rest : List ℕ) → HeadReading

-- what a whole stream has in a body's place: all of it and what follows, or the bytes that came before the stream broke
-- off, or before the first byte after which nothing is a body
pub data BodyReading : Type 0 where
  Whole : (body : List ℕ) → (trailers : List Field) → (rest : List ℕ) → BodyReading
  Broke : (body : List ℕ) → BodyReading
  Bad : (body : List ℕ) → BodyReading
