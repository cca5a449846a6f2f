-- What contracts see of a lane.
use Rattle.std.specs.Prelude.{ℕ, Bool, Option}
use Rattle.http_model.specs.declared.Ending.{Ending}
use Rattle.http_model.specs.declared.Framing.{Framing}
use Rattle.http_model.specs.declared.Limits.{Limits}
use Rattle.htx_arena.specs.Layout.Contents.{Contents}
use Rattle.wire_buf.specs.Buffer.{Buffer}
use Rattle.lane.specs.declared.sieve.sieve.Sieve.{Sieve}
use Rattle.h1_body.specs.declared.reader.BodyReader.{BodyReader}
use Rattle.h1_write.specs.declared.writer.Writer.{Writer}
use Rattle.http_model.specs.declared.Source.{Source}
use Rattle.lane.specs.declared.direction.stage.Stage.{Stage}

-- A lane between two calls.
pub record LaneState : Type 0 where
  -- the limits that it was made with
  pub limits : Limits
  -- the bytes that came and were not used
  pub input : Buffer ℕ
  -- how their stream ended, where it has
  pub ended : Option Ending
  -- so many of those bytes were looked at, and hold no head
  pub scanned : ℕ
  -- the array on which rules run, and into which a body comes
  pub msg : Contents
  -- the array from which text is written
  pub out : Contents
  -- of the head that was read: how its body is framed, the length that a field declared, and whether its connection is to close
  pub framing : Framing
  pub declared : Option ℕ
  pub close : Bool
  -- how far the body was read, filtered and written
  pub reader : BodyReader
  pub sieve : Option Sieve
  pub writer : Writer
  -- the text that was put out and not taken
  pub output : Buffer ℕ
  -- where the lane stands, and the body of its message
  pub stage : Stage
  pub source : Source
  -- text is dropped
  pub dropped : Bool
