-- What stands between the reader of a body and the text that is put out.
use Rattle.std.specs.Prelude.{◌≡◌, ℕ, List, [], ◌++◌, true, false}
use Rattle.htx_model.specs.Block.{Block}
use Rattle.htx_model.specs.Blocks.{flow}
use Rattle.http_model.specs.Head.{Field}
use Rattle.h1_body.specs.Section.{HasTrailers}
use Rattle.h1_write.specs.declared.writer.Writer.{Writer}
use Rattle.h1_write.specs.Spelled.{HasWritten, has_ended, is_done, IsEven}
use Rattle.http_model.specs.Head.{front_blocks, message_blocks}
use Rattle.lane.specs.Direction.Sent.{Sent, message_of}
use Rattle.http_model.specs.declared.Source.{Source}
use Rattle.http_model.specs.declared.Source.TheVariants as source

-- The writer has put out this text, behind what stood before it; the blocks that it took, those that are left for it and those behind them are
-- these blocks, but for bounds between data.
pub record Carried (w : Writer) (s : Sent) (put : List ℕ) (left msg all : List Block) : Type 0 where
  pub taken : List Block
  pub text : List ℕ
  pub has : HasWritten s.framing s.no_body taken left text w
  pub put_is : put ≡ s.before ++ text
  pub flows : flow (taken ++ (left ++ msg)) ≡ all

-- the head and the data that came, with no end
abbrev pub CarriesFront : Writer → Sent → (found put : List ℕ) → (left msg : List Block) → Type 0
CarriesFront w s found put left msg = (has_ended w ≡ false) × Carried w s put left msg (front_blocks s.head found)

-- by what the source says, the message that came: its front, or all of it
abbrev pub Carries : Source → Writer → Sent → (found section put : List ℕ) → (left msg : List Block) → Type 0
Carries source.Going w s found section put left msg = CarriesFront w s found put left msg
Carries source.Whole w s found section put left msg =
    (trailers : List Field) × HasTrailers section trailers × Carried w s put left msg (message_blocks (message_of s found trailers)) × (has_ended w ≡ true → msg ≡ [])
Carries (source.Cut code) w s found section put left msg = CarriesFront w s found put left msg

-- the end of the text is out, where the source says which it is
abbrev pub EndIsOut : Source → Writer → Type 0
EndIsOut source.Going w = Unit {0}
EndIsOut source.Whole w = is_done w ≡ true
EndIsOut (source.Cut code) w = IsEven w
