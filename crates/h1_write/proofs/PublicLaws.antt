-- The public laws of what a writer has written.
use Rattle.std.proofs.Common.{◌≡◌, ℕ, List, Bool, true, false, [], ◌++◌}
use Rattle.htx_model.specs.Block.{Block}
use Rattle.htx_model.specs.Blocks.{flow}
use Rattle.http_model.specs.declared.Framing.{Framing}
use Rattle.http_model.specs.Head.{Message, message_blocks, front_blocks}
use Rattle.http_model.specs.Spelling.{Spells}
use Rattle.h1_write.specs.declared.writer.Writer.{Writer}
use Rattle.h1_write.specs.Spelled.{HasWritten, is_done, IsEven, has_ended}
use Rattle.h1_write.specs.Kept.{KeepsFront}
use Rattle.h1_write.proofs.Told as telling

-- Once all was written the text spells the message of the blocks that were taken.
pub whole_told : (framing : Framing) (no_body : Bool) (taken left : List Block) (text : List ℕ) (writer : Writer) (m : Message) → HasWritten framing no_body taken left text writer → is_done writer ≡ true → m.framing ≡ framing → flow taken ≡ message_blocks m → Spells true no_body m text
whole_told = telling.whole_told

-- Where the end never comes, and nothing is begun that isn't whole, the text spells the message that is cut behind the data taken.
pub cut_told : (framing : Framing) (no_body : Bool) (taken left : List Block) (text : List ℕ) (writer : Writer) (m : Message) → HasWritten framing no_body taken left text writer → IsEven writer → is_done writer ≡ false → m.framing ≡ framing → flow taken ≡ front_blocks m.head m.body → Spells false no_body m text
cut_told = telling.cut_told

-- At every moment the text is the front of a spelling of each message whose blocks go on so.
pub front_told : (framing : Framing) (no_body : Bool) (taken left more : List Block) (text : List ℕ) (writer : Writer) (m : Message) → HasWritten framing no_body taken left text writer → (has_ended writer ≡ true → more ≡ []) → m.framing ≡ framing → flow (taken ++ (left ++ more)) ≡ message_blocks m
    → (rest : List ℕ) × Spells true no_body m (text ++ rest)
front_told = telling.front_told

-- Until the end was written, the text is the front of a spelling of each cut message whose blocks go on so.
pub cut_front_told : (framing : Framing) (no_body : Bool) (taken left more : List Block) (text : List ℕ) (writer : Writer) (m : Message) → HasWritten framing no_body taken left text writer → has_ended writer ≡ false → m.framing ≡ framing
    → flow (taken ++ (left ++ more)) ≡ front_blocks m.head m.body → (rest : List ℕ) × Spells false no_body m (text ++ rest)
cut_front_told = telling.cut_front_told

-- Blocks may come behind those that are left, and data behind the last of them.
pub grown_told : (framing : Framing) (no_body : Bool) (taken left grown : List Block) (text : List ℕ) (writer : Writer) → HasWritten framing no_body taken left text writer → has_ended writer ≡ false → KeepsFront left grown → HasWritten framing no_body taken grown text writer
grown_told = telling.grown_told
