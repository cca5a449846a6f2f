-- What was found at the front of a stream, with the blocks of its head in an array.
use Rattle.std.specs.Prelude.{◌≡◌, ℕ, ◌≤◌, List, length, drop, false}
use Rattle.http_model.specs.Block.{Block}
use Rattle.http_model.specs.declared.Limits.{Limits}
use Rattle.http_model.specs.Head.{Head, head_blocks}
use Rattle.http_model.specs.Reading.{Received}
use Rattle.http_model.specs.Reading as reading
use Rattle.h1_head.specs.Kind.{HeadKind}
use Rattle.h1_head.specs.Stream.{HeadOf}
use Rattle.h1_head.specs.Response.{ResponseOf}
use Rattle.session_model.specs.Meaning.{is_interim}
use Rattle.session_model.specs.Asking.{Asker}
use Rattle.session_model.specs.Answering.{BeginsWithInterim}
use Rattle.http_rules.specs.declared.config.Config.{Config}
use Rattle.forward_core.specs.Meaning.Product.{meaning_of}
use Rattle.px_explain.specs.declared.heads.Found.{Found}
use Rattle.px_explain.specs.declared.heads.Found.TheVariants as found
use Rattle.px_explain.specs.declared.heads.Head.{Head as FoundHead}

-- the head that was received stands in these blocks, and what is kept of it is its own
pub record StandsAs (received : Received) (head : FoundHead) (blocks : List Block) : Type 0 where
  pub blocks_are : blocks ≡ head_blocks received.head
  pub framing : head.framing ≡ received.framing
  pub declared : head.declared ≡ received.declared
  pub close : head.close ≡ received.close

-- the stream begins with this head
pub record BeginsAt (K : HeadKind) (limits : Limits) (stream : List ℕ) (head : FoundHead) (blocks : List Block) : Type 0 where
  pub received : Received
  pub stands : StandsAs received head blocks
  pub within : head.used ≤ length stream
  pub reads : HeadOf K limits stream (reading.Begins received (drop head.used stream))

-- the stream's reading is this
abbrev pub IsFound : HeadKind → Limits → (stream : List ℕ) → Found → List Block → Type 0
IsFound K limits stream found.Nothing blocks = HeadOf K limits stream reading.Nothing
IsFound K limits stream (found.Refused code) blocks = HeadOf K limits stream (reading.Refused code)
IsFound K limits stream (found.Head head) blocks = BeginsAt K limits stream head blocks

-- the reading of what stands behind interim heads is this, and no interim head
abbrev pub IsLast : Config → Asker → Found → List Block → (rest : List ℕ) → Type 0
IsLast cfg asker found.Nothing blocks rest = ResponseOf asker.head_asked cfg.limits rest reading.Nothing
IsLast cfg asker (found.Refused code) blocks rest = ResponseOf asker.head_asked cfg.limits rest (reading.Refused code)
IsLast cfg asker (found.Head head) blocks rest =
    (received : Received) × StandsAs received head blocks × (is_interim received.head ≡ false)
    × (behind : List ℕ) × ResponseOf asker.head_asked cfg.limits rest (reading.Begins received behind)

-- interim heads stand in front of it
abbrev pub IsFoundFinal : Config → Asker → (stream : List ℕ) → Found → List Block → Type 0
IsFoundFinal cfg asker stream found blocks =
    (heads : List Head) × BeginsWithInterim (meaning_of cfg) asker heads stream (IsLast cfg asker found blocks)
