-- Requests that can be read again from their spelling.
use Rattle.std.specs.Prelude.{◌≢◌, ℕ, ◌<◌, ◌^◌, List, length, codes}
use Rattle.std.specs.List.{AllByRecursion}
use Rattle.http_model.specs.Head.{Field, RequestLine}
use Rattle.http_model.specs.Spelling.{head_text}
use Rattle.fcgi_model.specs.Head.{RequestHead}

-- no end of a line
abbrev pub IsPlain : ℕ → Type 0
IsPlain b = (b ≢ 10) × (b ≢ 13)

-- bytes that stand in a line, with no byte of this kind among them
abbrev pub IsPlainBut : (stop : ℕ) → List ℕ → Type 0
IsPlainBut stop bytes = AllByRecursion (λ b. IsPlain b × (b ≢ stop)) bytes

-- no colon in its name
pub record IsPlainField (field : Field) : Type 0 where
  pub name : IsPlainBut 58 field.0
  pub value : AllByRecursion IsPlain field.1

-- no space in the method, and none in the target
pub record IsPlainHead (head : RequestHead) : Type 0 where
  pub method : IsPlainBut 32 head.method
  pub target : IsPlainBut 32 head.target
  pub fields : AllByRecursion IsPlainField head.fields

-- the one text of a head
abbrev pub spelling : RequestHead → List ℕ
spelling head = head_text (record { line = RequestLine head.method head.target (codes "HTTP/1.1"); fields = head.fields })

-- a chunk whose size is read
pub record IsChunk (chunk : List ℕ) : Type 0 where
  pub some : 0 < length chunk
  pub small : length chunk < 2 ^ 32
