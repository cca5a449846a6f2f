-- The head of a record (FastCGI 1.0 section 3.3).
use Rattle.std.specs.Prelude.{ℕ, ◌<◌, ◌^◌, ◌==◌, if◌then◌else◌, List, [], ◌∷◌, ◌++◌, get_or, take, drop, Option, Some, None}
use Rattle.std.specs.Int.{w16, to_be_bytes, from_be_bytes}
use Rattle.fcgi_record.specs.declared.record_head.RecordHead.{RecordHead}

-- version 1, kind, request, length of the content and of the padding, and the reserved byte
abbrev pub head_bytes : RecordHead → (reserved : ℕ) → List ℕ
head_bytes head reserved = 1 ∷ head.kind ∷ (to_be_bytes w16 head.id ++ (to_be_bytes w16 head.len ++ head.pad ∷ reserved ∷ []))

-- the numbers that a head can hold
pub record FitsHead (head : RecordHead) : Type 0 where
  pub kind : head.kind < 256
  pub id : head.id < 2 ^ 16
  pub len : head.len < 2 ^ 16
  pub pad : head.pad < 256

-- the head that eight bytes are; none where the version isn't 1
abbrev pub head_of : List ℕ → Option RecordHead
head_of bytes =
    if get_or bytes 0 0 == 1
    then Some (record {
      kind = get_or bytes 1 0;
      id = from_be_bytes w16 (take 2 (drop 2 bytes));
      len = from_be_bytes w16 (take 2 (drop 4 bytes));
      pad = get_or bytes 6 0;
    })
    else None

-- each is a byte
abbrev pub AreBytes : List ℕ → Type 0
AreBytes bytes = (i : ℕ) → get_or bytes i 0 < 256
