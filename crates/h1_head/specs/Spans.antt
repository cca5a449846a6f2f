-- What the spans of the parser cover.
use Rattle.std.specs.Prelude.{ℕ, ◌≤◌, ◌<◌, List, length, map, filter, All}
use Rattle.httparse.specs.declared.spans.HeaderSpan.{HeaderSpan}
use Rattle.httparse.specs.declared.spans.RequestSpans.{RequestSpans}
use Rattle.httparse.specs.declared.spans.ResponseSpans.{ResponseSpans}
use Rattle.httparse.specs.Spans.{IsWithin, IsHeaderWithin, span_bytes, header_bytes}
use Rattle.htx_model.specs.Block.{Block}
use Rattle.http_model.specs.Head.{Field, header_block}
use Rattle.http_model.specs.Sizes.{most_name}
use Rattle.h1_head.specs.Numbers.{most_fields}
use Rattle.h1_head.specs.Rows.{Parts, ResponseParts, is_kept, folded}

-- the parts of a head that the spans cover
abbrev pub span_parts : List ℕ → RequestSpans → List HeaderSpan → Parts
span_parts text head fields =
    record {
      method = span_bytes text head.method;
      target = span_bytes text head.path;
      minor = head.version;
      fields = map (header_bytes text) fields;
    }

-- the parts of a response head that the spans cover
abbrev pub response_span_parts : List ℕ → ResponseSpans → List HeaderSpan → ResponseParts
response_span_parts text head fields =
    record {
      minor = head.version;
      status = head.code;
      reason = span_bytes text head.reason;
      fields = map (header_bytes text) fields;
    }

-- a field's name has a byte at least
abbrev pub IsNamed : Field → Type 0
IsNamed field = 1 ≤ length field.0

-- the span of a name covers 1 to 255 bytes
pub record HasGoodName (text : List ℕ) (field : HeaderSpan) : Type 0 where
  pub named : 1 ≤ length (span_bytes text field.name)
  pub short : length (span_bytes text field.name) ≤ most_name

-- the spans of the fields lie in the text, each name has a byte, and there are at most 256
pub record AreFieldsGood (text : List ℕ) (fields : List HeaderSpan) : Type 0 where
  pub fields_in : All (IsHeaderWithin (length text)) fields
  pub named : All IsNamed (map (header_bytes text) fields)
  pub few : length fields ≤ most_fields

-- the spans of a request head lie in the text too
pub record AreSpansGood (text : List ℕ) (head : RequestSpans) (fields : List HeaderSpan) : Type 0 where
  pub method : IsWithin (length text) head.method
  pub target : IsWithin (length text) head.path
  pub version : head.version ≤ 1
  pub named : AreFieldsGood text fields

-- and those of a response head
pub record AreResponseSpansGood (text : List ℕ) (head : ResponseSpans) (fields : List HeaderSpan) : Type 0 where
  pub reason : IsWithin (length text) head.reason
  pub version : head.version ≤ 1
  pub code : head.code < 1000
  pub named : AreFieldsGood text fields

-- the blocks of the fields that stay
abbrev pub received_fields : List Field → List Block
received_fields fields = map header_block (map folded (filter (is_kept fields) fields))
