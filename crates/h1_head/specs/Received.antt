-- What holds of each head that is received.
use Rattle.std.specs.Prelude.{◌≡◌, ◌-◌, ◌≤◌, length, All}
use Rattle.std.specs.Str.{str_to_ascii_lowercase}
use Rattle.httparse.specs.Grammar.{AllPass, is_value_byte}
use Rattle.htx_model.specs.Blocks.{load}
use Rattle.http_model.specs.declared.Limits.{Limits}
use Rattle.http_model.specs.Head.{Field, Head, head_blocks}
use Rattle.px_bytes.specs.Blanks.{trimmed}
use Rattle.http_model.specs.Sizes.{most_name}
use Rattle.h1_head.specs.Numbers.{most_fields}
use Rattle.h1_head.specs.Kind.{HeadKind}

-- a field's name is 1 to 255 bytes in lower case, and its value has no blanks around it and no control byte but tabs
pub record IsReceivedField (field : Field) : Type 0 where
  pub named : 1 ≤ length field.0
  pub short : length field.0 ≤ most_name
  pub lower : str_to_ascii_lowercase field.0 ≡ field.0
  pub trim : trimmed field.1 ≡ field.1
  pub clean : AllPass is_value_byte field.1

-- a start line of its kind, at most 256 such fields, and room left for rules
pub record IsReceived (K : HeadKind) (limits : Limits) (head : Head) : Type 0 where
  pub line : K.IsLine head.line
  pub few : length head.fields ≤ most_fields
  pub fields : All IsReceivedField head.fields
  pub light : load (head_blocks head) ≤ limits.bufsize - limits.maxrewrite
