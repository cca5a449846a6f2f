-- What the lent parts of a head show.
use denote.Ref.{Bor}
use Rattle.std.specs.Prelude.{ℕ, List, map}
use Rattle.http_model.specs.Head.{Field}
use Rattle.fcgi_model.specs.Head.{RequestHead}
use Rattle.fcgi_lane.specs.declared.request.field_texts.FieldText.{FieldText}
use Rattle.fcgi_lane.specs.declared.request.head_reading.HeadText.{HeadText}

-- the bytes of a lent field
abbrev pub shown_field : FieldText → Field
shown_field field = (field.name.now, field.value.now)

-- those of lent fields, in order
abbrev pub shown_fields : List FieldText → List Field
shown_fields fields = map shown_field fields

-- those of two lent texts
abbrev pub shown_pair : Bor (List ℕ) × Bor (List ℕ) → List ℕ × List ℕ
shown_pair texts = (texts.0.now, texts.1.now)

-- those of a lent head
abbrev pub shown_head : HeadText → RequestHead
shown_head head = record { method = head.method.now; target = head.target.now; fields = shown_fields head.fields.items }
