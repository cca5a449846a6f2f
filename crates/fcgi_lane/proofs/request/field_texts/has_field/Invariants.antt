use Rattle.std.proofs.Common.{◌≡◌, drop}
use Rattle.http_model.specs.Fields.{has_field}
use Rattle.fcgi_lane.specs.Request.Texts.{shown_fields}
use Rattle.fcgi_lane.proofs.request.field_texts.has_field.Given as goal

abbrev pub invariant-loop-field : goal.invariant-loop-field
invariant-loop-field l = has_field l.name (shown_fields (drop l.field-index l.fields)) ≡ has_field l.name (shown_fields l.fields)
