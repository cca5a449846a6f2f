use Rattle.std.proofs.Common.{◌≡◌, drop}
use Rattle.fcgi_model.specs.Head.{first_value}
use Rattle.fcgi_lane.specs.Request.Texts.{shown_fields}
use Rattle.fcgi_lane.proofs.request.field_texts.first_value.Given as goal

abbrev pub invariant-loop-field : goal.invariant-loop-field
invariant-loop-field l = first_value l.name (shown_fields (drop l.field-index l.fields)) ≡ first_value l.name (shown_fields l.fields)
