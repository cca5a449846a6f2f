use Rattle.std.proofs.Common.{◌≡◌, ◌++◌, drop}
use Rattle.fcgi_lane.specs.Request.Texts.{shown_fields}
use Rattle.fcgi_model.specs.Pairs.{later_values}
use Rattle.fcgi_lane.proofs.request.variables.push_later.Given as goal

abbrev pub invariant-loop-field : goal.invariant-loop-field
invariant-loop-field l = l.text.items ++ later_values l.name (shown_fields (drop l.field-index l.fields)) ≡ l.fn.text.items ++ later_values l.name (shown_fields l.fields)
