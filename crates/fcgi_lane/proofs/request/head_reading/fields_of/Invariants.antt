use Rattle.std.proofs.Common.{◌≡◌, ◌-◌, length}
use Rattle.fcgi_model.specs.Head.{fields_within}
use Rattle.fcgi_lane.specs.Request.Texts.{shown_fields}
use Rattle.fcgi_lane.proofs.RequestLemmas.Reading.{prepended}
use Rattle.fcgi_lane.proofs.request.head_reading.fields_of.Given as goal

abbrev pub invariant-loop-i : goal.invariant-loop-i
invariant-loop-i l = prepended (shown_fields l.fields.items) (fields_within (length l.fn.text - l.i) l.left) ≡ fields_within (length l.fn.text) l.fn.text
