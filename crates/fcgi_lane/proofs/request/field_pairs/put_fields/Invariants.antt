use Rattle.std.proofs.Common.{◌≡◌, [], take, drop}
use Rattle.fcgi_lane.specs.Request.Texts.{shown_fields}
use Rattle.fcgi_model.specs.Pairs.{field_pairs}
use Rattle.fcgi_model.specs.Records.{put_all}
use Rattle.fcgi_lane.proofs.request.field_pairs.put_fields.Given as goal

abbrev pub invariant-loop-i : goal.invariant-loop-i
invariant-loop-i l = put_all l.writer (field_pairs (shown_fields (take l.i l.fields)) (shown_fields (drop l.i l.fields))) ≡ put_all l.fn.writer (field_pairs [] (shown_fields l.fields))
