use Rattle.std.proofs.Common.{◌≡◌, drop}
use Rattle.fcgi_lane.specs.Request.Texts.{shown_fields}
use Rattle.fcgi_model.specs.Pairs.{param_pairs}
use Rattle.fcgi_model.specs.Records.{put_all}
use Rattle.fcgi_lane.proofs.request.param_pairs.put_params.Given as goal

abbrev pub invariant-loop-at : goal.invariant-loop-at
invariant-loop-at l = put_all l.writer (param_pairs (drop l.at l.names) (shown_fields l.fields)) ≡ put_all l.fn.writer (param_pairs l.names (shown_fields l.fields))
