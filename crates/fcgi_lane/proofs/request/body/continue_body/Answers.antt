use Rattle.std.proofs.Common.{sym, ◌∙◌}
use Rattle.fcgi_lane.specs.Request.Stages.{place_of}
use Rattle.fcgi_lane.proofs.RequestLemmas.Bodies.{continues_whole}
use Rattle.fcgi_lane.proofs.request.body.continue_body.Goals as goal

pub returns-then-is_whole-clause-continues : goal.returns-then-is_whole-clause-continues
returns-then-is_whole-clause-continues c =
    continues_whole (place_of c.args.stage) c.args.bytes.now c.new-made.result.items (sym c.is_whole.ensures ∙ c.if-is_whole.true) c.new-made.ensures.items
