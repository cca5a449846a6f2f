use Rattle.std.proofs.Common.{◌∙◌}
use Rattle.forward_core.proofs.joined.sides.DirectionsWorks.keeps.Goals as goal

pub returns : goal.returns
returns c = λ settings p s. c.keeps.ensures ∙ s.directions.answer.asks.keep
