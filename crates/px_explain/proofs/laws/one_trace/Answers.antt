use Rattle.px_explain.proofs.Once.{told_once}
use Rattle.px_explain.proofs.laws.one_trace.Goals as goal

pub returns : goal.returns
returns c = λ cfg visit a b x y. told_once cfg c.one_reading.ensures visit a b x y
