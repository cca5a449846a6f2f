use Rattle.px_explain.proofs.Lines.{lines_are_steps}
use Rattle.px_explain.proofs.laws.lines_are_steps.Goals as goal

pub returns : goal.returns
returns c = lines_are_steps
