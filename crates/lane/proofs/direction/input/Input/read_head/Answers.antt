use Rattle.std.proofs.Common.{ℕ, List, ◌++◌, ◌∙◌, ap, subst}
use Rattle.wire_buf.specs.Buffer.{Buffer}
use Rattle.http_model.specs.Reading.{Refused}
use Rattle.h1_head.specs.Answers.{IfRefuse}
use Rattle.h1_head.specs.Decides.{OnEachStream}
use Rattle.h1_head.specs.Sides.{kind_of}
use Rattle.h1_head.specs.Stream.{HeadOf}
use Rattle.lane.proofs.direction.input.Input.read_head.Goals as goal

pub returns-clause-refused : goal.returns-clause-refused
returns-clause-refused c =
    subst (λ (w : List ℕ). IfRefuse c.read_grown_head.result (λ code why. OnEachStream c.args.whole (λ more. HeadOf (kind_of c.args.side) c.args.limits (w ++ more) (Refused code))))
    (c.bytes.ensures.value ∙ ap (λ (b : Buffer ℕ). b.items) c.self.view_is) c.read_grown_head.ensures.refused
