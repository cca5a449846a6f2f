-- What one rule leaves in arrays and variables, as it is told.
use Rattle.std.specs.Prelude.{◌≡◌, List, []}
use Rattle.http_model.specs.Block.{Block}
use Rattle.px_sample.specs.Variables.{Variables}
use Rattle.http_rules.specs.declared.action.side.Side.{Side}
use Rattle.http_rules.specs.declared.turn.Turned.{Turned}
use Rattle.http_rules.specs.declared.turn.Turned.TheVariants.{Goes, Ends}
use Rattle.http_rules.specs.Action.Outcome.{IsAt}
use Rattle.http_rules.specs.Steps.{Course, Onward, Over}
use Rattle.http_rules.specs.Run.{Leaves}

-- It is told as it is meant. Where the next rule runs, the array and the variables are the environment that it runs on, and there is no
-- reply; where no other one does, they are as behind a run with this verdict.
abbrev pub StepLeaves : Side → Course → Turned → List Block → Variables → (reply : List Block) → Type 0
StepLeaves side (Onward meant strict next) (Goes told mode) blocks vars reply =
    (told ≡ meant) × (mode ≡ strict) × IsAt side next blocks vars × (reply ≡ [])
StepLeaves side (Over meant comes) (Ends told verdict) blocks vars reply = (told ≡ meant) × Leaves side comes verdict blocks vars reply
StepLeaves side (Onward meant strict next) (Ends told verdict) blocks vars reply = ⊥
StepLeaves side (Over meant comes) (Goes told mode) blocks vars reply = ⊥
