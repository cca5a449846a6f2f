-- What an action leaves in the array and in the variables, and what one that answers does.
use Rattle.std.specs.Prelude.{◌≡◌, ℕ, List, []}
use Rattle.http_model.specs.Block.{Block}
use Rattle.http_model.specs.Head.{message_blocks}
use Rattle.px_sample.specs.Variables.{Variables}
use Rattle.http_rules.specs.declared.action.side.Side.{Side}
use Rattle.http_rules.specs.declared.action.stepped.Stepped.{Stepped}
use Rattle.http_rules.specs.declared.action.stepped.Stepped.TheVariants as steps
use Rattle.http_rules.specs.declared.action.act.Acted.{Acted}
use Rattle.http_rules.specs.declared.action.act.Acted.TheVariants as acted
use Rattle.http_rules.specs.Action.Given.{Env}
use Rattle.http_rules.specs.Action.Acts.{Act, Next, Stop, Replies, Denies, Fails}
use Rattle.http_rules.specs.Action.Outcome.{IsAt}

-- what a step means for its action
abbrev pub acted_by : Stepped → Acted
acted_by steps.Done = acted.Next
acted_by (steps.Failed why) = acted.Failed why

-- An action that does not answer came to this: the array and the variables hold the environment of that moment.
abbrev pub Does : Side → Env → Act → Acted → List Block → Variables → Type 0
Does side env (Next next) acted.Next blocks vars = IsAt side next blocks vars
Does side env Stop acted.Stop blocks vars = IsAt side env blocks vars
Does side env (Denies code) (acted.Deny told) blocks vars = (told ≡ code) × IsAt side env blocks vars
Does side env (Fails why left) (acted.Failed told) blocks vars = (told ≡ why) × IsAt side left blocks vars
Does side env act done blocks vars = ⊥

-- One that answers came to this: its reply stands in an array of its own, which is empty where it fails. All else stays.
abbrev pub Replied : Env → Act → Stepped → (reply : List Block) → Type 0
Replied env (Replies m) steps.Done reply = reply ≡ message_blocks m
Replied env (Fails why left) (steps.Failed told) reply = (told ≡ why) × (left ≡ env) × (reply ≡ [])
Replied env act step reply = ⊥
