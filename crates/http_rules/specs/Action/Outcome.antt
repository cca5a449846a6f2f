-- What a step leaves in an array and in the variables.
use Rattle.std.specs.Prelude.{◌≡◌, ℕ, ◌<◌, List, [], ◌∷◌, Bool, true, false, length, nat_le, Option, Some, None, Result, Ok, Err}
use Rattle.http_model.specs.declared.Why.{Why}
use Rattle.http_model.specs.declared.Why.TheVariants.{Room, Bytes}
use Rattle.http_model.specs.Block.{Block}
use Rattle.http_model.specs.Head.{Head, Message, front_blocks, message_blocks}
use Rattle.px_sample.specs.Buffer.{Buffer}
use Rattle.px_sample.specs.Variables.{Variables}
use Rattle.htx_arena.specs.declared.arena.Full.{Full}
use Rattle.http_rules.specs.declared.action.place.Place.{Place}
use Rattle.http_rules.specs.declared.action.scratch.Scratch.{Scratch}
use Rattle.http_rules.specs.declared.action.side.Side.{Side}
use Rattle.http_rules.specs.declared.action.side.Side.TheVariants.{Request, Answer}
use Rattle.http_rules.specs.declared.action.stepped.Stepped.{Stepped}
use Rattle.http_rules.specs.declared.action.stepped.Stepped.TheVariants.{Done, Failed}
use Rattle.http_rules.specs.Action.Given.{Env}
use Rattle.http_rules.specs.Action.Lines.{is_target}
use Rattle.http_rules.specs.Action.Acts.{left_by, Act, Next, Stop, Replies, Denies, Fails}

-- four buffers of this size
pub record IsScratch (size : ℕ) (scratch : Scratch) : Type 0 where
  pub text : scratch.text.cap ≡ size
  pub made : scratch.made.cap ≡ size
  pub buf : scratch.buf.cap ≡ size
  pub spare : scratch.spare.cap ≡ size

-- the environment is of a request, or of an answer to a request of this method
abbrev pub IsOn : Side → Env → Type 0
IsOn Request env = env.is_request ≡ true
IsOn (Answer method) env = (env.is_request ≡ false) × (env.method ≡ method.now)

-- the array holds the head of an environment with the body behind it, and the variables are its own
pub record IsAt (side : Side) (env : Env) (blocks : List Block) (vars : Variables) : Type 0 where
  pub on : IsOn side env
  pub blocks_are : blocks ≡ front_blocks env.head env.body
  pub vars_are : vars ≡ env.vars

-- a message that is read is that of an environment, and the variables beside it are its own
abbrev pub IsPlaceOf : Env → Place → Type 0
IsPlaceOf env place = IsAt place.setting.side env place.msg.now.blocks place.setting.vars.now

-- the blocks are those of a head, with a body or none behind it
abbrev pub IsFront : List Block → Type 0
IsFront blocks = (head : Head) × (body : List ℕ) × (blocks ≡ front_blocks head body)

-- the step that an edit was
abbrev pub step_by : {T : Type 0} → Result T Full → Stepped
step_by (Ok done) = Done
step_by (Err full) = Failed Room

-- The step is that of the definition on an environment: it leaves the environment that comes of it, or the one that it began
-- with where it fails.
abbrev pub Came : Side → Env → Result Env Why → Stepped → List Block → Variables → Type 0
Came side env (Ok next) Done blocks vars = IsAt side (left_by env next) blocks vars
Came side env (Ok next) (Failed reason) blocks vars = ⊥
Came side env (Err why) Done blocks vars = ⊥
Came side env (Err why) (Failed reason) blocks vars = (reason ≡ why) × IsAt side env blocks vars

-- the steps of an action are these on the environment that the first began with
abbrev pub Ran : Side → Act → Stepped → List Block → Variables → Type 0
Ran side (Next next) Done blocks vars = IsAt side next blocks vars
Ran side (Next next) (Failed reason) blocks vars = ⊥
Ran side (Fails why left) Done blocks vars = ⊥
Ran side (Fails why left) (Failed reason) blocks vars = (reason ≡ why) × IsAt side left blocks vars
Ran side Stop step blocks vars = ⊥
Ran side (Replies m) step blocks vars = ⊥
Ran side (Denies code) step blocks vars = ⊥

-- whether the text is within the buffer; where it is, it is held
pub record IsMade (size : ℕ) (text : List ℕ) (fits : Bool) (held : List ℕ) : Type 0 where
  pub within : nat_le (length text) size ≡ fits
  pub holds : fits ≡ true → held ≡ text

-- a target is held that may be sent, or it may not, or is longer than the buffer
abbrev pub IsTargetMade : (size : ℕ) → (target : List ℕ) → Stepped → (held : List ℕ) → Type 0
IsTargetMade size target Done held = (is_target target ≡ true) × (held ≡ target)
IsTargetMade size target (Failed Bytes) held = is_target target ≡ false
IsTargetMade size target (Failed Room) held = (is_target target ≡ true) × (size < length target)

-- what a reply came to, which stands in an array of its own
abbrev pub Answers : Result Message Why → Stepped → List Block → Type 0
Answers (Ok m) Done blocks = blocks ≡ message_blocks m
Answers (Ok m) (Failed reason) blocks = ⊥
Answers (Err why) Done blocks = ⊥
Answers (Err why) (Failed reason) blocks = (reason ≡ why) × (blocks ≡ [])
