-- What the array would have had to hold where a rule failed for want of room.
use Rattle.std.specs.Prelude.{◌≡◌, ℕ, ◌+◌, List, length, Bool, true, false, ◌==◌, nat_lt, if◌then◌else◌, Option, Some, None}
use Rattle.http_model.specs.Block.{Block}
use Rattle.http_model.specs.Blocks.{load}
use Rattle.http_model.specs.Head.{front_blocks, message_blocks}
use Rattle.http_model.specs.Refusal.{closing}
use Rattle.http_model.specs.Sizes.{most_size}
use Rattle.http_model.specs.declared.Why.{Why}
use Rattle.http_model.specs.declared.Why.TheVariants.{Room, Bytes}
use Rattle.header_ops.specs.Lists.{fulls_named}
use Rattle.http_rules.specs.declared.rule.action.Action.{Action}
use Rattle.http_rules.specs.declared.rule.action.Action.TheVariants as actions
use Rattle.http_rules.specs.declared.action.act.Acted.{Acted}
use Rattle.http_rules.specs.declared.action.act.Acted.TheVariants as acted
use Rattle.http_rules.specs.declared.action.stepped.Stepped.{Stepped}
use Rattle.http_rules.specs.declared.action.stepped.Stepped.TheVariants.{Done, Failed}
use Rattle.http_rules.specs.declared.step.Step.{Step}
use Rattle.http_rules.specs.declared.step.Step.TheVariants as steps
use Rattle.http_rules.specs.Action.Acts.{Act, Next, Stop, Replies, Denies, Fails, act}
use Rattle.http_rules.specs.Action.Given.{Env}

-- The action makes one edit, so that it needs one number. Fields of a name are replaced one by one, each on what came of those in front of
-- it: there must be one of them. Variables stand in no array.
abbrev pub is_one_edit : Action → List Block → Bool
is_one_edit (actions.ReplaceHeader name pat fmt) blocks = length (fulls_named name blocks) == 1
is_one_edit (actions.ReplaceValue name pat fmt) blocks = length (fulls_named name blocks) == 1
is_one_edit (actions.SetVar scope name expr) blocks = false
is_one_edit (actions.UnsetVar scope name) blocks = false
is_one_edit action blocks = true

-- What the message weighs that an action leaves, or its reply with `connection: close` behind the fields: that load must be within the array.
abbrev pub load_by : Act → Option ℕ
load_by (Next next) = Some (load (front_blocks next.head next.body))
load_by (Replies m) = Some (load (message_blocks (closing m)))
load_by Stop = None
load_by (Denies code) = None
load_by (Fails why left) = None

-- that of what stands in the array behind an action
abbrev pub load_left : Acted → List Block → Option ℕ
load_left acted.Next blocks = Some (load blocks)
load_left acted.Stop blocks = None
load_left (acted.Deny code) blocks = None
load_left (acted.Failed why) blocks = None

-- and of a reply that stands in its own, beside the 23 bytes of `connection: close`
abbrev pub load_replied : Stepped → (reply : List Block) → Option ℕ
load_replied Done reply = Some (load reply + 23)
load_replied (Failed why) reply = None

-- the load, where it is more than an array of this size holds
abbrev pub past : (size : ℕ) → Option ℕ → Option ℕ
past size None = None
past size (Some needed) = if nat_lt size needed then Some needed else None

-- what an action of one edit makes of this message in an array of the largest size
abbrev pub needed_by : (size : ℕ) → Action → Env → Option ℕ
needed_by size action env =
    if is_one_edit action (front_blocks env.head env.body) then past size (load_by (act most_size action env)) else None

-- the reason is want of room
abbrev pub is_room : Why → Bool
is_room Room = true
is_room Bytes = false

-- the rule failed for want of room, whether that decided or was passed over
abbrev pub lacks_room : Step → Bool
lacks_room (steps.Skipped why) = is_room why
lacks_room (steps.Fail why) = is_room why
lacks_room steps.Passed = false
lacks_room steps.Next = false
lacks_room steps.Stop = false
lacks_room steps.Reply = false
lacks_room (steps.Deny code) = false

-- The load that a rule would have needed which failed for want of room. One that makes one edit leaves the message as it stood in front of it.
abbrev pub wanted_by : Step → (size : ℕ) → Action → (left : Env) → Option ℕ
wanted_by step size action left = if lacks_room step then needed_by size action left else None

-- what is told is what is meant, where texts are written; else nothing is told
abbrev pub IsAsMeant : (shows : Bool) → (told meant : Option ℕ) → Type 0
IsAsMeant shows told meant = shows ≡ true → told ≡ meant
