-- What a rule leaves in the largest array is weighed.
use Rattle.std.proofs.Common.{◌≡◌, ◌≤◌, ℕ, ◌+◌, ◌<◌, List, [], ◌∷◌, ◌++◌, Bool, true, false, cond, length, take, refl, sym, ap, subst, ◌∙◌, arith}
use Rattle.std.specs.Prelude.{Option, Some, None, Result, Ok, Err, IsOk, OnOk}
use Rattle.std.proofs.lemmas.Bool.{false≢true}
use Rattle.std.proofs.lemmas.List.{take_more}
use Rattle.std.proofs.lemmas.List.Sums.{sum_by-take-le}
use Rattle.http_model.specs.Block.{Block, Header, EndHeaders, weight}
use Rattle.http_model.specs.Blocks.{load, block_at}
use Rattle.http_model.specs.Finish.{close_field}
use Rattle.http_model.specs.Head.{Message, front_blocks, message_blocks}
use Rattle.http_model.specs.Refusal.{closing}
use Rattle.http_model.specs.Sizes.{most_size}
use Rattle.header_ops.specs.Headers.{HasEnd, with_header}
use Rattle.header_ops.proofs.PublicLaws.{load-with_header}
use Rattle.px_sample.specs.Variables.{Variables}
use Rattle.http_rules.specs.declared.action.side.Side.{Side}
use Rattle.http_rules.specs.declared.rule.action.Action.{Action}
use Rattle.http_rules.specs.declared.step.Step.{Step}
use Rattle.http_rules.specs.declared.action.act.Acted.{Acted}
use Rattle.http_rules.specs.declared.action.act.Acted.TheVariants as acted
use Rattle.http_rules.specs.declared.action.stepped.Stepped.{Stepped}
use Rattle.http_rules.specs.declared.action.stepped.Stepped.TheVariants as steps
use Rattle.http_rules.specs.Action.Acts.{Act, Next, Stop, Replies, Denies, Fails, act}
use Rattle.http_rules.specs.Action.Does.{Does, Replied}
use Rattle.http_rules.specs.Action.Given.{Env}
use Rattle.http_rules.specs.Action.Outcome.{IsAt}
use Rattle.px_explain.specs.Wanted.{is_one_edit, load_by, load_left, load_replied, past, needed_by, lacks_room, wanted_by}
use Rattle.px_explain.proofs.Edits.{KeepsAct}

-- ---- a copy

-- a call that succeeds does what it says of success
pub on_ok : {T E : Type 0} (r : Result T E) (P : Type 0) → IsOk r → OnOk r P → P
on_ok (Ok x) P is p = p
on_ok (Err e) P is p = absurd (false≢true is)

-- one block more is still within the weight of all
pub one_more : (blocks copied : List Block) (at size most copy_size : ℕ) → at < length blocks → copied ≡ take at blocks → load blocks ≤ size → size ≤ most → copy_size ≡ most
    → load (copied ++ block_at blocks at ∷ []) ≤ copy_size
one_more blocks copied at size most copy_size below so_far fits small sized =
    let more : take (at + 1) blocks ≡ take at blocks ++ block_at blocks at ∷ [] = take_more blocks at EndHeaders below in
    let all : load (take (at + 1) blocks) ≤ load blocks = sum_by-take-le weight blocks (at + 1) in
    let same : load (copied ++ block_at blocks at ∷ []) ≡ load (take (at + 1) blocks) = ap (λ (bs : List Block). load (bs ++ block_at blocks at ∷ [])) so_far ∙ sym (ap (λ (bs : List Block). load bs) more) in
    omega (arith, all, same, fits, small, sized)

-- ---- an edit

-- what stands in the array is what the action leaves, or it leaves no message
pub load_done : (side : Side) (env : Env) (came : Act) (done : Acted) (blocks : List Block) (vars : Variables) → Does side env came done blocks vars → load_left done blocks ≡ load_by came
load_done side env (Next next) acted.Next blocks vars d = ap (λ (bs : List Block). Some (load bs)) d.blocks_are
load_done side env (Next next) acted.Stop blocks vars d = absurd d
load_done side env (Next next) (acted.Deny told) blocks vars d = absurd d
load_done side env (Next next) (acted.Failed why) blocks vars d = absurd d
load_done side env Stop acted.Next blocks vars d = absurd d
load_done side env Stop acted.Stop blocks vars d = refl
load_done side env Stop (acted.Deny told) blocks vars d = absurd d
load_done side env Stop (acted.Failed why) blocks vars d = absurd d
load_done side env (Replies m) acted.Next blocks vars d = absurd d
load_done side env (Replies m) acted.Stop blocks vars d = absurd d
load_done side env (Replies m) (acted.Deny told) blocks vars d = absurd d
load_done side env (Replies m) (acted.Failed why) blocks vars d = absurd d
load_done side env (Denies code) acted.Next blocks vars d = absurd d
load_done side env (Denies code) acted.Stop blocks vars d = absurd d
load_done side env (Denies code) (acted.Deny told) blocks vars d = refl
load_done side env (Denies code) (acted.Failed why) blocks vars d = absurd d
load_done side env (Fails why left) acted.Next blocks vars d = absurd d
load_done side env (Fails why left) acted.Stop blocks vars d = absurd d
load_done side env (Fails why left) (acted.Deny told) blocks vars d = absurd d
load_done side env (Fails why left) (acted.Failed told) blocks vars d = refl

-- an action that keeps the variables leaves those that were there
pub vars_stay : (side : Side) (env : Env) (came : Act) (done : Acted) (blocks : List Block) (vars : Variables) → Does side env came done blocks vars → KeepsAct env came → vars ≡ env.vars
vars_stay side env (Next next) acted.Next blocks vars d kept = d.vars_are ∙ kept
vars_stay side env (Next next) acted.Stop blocks vars d kept = absurd d
vars_stay side env (Next next) (acted.Deny told) blocks vars d kept = absurd d
vars_stay side env (Next next) (acted.Failed why) blocks vars d kept = absurd d
vars_stay side env Stop acted.Next blocks vars d kept = absurd d
vars_stay side env Stop acted.Stop blocks vars d kept = d.vars_are
vars_stay side env Stop (acted.Deny told) blocks vars d kept = absurd d
vars_stay side env Stop (acted.Failed why) blocks vars d kept = absurd d
vars_stay side env (Replies m) acted.Next blocks vars d kept = absurd d
vars_stay side env (Replies m) acted.Stop blocks vars d kept = absurd d
vars_stay side env (Replies m) (acted.Deny told) blocks vars d kept = absurd d
vars_stay side env (Replies m) (acted.Failed why) blocks vars d kept = absurd d
vars_stay side env (Denies code) acted.Next blocks vars d kept = absurd d
vars_stay side env (Denies code) acted.Stop blocks vars d kept = absurd d
vars_stay side env (Denies code) (acted.Deny told) blocks vars d kept = d.1.vars_are
vars_stay side env (Denies code) (acted.Failed why) blocks vars d kept = absurd d
vars_stay side env (Fails why left) acted.Next blocks vars d kept = absurd d
vars_stay side env (Fails why left) acted.Stop blocks vars d kept = absurd d
vars_stay side env (Fails why left) (acted.Deny told) blocks vars d kept = absurd d
vars_stay side env (Fails why left) (acted.Failed told) blocks vars d kept = d.1.vars_are ∙ kept

-- ---- a reply

abbrev pub Ends : Type 0
Ends = (m : Message) → HasEnd (message_blocks m)

abbrev pub Closes : Type 0
Closes = (m : Message) → with_header (Header close_field.0 close_field.1) (message_blocks m) ≡ message_blocks (closing m)

load_closed : (bs : List Block) → HasEnd bs → load (with_header (Header close_field.0 close_field.1) bs) ≡ load bs + 23
load_closed bs end = omega (arith, load-with_header (Header close_field.0 close_field.1) bs end)

load_closing : Ends → Closes → (m : Message) → load (message_blocks (closing m)) ≡ load (message_blocks m) + 23
load_closing ends closes m = sym (ap (λ (bs : List Block). load bs) (closes m)) ∙ load_closed (message_blocks m) (ends m)

pub reply_done : Ends → Closes → (env : Env) (came : Act) (step : Stepped) (reply : List Block) → Replied env came step reply → load_replied step reply ≡ load_by came
reply_done ends closes env (Replies m) steps.Done reply r = ap (λ (n : ℕ). Some n) (ap (λ (bs : List Block). load bs + 23) r ∙ sym (load_closing ends closes m))
reply_done ends closes env (Replies m) (steps.Failed why) reply r = absurd r
reply_done ends closes env (Fails why left) steps.Done reply r = absurd r
reply_done ends closes env (Fails why left) (steps.Failed told) reply r = refl
reply_done ends closes env (Next next) steps.Done reply r = absurd r
reply_done ends closes env (Next next) (steps.Failed why) reply r = absurd r
reply_done ends closes env Stop steps.Done reply r = absurd r
reply_done ends closes env Stop (steps.Failed why) reply r = absurd r
reply_done ends closes env (Denies code) steps.Done reply r = absurd r
reply_done ends closes env (Denies code) (steps.Failed why) reply r = absurd r

-- ---- a rule

-- a copy in the largest array has the same blocks
pub in_largest : (side : Side) (action : Action) (vars : Variables) (blocks copied : List Block) (size : ℕ) (needed : Option ℕ) → copied ≡ blocks → size ≡ most_size
    → ((env : Env) → IsAt side env copied vars → needed ≡ load_by (act size action env)) → (env : Env) → IsAt side env blocks vars → needed ≡ load_by (act most_size action env)
in_largest side action vars blocks copied size needed same sized h =
    subst (λ (n : ℕ). (env : Env) → IsAt side env blocks vars → needed ≡ load_by (act n action env)) sized
    (subst (λ (bs : List Block). (env : Env) → IsAt side env bs vars → needed ≡ load_by (act size action env)) same h)

-- it failed for want of room, and makes one edit
pub wanted_so : (told : Step) (size : ℕ) (action : Action) (env : Env) (blocks : List Block) (needed : Option ℕ) → lacks_room told ≡ true → is_one_edit action blocks ≡ true → blocks ≡ front_blocks env.head env.body
    → needed ≡ load_by (act most_size action env) → past size needed ≡ wanted_by told size action env
wanted_so told size action env blocks needed lacks one same is =
    let one_left : is_one_edit action (front_blocks env.head env.body) ≡ true = subst (λ (bs : List Block). is_one_edit action bs ≡ true) same one in
    ap (past size) is
    ∙ (sym (ap (λ (t : Bool). cond t (past size (load_by (act most_size action env))) None) one_left)
    ∙ sym (ap (λ (t : Bool). cond t (needed_by size action env) None) lacks))

-- it makes more than one, or none
pub wanted_not : (told : Step) (size : ℕ) (action : Action) (env : Env) (blocks : List Block) → lacks_room told ≡ true → is_one_edit action blocks ≡ false → blocks ≡ front_blocks env.head env.body
    → None ≡ wanted_by told size action env
wanted_not told size action env blocks lacks one same =
    let one_left : is_one_edit action (front_blocks env.head env.body) ≡ false = subst (λ (bs : List Block). is_one_edit action bs ≡ false) same one in
    sym (ap (λ (t : Bool). cond t (past size (load_by (act most_size action env))) None) one_left)
    ∙ sym (ap (λ (t : Bool). cond t (needed_by size action env) None) lacks)

-- it didn't fail for that
pub wanted_none : (told : Step) (size : ℕ) (action : Action) (env : Env) → lacks_room told ≡ false → None ≡ wanted_by told size action env
wanted_none told size action env lacks = sym (ap (λ (t : Bool). cond t (needed_by size action env) None) lacks)
