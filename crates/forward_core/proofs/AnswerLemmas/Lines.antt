-- Rules leave a response a response, and reply with one.
use Rattle.std.proofs.Common.{◌≡◌, ℕ, List, [], ◌∷◌, Bool, true, false, cond, map, refl, subst, length, if◌then◌else◌}
use Rattle.std.specs.Prelude.{Option, Some, None, Result, Ok, Err, nat_le, slice_get, not, ◌&&◌, decimal}
use Rattle.std.specs.List.{AllByRecursion, list_any}
use Rattle.http_model.specs.declared.Why.{Why}
use Rattle.http_model.specs.declared.Why.TheVariants.{Room, Bytes}
use Rattle.http_model.specs.Blocks.{load}
use Rattle.http_model.specs.Fields.{add_field, set_field}
use Rattle.http_model.specs.Head.{Head, Field, Message, StartLine, RequestLine, StatusLine, message_blocks}
use Rattle.http_model.specs.Refusal.{closing}
use Rattle.http_model.specs.Reply.{redirect_reply}
use Rattle.session_model.specs.Env.{Pass, Reply, Deny, Fail, Amended, Edited, Plain, env_with_head}
use Rattle.px_bytes.specs.Blanks.{trimmed}
use Rattle.px_bytes.specs.Values.{values_of}
use Rattle.px_sample.specs.Variables.{Variables}
use Rattle.http_rules.specs.declared.rule.action.Action.{Action}
use Rattle.http_rules.specs.declared.rule.action.Action.TheVariants as actions
use Rattle.http_rules.specs.declared.rule.rule.Rule.{Rule}
use Rattle.http_rules.specs.declared.action.part.TargetPart.{TargetPart}
use Rattle.http_rules.specs.declared.action.part.TargetPart.TheVariants as parts
use Rattle.http_rules.specs.Action.Given.{Env, text_on}
use Rattle.http_rules.specs.Action.Edits.{Step, edited, by_text, by_value, are_value_bytes, fits_with}
use Rattle.http_rules.specs.Action.Hosts.{reset, reuri, stands_behind, hosts_agree}
use Rattle.http_rules.specs.Action.Lines.{made_of, made_of_status, with_line, stated, is_bodiless_text, reason_by, remethoded, retargeted, sent_by, sent_to, with_part, with_query}
use Rattle.http_rules.specs.Action.Replacing.{places, matches, replaced, replaced_values, are_short, with_value, made_of_field, replace_whole, replace_values}
use Rattle.http_rules.specs.Action.Replies.{redirected, returned, fitting, led_to, format_of, location_on, returning, type_by, payload_text, hdr_field, are_good_texts}
use Rattle.http_rules.specs.Action.Steps.{without_meant, line_step, steps_of}
use Rattle.http_rules.specs.Action.Acts.{left_by, Act, Next, Stop, Replies, Denies, Fails, after_step, run_steps, replying, act}
use Rattle.http_rules.specs.Rules.{Comes, answers, mode_after, runs, behind, walk, rules_of, amended_by, after_of}
use Rattle.forward_core.specs.Answer.Status.{is_status_line}

-- the environment is of a response
abbrev Is : Env → Type 0
Is env = is_status_line env.head.line ≡ true

-- so is what a step makes of it
abbrev Keeps : Result Env Why → Type 0
Keeps (Ok next) = Is next
Keeps (Err why) = Unit {0}

either : (t : Bool) (a b : Result Env Why) → Keeps a → Keeps b → Keeps (cond t a b)
either true a b x y = x
either false a b x y = y

edit : (size : ℕ) (env : Env) (head : Head) → is_status_line head.line ≡ true → Keeps (edited size env head)
edit size env head h = either (fits_with size env.body head) (Ok (env_with_head env head)) (Err Room) h tt

value : (size : ℕ) (env : Env) (text : List ℕ) (make : List ℕ → Head) → is_status_line (make (trimmed text)).line ≡ true → Keeps (by_value size env text make)
value size env text make h = either (are_value_bytes text) (edited size env (make (trimmed text))) (Err Bytes) (edit size env (make (trimmed text)) h) tt

texted : (size : ℕ) (text : List ℕ) (make : List ℕ → Result Env Why) → Keeps (make text) → Keeps (by_text size text make)
texted size text make x = either (nat_le (length text) size) (make text) (Err Bytes) x tt

-- nothing is made of a response's line but another status
asked : (env : Env) (line : StartLine) (make : (method target version : List ℕ) → Result Env Why) → is_status_line line ≡ true → Is env → Keeps (made_of line env make)
asked env (RequestLine m t v) make is h = absurd (let both : false ≡ true = is in cc both)
asked env (StatusLine v s r) make is h = h

told : (env : Env) (line : StartLine) (make : (version status reason : List ℕ) → Result Env Why) → Is env → ((v s r : List ℕ) → Keeps (make v s r)) → Keeps (made_of_status line env make)
told env (RequestLine m t v) make h x = h
told env (StatusLine v s r) make h x = x v s r

status : (size : ℕ) (env : Env) (code : ℕ) (reason version old : List ℕ) → Keeps (stated size env code reason version old)
status size env code reason version old =
    let head = with_line env.head (StatusLine version (decimal code) reason) in
    either (not (is_bodiless_text old) && are_value_bytes reason) (edited size env head) (Err Bytes) (edit size env head refl) tt

on_one : (env : Env) (found : Option Field) (make : Field → Result Env Why) → Is env → ((field : Field) → Keeps (make field)) → Keeps (made_of_field found env make)
on_one env None make h x = h
on_one env (Some field) make h x = x field

-- ---- steps in turn

abbrev StepKeeps : Step → Type 0
StepKeeps step = (env : Env) → Is env → Keeps (step env)

abbrev StepsKeep : List Step → Type 0
StepsKeep steps = AllByRecursion StepKeeps steps

abbrev KeepsAct : Act → Type 0
KeepsAct (Next next) = Is next
KeepsAct Stop = Unit {0}
KeepsAct (Replies m) = Unit {0}
KeepsAct (Denies code) = Unit {0}
KeepsAct (Fails why left) = Is left

one_step : (env : Env) (others : Env → Act) (r : Result Env Why) → Is env → Keeps r → ((next : Env) → Is next → KeepsAct (others next)) → KeepsAct (after_step env r others)
one_step env others (Ok next) h x rest = rest (left_by env next) x
one_step env others (Err why) h x rest = h

in_turn : (steps : List Step) (env : Env) → Is env → StepsKeep steps → KeepsAct (run_steps steps env)
in_turn [] env h all = h
in_turn (step ∷ steps) env h all = one_step env (run_steps steps) (step env) h (all.0 env h) (λ next is. in_turn steps next is all.1)

each_place : (f : ℕ → Step) (places : List ℕ) → ((k : ℕ) → StepKeeps (f k)) → StepsKeep (map f places)
each_place f [] x = tt
each_place f (k ∷ places) x = (x k, each_place f places x)

part_keeps : (size : ℕ) (part : TargetPart) (text : List ℕ) (e : Env) → Is e → Keeps (by_text size text (λ x. retargeted size e (λ target. with_part part target x)))
part_keeps size part text e h =
    texted size text (λ x. retargeted size e (λ target. with_part part target x)) (asked e e.head.line (λ m t v. sent_to size e m (with_part part t text) v) h h)

line_keeps : (size : ℕ) (action : Action) → StepKeeps (line_step size action)
unfolding line_step
line_keeps size (actions.SetMethod fmt) e h =
    let text : List ℕ = text_on size e fmt in
    texted size text (remethoded size e) (asked e e.head.line (λ m t v. sent_by size e m text t v) h h)
line_keeps size (actions.SetPath fmt) e h = part_keeps size parts.Path (text_on size e fmt) e h
line_keeps size (actions.SetPathq fmt) e h = part_keeps size parts.Pathq (text_on size e fmt) e h
line_keeps size (actions.SetUri fmt) e h =
    let text : List ℕ = text_on size e fmt in
    texted size text (reuri size e) (asked e e.head.line (λ m t v. if hosts_agree text e.head.fields then sent_to size e m (with_part parts.Uri t text) v else Err Bytes) h h)
line_keeps size (actions.SetQuery fmt) e h =
    let text : List ℕ = text_on size e fmt in
    texted size text (λ x. retargeted size e (λ target. with_query target x)) (asked e e.head.line (λ m t v. sent_to size e m (with_query t text) v) h h)
line_keeps size (actions.ReplacePath pat fmt) e h = asked e e.head.line _ h h
line_keeps size (actions.ReplacePathq pat fmt) e h = asked e e.head.line _ h h
line_keeps size (actions.ReplaceUri pat fmt) e h = asked e e.head.line _ h h
line_keeps size action e h = h

add_keeps : (size : ℕ) (name text : List ℕ) (e : Env) → Is e → Keeps (by_text size text (λ x. by_value size e x (λ v. add_field name v e.head)))
add_keeps size name text e h = texted size text (λ x. by_value size e x (λ v. add_field name v e.head)) (value size e text (λ v. add_field name v e.head) h)

reset_keeps : (size : ℕ) (name text : List ℕ) → StepKeeps (λ e. reset size e name text)
reset_keeps size name text e h =
    either (stands_behind e.head.line (name, trimmed text)) (by_value size e text (λ v. set_field name v e.head)) (Err Bytes) (value size e text (λ v. set_field name v e.head) h) tt

steps_keep : (size : ℕ) (action : Action) (env : Env) → StepsKeep (steps_of size action env)
unfolding steps_of
steps_keep size actions.Allow env = tt
steps_keep size (actions.Deny code) env = tt
steps_keep size (actions.AddHeader name fmt) env = (λ e h. add_keeps size name (text_on size e fmt) e h, tt)
steps_keep size (actions.SetHeader name fmt) env = (λ e h. texted size (text_on size e fmt) (λ text. reset size e name text) (reset_keeps size name (text_on size e fmt) e h), tt)
steps_keep size (actions.DelHeader by) env = (λ e h. edit size e (without_meant by e.head) h, tt)
steps_keep size (actions.ReplaceHeader name pat fmt) env = each_place (replace_whole size pat fmt) (places name env.head.fields 0)
    (λ k e h. on_one e (slice_get e.head.fields k) _ h (λ field.
    let format : List ℕ = text_on size e fmt in
    let make : List ℕ → Result Env Why = λ text. by_value size e text (with_value e.head k field) in
    either (matches pat field.1) (by_text size format (λ template. by_text size (replaced pat template field.1) make)) (Ok e)
    (texted size format (λ template. by_text size (replaced pat template field.1) make)
    (texted size (replaced pat format field.1) make (value size e (replaced pat format field.1) (with_value e.head k field) h))) h))
steps_keep size (actions.ReplaceValue name pat fmt) env = each_place (replace_values size pat fmt) (places name env.head.fields 0)
    (λ k e h. on_one e (slice_get e.head.fields k) _ h (λ field.
    let format : List ℕ = text_on size e fmt in
    let make : List ℕ → Result Env Why = λ text. by_value size e text (with_value e.head k field) in
    either (list_any (matches pat) (values_of field.1)) (by_text size format (λ template. if are_short size pat template field.1 then make (replaced_values pat template field.1) else Err Bytes)) (Ok e)
    (texted size format (λ template. if are_short size pat template field.1 then make (replaced_values pat template field.1) else Err Bytes)
    (either (are_short size pat format field.1) (make (replaced_values pat format field.1)) (Err Bytes) (value size e (replaced_values pat format field.1) (with_value e.head k field) h) tt)) h))
steps_keep size (actions.SetStatus code reason) env = (λ e h. told e e.head.line (λ v s r. stated size e code (reason_by code reason) v s) h (λ v s r. status size e code (reason_by code reason) v s), tt)
steps_keep size (actions.Redirect to code drop_query append_slash) env = tt
steps_keep size (actions.Return status content_type payload hdrs) env = tt
steps_keep size (actions.SetVar scope name expr) env = (λ e h. h, tt)
steps_keep size (actions.UnsetVar scope name) env = (λ e h. h, tt)
steps_keep size (actions.StrictMode on) env = tt
steps_keep size action env = (line_keeps size action, tt)

reply_keeps : (env : Env) (r : Result Message Why) → Is env → KeepsAct (replying env r)
reply_keeps env (Ok m) h = tt
reply_keeps env (Err why) h = h

act_keeps : (size : ℕ) (action : Action) (env : Env) → Is env → KeepsAct (act size action env)
unfolding act
act_keeps size actions.Allow env h = tt
act_keeps size (actions.Deny code) env h = tt
act_keeps size (actions.Redirect to code drop_query append_slash) env h = reply_keeps env (redirected size to code drop_query append_slash env) h
act_keeps size (actions.Return status content_type payload hdrs) env h = reply_keeps env (returned size status content_type payload hdrs env) h
act_keeps size action env h = in_turn (steps_of size action env) env h (steps_keep size action env)

-- ---- rules in turn

abbrev KeepsComes : Comes → Type 0
KeepsComes (Pass left) = Is left
KeepsComes (Reply m left) = Unit {0}
KeepsComes (Deny code left) = Unit {0}
KeepsComes (Fail why left) = Unit {0}

behind_keeps : (strict : Bool) (action : Action) (env : Env) (done : Act) (others : Bool → Env → Comes) → Is env → KeepsAct done → ((mode : Bool) (next : Env) → Is next → KeepsComes (others mode next)) → KeepsComes (behind strict action env done others)
behind_keeps strict action env (Next next) others h x rest = rest (mode_after strict action) next x
behind_keeps strict action env Stop others h x rest = h
behind_keeps strict action env (Replies m) others h x rest = tt
behind_keeps strict action env (Denies code) others h x rest = tt
behind_keeps strict action env (Fails why left) others h x rest = by (not strict && not (answers action))
  where
    by : (t : Bool) → KeepsComes (cond t (others strict left) (Fail why left))
    by true = rest strict left x
    by false = tt

chosen : (t : Bool) (a b : Comes) → KeepsComes a → KeepsComes b → KeepsComes (cond t a b)
chosen true a b x y = x
chosen false a b x y = y

walk_keeps : (size : ℕ) (rules : List Rule) (strict : Bool) (env : Env) → Is env → KeepsComes (walk size rules strict env)
walk_keeps size [] strict env h = h
walk_keeps size (rule ∷ rules) strict env h =
    chosen (runs size rule.cond env) (behind strict rule.action env (act size rule.action env) (walk size rules)) (walk size rules strict env)
    (behind_keeps strict rule.action env (act size rule.action env) (walk size rules) h (act_keeps size rule.action env h) (λ mode next is. walk_keeps size rules mode next is))
    (walk_keeps size rules strict env h)

-- rules that pass a response leave it one
pub passed_line : (size : ℕ) (rules : List Rule) (env left : Env) → rules_of size rules env ≡ Pass left → is_status_line env.head.line ≡ true → is_status_line left.head.line ≡ true
passed_line size rules env left is h = subst KeepsComes is (walk_keeps size rules true env h)

abbrev KeepsEdited : Amended Variables → Type 0
KeepsEdited (Edited head after) = is_status_line head.line ≡ true
KeepsEdited Plain = Unit {0}

edited_by : (comes : Comes) → KeepsComes comes → KeepsEdited (amended_by comes)
edited_by (Pass left) x = x
edited_by (Reply m left) x = tt
edited_by (Deny code left) x = tt
edited_by (Fail why left) x = tt

-- so do those on all that the client is sent
pub edited_line : (size : ℕ) (rules : List Rule) (env : Env) (head : Head) (after : Variables) → after_of size rules env ≡ Edited head after → is_status_line env.head.line ≡ true → is_status_line head.line ≡ true
edited_line size rules env head after is h = subst KeepsEdited is (edited_by (rules_of size rules env) (walk_keeps size rules true env h))

-- ---- replies

abbrev Replied : Result Message Why → Type 0
Replied (Ok m) = is_status_line m.head.line ≡ true
Replied (Err why) = Unit {0}

either_reply : (t : Bool) (a b : Result Message Why) → Replied a → Replied b → Replied (cond t a b)
either_reply true a b x y = x
either_reply false a b x y = y

fitted : (size : ℕ) (m : Message) → is_status_line m.head.line ≡ true → Replied (fitting size m)
fitted size m h = either_reply (nat_le (load (message_blocks (closing m))) size) (Ok m) (Err Room) h tt

led : (size code : ℕ) (location : List ℕ) → Replied (led_to size code location)
led size code location = either_reply (are_value_bytes location) (fitting size (redirect_reply code (trimmed location))) (Err Bytes) (fitted size (redirect_reply code (trimmed location)) refl) tt

abbrev RepliesAct : Act → Type 0
RepliesAct (Next next) = Unit {0}
RepliesAct Stop = Unit {0}
RepliesAct (Replies m) = is_status_line m.head.line ≡ true
RepliesAct (Denies code) = Unit {0}
RepliesAct (Fails why left) = Unit {0}

reply_by : (env : Env) (r : Result Message Why) → Replied r → RepliesAct (replying env r)
reply_by env (Ok m) h = h
reply_by env (Err why) h = tt

no_reply : (env : Env) (others : Env → Act) (r : Result Env Why) → ((next : Env) → RepliesAct (others next)) → RepliesAct (after_step env r others)
no_reply env others (Ok next) rest = rest (left_by env next)
no_reply env others (Err why) rest = tt

steps_reply : (steps : List Step) (env : Env) → RepliesAct (run_steps steps env)
steps_reply [] env = tt
steps_reply (step ∷ steps) env = no_reply env (run_steps steps) (step env) (λ next. steps_reply steps next)

act_replies : (size : ℕ) (action : Action) (env : Env) → RepliesAct (act size action env)
unfolding act redirected returned
act_replies size actions.Allow env = tt
act_replies size (actions.Deny code) env = tt
act_replies size (actions.Redirect to code drop_query append_slash) env =
    let text : List ℕ = text_on size env (format_of to) in
    let location : List ℕ = location_on to drop_query append_slash text env in
    reply_by env (redirected size to code drop_query append_slash env) (either_reply (nat_le (length text) size) (led_to size code location) (Err Bytes) (led size code location) tt)
act_replies size (actions.Return status content_type payload hdrs) env =
    let m : Message = returning status (type_by payload content_type) (payload_text size env payload) (map (hdr_field size env) hdrs) in
    reply_by env (returned size status content_type payload hdrs env) (either_reply (are_good_texts size content_type payload hdrs env) (fitting size m) (Err Bytes) (fitted size m refl) tt)
act_replies size action env = steps_reply (steps_of size action env) env

abbrev RepliesComes : Comes → Type 0
RepliesComes (Pass left) = Unit {0}
RepliesComes (Reply m left) = is_status_line m.head.line ≡ true
RepliesComes (Deny code left) = Unit {0}
RepliesComes (Fail why left) = Unit {0}

behind_replies : (strict : Bool) (action : Action) (env : Env) (done : Act) (others : Bool → Env → Comes) → RepliesAct done → ((mode : Bool) (next : Env) → RepliesComes (others mode next)) → RepliesComes (behind strict action env done others)
behind_replies strict action env (Next next) others x rest = rest (mode_after strict action) next
behind_replies strict action env Stop others x rest = tt
behind_replies strict action env (Replies m) others x rest = x
behind_replies strict action env (Denies code) others x rest = tt
behind_replies strict action env (Fails why left) others x rest = by (not strict && not (answers action))
  where
    by : (t : Bool) → RepliesComes (cond t (others strict left) (Fail why left))
    by true = rest strict left
    by false = tt

chosen_reply : (t : Bool) (a b : Comes) → RepliesComes a → RepliesComes b → RepliesComes (cond t a b)
chosen_reply true a b x y = x
chosen_reply false a b x y = y

walk_replies : (size : ℕ) (rules : List Rule) (strict : Bool) (env : Env) → RepliesComes (walk size rules strict env)
walk_replies size [] strict env = tt
walk_replies size (rule ∷ rules) strict env =
    chosen_reply (runs size rule.cond env) (behind strict rule.action env (act size rule.action env) (walk size rules)) (walk size rules strict env)
    (behind_replies strict rule.action env (act size rule.action env) (walk size rules) (act_replies size rule.action env) (λ mode next. walk_replies size rules mode next))
    (walk_replies size rules strict env)

-- what rules reply is a response
pub replied_line : (size : ℕ) (rules : List Rule) (env left : Env) (m : Message) → rules_of size rules env ≡ Reply m left → is_status_line m.head.line ≡ true
replied_line size rules env left m is = subst RepliesComes is (walk_replies size rules true env)
