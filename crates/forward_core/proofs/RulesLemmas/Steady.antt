-- Rules that set no variable of the session and take none out leave those as they are.
use Rattle.std.proofs.Common.{◌≡◌, ℕ, List, [], ◌∷◌, Bool, true, false, cond, map, refl, ap, ◌∙◌, subst, if◌then◌else◌, rules}
use Rattle.std.specs.Prelude.{Option, Some, None, Result, Ok, Err, nat_le, slice_get, not, ◌&&◌, ◌||◌, length, decimal}
use Rattle.std.specs.List.{AllByRecursion, list_any}
use Rattle.http_model.specs.declared.Why.{Why}
use Rattle.http_model.specs.declared.Why.TheVariants.{Room, Bytes}
use Rattle.htx_model.specs.Block.{Block}
use Rattle.http_model.specs.Fields.{add_field, set_field}
use Rattle.http_model.specs.Head.{Head, Field, Message, StartLine, RequestLine, StatusLine}
use Rattle.session_model.specs.Env.{Pass, Reply, Deny, Fail, env_with_head}
use Rattle.px_bytes.specs.Blanks.{trimmed}
use Rattle.px_bytes.specs.Values.{values_of}
use Rattle.px_sample.specs.Entry.{Entry}
use Rattle.px_sample.specs.Variables.{Variables, set_variable, unset_variable}
use Rattle.px_sample.specs.Sample.{Value}
use Rattle.px_sample.specs.declared.scope.Scope.{Scope}
use Rattle.px_sample.specs.declared.scope.Scope.TheVariants as scopes
use Rattle.http_rules.specs.declared.rule.action.Action.{Action}
use Rattle.http_rules.specs.declared.rule.action.Action.TheVariants as actions
use Rattle.http_rules.specs.declared.rule.rule.Rule.{Rule}
use Rattle.http_rules.specs.declared.action.part.TargetPart.{TargetPart}
use Rattle.http_rules.specs.declared.action.part.TargetPart.TheVariants as parts
use Rattle.http_rules.specs.declared.action.side.Side.{Side}
use Rattle.http_rules.specs.declared.verdict.Verdict.{Verdict as Answer}
use Rattle.http_rules.specs.declared.verdict.Verdict.TheVariants as verdicts
use Rattle.http_rules.specs.Action.Given.{Env, text_on, sample_on}
use Rattle.http_rules.specs.Action.Edits.{Step, edited, by_text, by_value, are_value_bytes, fits_with}
use Rattle.http_rules.specs.Action.Hosts.{reset, reuri, stands_behind, hosts_agree}
use Rattle.http_rules.specs.Action.Lines.{made_of, made_of_status, with_line, is_target, may_become, is_bodiless_text, part_of, restated, stated, reason_by, remethoded, retargeted, sent_by, sent_to, with_part, with_query}
use Rattle.http_rules.specs.Action.Replacing.{places, matches, replaced, replaced_values, are_short, with_value, made_of_field, replace_whole, replace_values}
use Rattle.http_rules.specs.Action.Replies.{redirected, returned}
use Rattle.http_rules.specs.Action.Steps.{without_meant, line_step, steps_of}
use Rattle.http_rules.specs.Action.Acts.{left_by, Act, Next, Stop, Replies, Denies, Fails, after_step, run_steps, replying, act}
use Rattle.http_rules.specs.Rules.{Comes, answers, mode_after, runs, behind, walk, rules_of}
use Rattle.http_rules.specs.Run.{Leaves}
use Rattle.http_rules.specs.Action.Outcome.{IsScratch}
use Rattle.http_rules.specs.declared.action.scratch.Scratch.{Scratch}
use Rattle.htx_arena.specs.Layout.Contents.{Contents}
use Rattle.px_peer.specs.declared.Peer.{Peer}
use Rattle.forward_core.specs.Meaning.Beginning.{beginning}
use Rattle.forward_core.specs.Rules.Ruling.{IsReady, size_of}
use Rattle.forward_core.specs.declared.rules.rules.SessionRules.{SessionRules}
use Rattle.forward_core.specs.Rules.Steady.{is_session, turns_session, some_turn}

-- the variables of the session are these
abbrev Is : List Entry → Env → Type 0
Is sess env = env.vars.sess ≡ sess

-- so they are behind a step
abbrev Keeps : List Entry → Result Env Why → Type 0
Keeps sess (Ok next) = Is sess next
Keeps sess (Err why) = Unit {0}

either : (sess : List Entry) (t : Bool) (a b : Result Env Why) → Keeps sess a → Keeps sess b → Keeps sess (cond t a b)
either sess true a b x y = x
either sess false a b x y = y

edit : (sess : List Entry) (size : ℕ) (env : Env) (head : Head) → Is sess env → Keeps sess (edited size env head)
edit sess size env head h = either sess (fits_with size env.body head) (Ok (env_with_head env head)) (Err Room) h tt

value : (sess : List Entry) (size : ℕ) (env : Env) (text : List ℕ) (make : List ℕ → Head) → Is sess env → Keeps sess (by_value size env text make)
value sess size env text make h = either sess (are_value_bytes text) (edited size env (make (trimmed text))) (Err Bytes) (edit sess size env (make (trimmed text)) h) tt

texted : (sess : List Entry) (size : ℕ) (text : List ℕ) (make : List ℕ → Result Env Why) → Keeps sess (make text) → Keeps sess (by_text size text make)
texted sess size text make x = either sess (nat_le (length text) size) (make text) (Err Bytes) x tt

asked : (sess : List Entry) (env : Env) (line : StartLine) (make : (method target version : List ℕ) → Result Env Why) → Is sess env → ((m t v : List ℕ) → Keeps sess (make m t v)) → Keeps sess (made_of line env make)
asked sess env (RequestLine m t v) make h x = x m t v
asked sess env (StatusLine v s r) make h x = h

told : (sess : List Entry) (env : Env) (line : StartLine) (make : (version status reason : List ℕ) → Result Env Why) → Is sess env → ((v s r : List ℕ) → Keeps sess (make v s r)) → Keeps sess (made_of_status line env make)
told sess env (RequestLine m t v) make h x = h
told sess env (StatusLine v s r) make h x = x v s r

on_one : (sess : List Entry) (env : Env) (found : Option Field) (make : Field → Result Env Why) → Is sess env → ((field : Field) → Keeps sess (make field)) → Keeps sess (made_of_field found env make)
on_one sess env None make h x = h
on_one sess env (Some field) make h x = x field

-- ---- variables of other scopes

other_set : (sess : List Entry) (vars : Variables) (scope : Scope) (name : List ℕ) (value : Option Value) → is_session scope ≡ false → vars.sess ≡ sess → (set_variable vars scope name value).sess ≡ sess
other_set sess vars scope name None other h = h
other_set sess vars scopes.Sess name (Some v) other h = absurd (let e : true ≡ false = other in cc e)
other_set sess vars scopes.Txn name (Some v) other h = h
other_set sess vars scopes.Req name (Some v) other h = h
other_set sess vars scopes.Res name (Some v) other h = h

other_unset : (sess : List Entry) (vars : Variables) (scope : Scope) (name : List ℕ) → is_session scope ≡ false → vars.sess ≡ sess → (unset_variable vars scope name).sess ≡ sess
other_unset sess vars scopes.Sess name other h = absurd (let e : true ≡ false = other in cc e)
other_unset sess vars scopes.Txn name other h = h
other_unset sess vars scopes.Req name other h = h
other_unset sess vars scopes.Res name other h = h

-- ---- steps in turn

abbrev StepKeeps : List Entry → Step → Type 0
StepKeeps sess step = (env : Env) → Is sess env → Keeps sess (step env)

abbrev StepsKeep : List Entry → List Step → Type 0
StepsKeep sess steps = AllByRecursion (StepKeeps sess) steps

abbrev KeepsAct : List Entry → Act → Type 0
KeepsAct sess (Next next) = Is sess next
KeepsAct sess Stop = Unit {0}
KeepsAct sess (Replies m) = Unit {0}
KeepsAct sess (Denies code) = Unit {0}
KeepsAct sess (Fails why left) = Is sess left

one_step : (sess : List Entry) (env : Env) (others : Env → Act) (r : Result Env Why) → Is sess env → Keeps sess r → ((next : Env) → Is sess next → KeepsAct sess (others next)) → KeepsAct sess (after_step env r others)
one_step sess env others (Ok next) h x rest = rest (left_by env next) x
one_step sess env others (Err why) h x rest = h

in_turn : (sess : List Entry) (steps : List Step) (env : Env) → Is sess env → StepsKeep sess steps → KeepsAct sess (run_steps steps env)
in_turn sess [] env h all = h
in_turn sess (step ∷ steps) env h all = one_step sess env (run_steps steps) (step env) h (all.0 env h) (λ next is. in_turn sess steps next is all.1)

each_place : (sess : List Entry) (f : ℕ → Step) (places : List ℕ) → ((k : ℕ) → StepKeeps sess (f k)) → StepsKeep sess (map f places)
each_place sess f [] x = tt
each_place sess f (k ∷ places) x = (x k, each_place sess f places x)

sent : (sess : List Entry) (size : ℕ) (env : Env) (method target version : List ℕ) → Is sess env → Keeps sess (sent_to size env method target version)
sent sess size env method target version h =
    let head = with_line env.head (RequestLine method target version) in
    either sess (is_target target) (edited size env head) (Err Bytes) (edit sess size env head h) tt

part_keeps : (sess : List Entry) (size : ℕ) (part : TargetPart) (text : List ℕ) (e : Env) → Is sess e → Keeps sess (by_text size text (λ x. retargeted size e (λ target. with_part part target x)))
part_keeps sess size part text e h =
    texted sess size text (λ x. retargeted size e (λ target. with_part part target x))
    (asked sess e e.head.line (λ m t v. sent_to size e m (with_part part t text) v) h (λ m t v. sent sess size e m (with_part part t text) v h))

-- what is made of a text in which a pattern matches
matched : (sess : List Entry) (size : ℕ) (e : Env) (matches : Bool) (format : List ℕ) (fill : List ℕ → List ℕ) (make : List ℕ → Result Env Why) → Is sess e → ((text : List ℕ) → Keeps sess (make text))
    → Keeps sess (cond matches (by_text size format (λ template. by_text size (fill template) make)) (Ok e))
matched sess size e matches format fill make h x =
    either sess matches (by_text size format (λ template. by_text size (fill template) make)) (Ok e)
    (texted sess size format (λ template. by_text size (fill template) make) (texted sess size (fill format) make (x (fill format)))) h

line_keeps : (sess : List Entry) (size : ℕ) (action : Action) → StepKeeps sess (line_step size action)
unfolding line_step
line_keeps sess size (actions.SetMethod fmt) e h =
    let text : List ℕ = text_on size e fmt in
    texted sess size text (remethoded size e) (asked sess e e.head.line (λ m t v. sent_by size e m text t v) h
    (λ m t v. either sess (may_become m text) (edited size e (with_line e.head (RequestLine text t v))) (Err Bytes) (edit sess size e (with_line e.head (RequestLine text t v)) h) tt))
line_keeps sess size (actions.SetPath fmt) e h = part_keeps sess size parts.Path (text_on size e fmt) e h
line_keeps sess size (actions.SetPathq fmt) e h = part_keeps sess size parts.Pathq (text_on size e fmt) e h
line_keeps sess size (actions.SetUri fmt) e h =
    let text : List ℕ = text_on size e fmt in
    texted sess size text (reuri size e) (asked sess e e.head.line (λ m t v. if hosts_agree text e.head.fields then sent_to size e m (with_part parts.Uri t text) v else Err Bytes) h
    (λ m t v. either sess (hosts_agree text e.head.fields) (sent_to size e m (with_part parts.Uri t text) v) (Err Bytes) (sent sess size e m (with_part parts.Uri t text) v h) tt))
line_keeps sess size (actions.SetQuery fmt) e h =
    let text : List ℕ = text_on size e fmt in
    texted sess size text (λ x. retargeted size e (λ target. with_query target x)) (asked sess e e.head.line (λ m t v. sent_to size e m (with_query t text) v) h (λ m t v. sent sess size e m (with_query t text) v h))
line_keeps sess size (actions.ReplacePath pat fmt) e h = asked sess e e.head.line _ h (λ m t v.
    matched sess size e (matches pat (part_of parts.Path t)) (text_on size e fmt) (λ template. replaced pat template (part_of parts.Path t)) (λ text. sent_to size e m (with_part parts.Path t text) v) h
    (λ text. sent sess size e m (with_part parts.Path t text) v h))
line_keeps sess size (actions.ReplacePathq pat fmt) e h = asked sess e e.head.line _ h (λ m t v.
    matched sess size e (matches pat (part_of parts.Pathq t)) (text_on size e fmt) (λ template. replaced pat template (part_of parts.Pathq t)) (λ text. sent_to size e m (with_part parts.Pathq t text) v) h
    (λ text. sent sess size e m (with_part parts.Pathq t text) v h))
line_keeps sess size (actions.ReplaceUri pat fmt) e h = asked sess e e.head.line _ h (λ m t v.
    matched sess size e (matches pat (part_of parts.Uri t)) (text_on size e fmt) (λ template. replaced pat template (part_of parts.Uri t)) (λ text. sent_to size e m (with_part parts.Uri t text) v) h
    (λ text. sent sess size e m (with_part parts.Uri t text) v h))
line_keeps sess size action e h = h

add_keeps : (sess : List Entry) (size : ℕ) (name text : List ℕ) (e : Env) → Is sess e → Keeps sess (by_text size text (λ x. by_value size e x (λ v. add_field name v e.head)))
add_keeps sess size name text e h = texted sess size text (λ x. by_value size e x (λ v. add_field name v e.head)) (value sess size e text (λ v. add_field name v e.head) h)

reset_keeps : (sess : List Entry) (size : ℕ) (name text : List ℕ) → StepKeeps sess (λ e. reset size e name text)
reset_keeps sess size name text e h =
    either sess (stands_behind e.head.line (name, trimmed text)) (by_value size e text (λ v. set_field name v e.head)) (Err Bytes) (value sess size e text (λ v. set_field name v e.head) h) tt

status_keeps : (sess : List Entry) (size code : ℕ) (reason : List ℕ) → StepKeeps sess (λ e. restated size e code reason)
status_keeps sess size code reason e h =
    told sess e e.head.line (λ v s r. stated size e code reason v s) h (λ v s r.
    let head = with_line e.head (StatusLine v (decimal code) reason) in
    either sess (not (is_bodiless_text s) && are_value_bytes reason) (edited size e head) (Err Bytes) (edit sess size e head h) tt)

steps_keep : (sess : List Entry) (size : ℕ) (action : Action) (env : Env) → turns_session action ≡ false → StepsKeep sess (steps_of size action env)
unfolding steps_of
steps_keep sess size actions.Allow env other = tt
steps_keep sess size (actions.Deny code) env other = tt
steps_keep sess size (actions.AddHeader name fmt) env other = (λ e h. add_keeps sess size name (text_on size e fmt) e h, tt)
steps_keep sess size (actions.SetHeader name fmt) env other = (λ e h. texted sess size (text_on size e fmt) (λ text. reset size e name text) (reset_keeps sess size name (text_on size e fmt) e h), tt)
steps_keep sess size (actions.DelHeader by) env other = (λ e h. edit sess size e (without_meant by e.head) h, tt)
steps_keep sess size (actions.ReplaceHeader name pat fmt) env other = each_place sess (replace_whole size pat fmt) (places name env.head.fields 0) (λ k e h.
    on_one sess e (slice_get e.head.fields k) _ h (λ field.
    matched sess size e (matches pat field.1) (text_on size e fmt) (λ template. replaced pat template field.1) (λ text. by_value size e text (with_value e.head k field)) h
    (λ text. value sess size e text (with_value e.head k field) h)))
steps_keep sess size (actions.ReplaceValue name pat fmt) env other = each_place sess (replace_values size pat fmt) (places name env.head.fields 0) (λ k e h.
    on_one sess e (slice_get e.head.fields k) _ h (λ field.
    let format : List ℕ = text_on size e fmt in
    let make : List ℕ → Result Env Why = λ text. by_value size e text (with_value e.head k field) in
    either sess (list_any (matches pat) (values_of field.1)) (by_text size format (λ template. if are_short size pat template field.1 then make (replaced_values pat template field.1) else Err Bytes)) (Ok e)
    (texted sess size format (λ template. if are_short size pat template field.1 then make (replaced_values pat template field.1) else Err Bytes)
    (either sess (are_short size pat format field.1) (make (replaced_values pat format field.1)) (Err Bytes) (value sess size e (replaced_values pat format field.1) (with_value e.head k field) h) tt)) h))
steps_keep sess size (actions.SetStatus code reason) env other = (status_keeps sess size code (reason_by code reason), tt)
steps_keep sess size (actions.Redirect to code drop_query append_slash) env other = tt
steps_keep sess size (actions.Return status content_type payload hdrs) env other = tt
steps_keep sess size (actions.SetVar scope name expr) env other = (λ e h. other_set sess e.vars scope name (sample_on size e expr) other h, tt)
steps_keep sess size (actions.UnsetVar scope name) env other = (λ e h. other_unset sess e.vars scope name other h, tt)
steps_keep sess size (actions.StrictMode on) env other = tt
steps_keep sess size action env other = (line_keeps sess size action, tt)

reply_keeps : (sess : List Entry) (env : Env) (r : Result Message Why) → Is sess env → KeepsAct sess (replying env r)
reply_keeps sess env (Ok m) h = tt
reply_keeps sess env (Err why) h = h

act_keeps : (sess : List Entry) (size : ℕ) (action : Action) (env : Env) → turns_session action ≡ false → Is sess env → KeepsAct sess (act size action env)
unfolding act
act_keeps sess size actions.Allow env other h = tt
act_keeps sess size (actions.Deny code) env other h = tt
act_keeps sess size (actions.Redirect to code drop_query append_slash) env other h = reply_keeps sess env (redirected size to code drop_query append_slash env) h
act_keeps sess size (actions.Return status content_type payload hdrs) env other h = reply_keeps sess env (returned size status content_type payload hdrs env) h
act_keeps sess size action env other h = in_turn sess (steps_of size action env) env h (steps_keep sess size action env other)

-- ---- rules in turn

abbrev KeepsComes : List Entry → Comes → Type 0
KeepsComes sess (Pass left) = Is sess left
KeepsComes sess (Reply m left) = Is sess left
KeepsComes sess (Deny code left) = Is sess left
KeepsComes sess (Fail why left) = Is sess left

behind_keeps : (sess : List Entry) (strict : Bool) (action : Action) (env : Env) (done : Act) (others : Bool → Env → Comes) → Is sess env → KeepsAct sess done → ((mode : Bool) (next : Env) → Is sess next → KeepsComes sess (others mode next)) → KeepsComes sess (behind strict action env done others)
behind_keeps sess strict action env (Next next) others h x rest = rest (mode_after strict action) next x
behind_keeps sess strict action env Stop others h x rest = h
behind_keeps sess strict action env (Replies m) others h x rest = h
behind_keeps sess strict action env (Denies code) others h x rest = h
behind_keeps sess strict action env (Fails why left) others h x rest = by (not strict && not (answers action))
  where
    by : (t : Bool) → KeepsComes sess (cond t (others strict left) (Fail why left))
    by true = rest strict left x
    by false = x

chosen : (sess : List Entry) (t : Bool) (a b : Comes) → KeepsComes sess a → KeepsComes sess b → KeepsComes sess (cond t a b)
chosen sess true a b x y = x
chosen sess false a b x y = y

neither : (a b : Bool) → a || b ≡ false → (a ≡ false) × (b ≡ false)
neither true b h = absurd (let e : true ≡ false = h in cc e)
neither false b h = (refl, h)

walk_keeps : (sess : List Entry) (size : ℕ) (rules : List Rule) (strict : Bool) (env : Env) → some_turn rules ≡ false → Is sess env → KeepsComes sess (walk size rules strict env)
walk_keeps sess size [] strict env none h = h
walk_keeps sess size (rule ∷ rules) strict env none h =
    let both = neither (turns_session rule.action) (some_turn rules) none in
    chosen sess (runs size rule.cond env) (behind strict rule.action env (act size rule.action env) (walk size rules)) (walk size rules strict env)
    (behind_keeps sess strict rule.action env (act size rule.action env) (walk size rules) h (act_keeps sess size rule.action env both.0 h) (λ mode next is. walk_keeps sess size rules mode next both.1 is))
    (walk_keeps sess size rules strict env both.1 h)

-- ---- what is left of them

left_alone : (sess : List Entry) (side : Side) (comes : Comes) (verdict : Answer) (blocks : List Block) (vars : Variables) (reply : List Block) → KeepsComes sess comes → Leaves side comes verdict blocks vars reply → vars.sess ≡ sess
left_alone sess side (Pass left) verdicts.Pass blocks vars reply h l = ap (λ (v : Variables). v.sess) l.0.vars_are ∙ h
left_alone sess side (Reply m left) verdicts.Reply blocks vars reply h l = ap (λ (v : Variables). v.sess) l.0.vars_are ∙ h
left_alone sess side (Deny code left) (verdicts.Deny told) blocks vars reply h l = ap (λ (v : Variables). v.sess) l.1.vars_are ∙ h
left_alone sess side (Fail why left) (verdicts.Fail told) blocks vars reply h l = ap (λ (v : Variables). v.sess) l.1.vars_are ∙ h
left_alone sess side (Pass left) verdicts.Reply blocks vars reply h l = absurd l
left_alone sess side (Pass left) (verdicts.Deny told) blocks vars reply h l = absurd l
left_alone sess side (Pass left) (verdicts.Fail told) blocks vars reply h l = absurd l
left_alone sess side (Reply m left) verdicts.Pass blocks vars reply h l = absurd l
left_alone sess side (Reply m left) (verdicts.Deny told) blocks vars reply h l = absurd l
left_alone sess side (Reply m left) (verdicts.Fail told) blocks vars reply h l = absurd l
left_alone sess side (Deny code left) verdicts.Pass blocks vars reply h l = absurd l
left_alone sess side (Deny code left) verdicts.Reply blocks vars reply h l = absurd l
left_alone sess side (Deny code left) (verdicts.Fail told) blocks vars reply h l = absurd l
left_alone sess side (Fail why left) verdicts.Pass blocks vars reply h l = absurd l
left_alone sess side (Fail why left) verdicts.Reply blocks vars reply h l = absurd l
left_alone sess side (Fail why left) (verdicts.Deny code) blocks vars reply h l = absurd l

-- steady rules leave the variables of the session as they are
pub leave_session : (size : ℕ) (rules : List Rule) (env : Env) (side : Side) (verdict : Answer) (blocks : List Block) (vars : Variables) (reply : List Block) → some_turn rules ≡ false
    → Leaves side (rules_of size rules env) verdict blocks vars reply → vars.sess ≡ env.vars.sess
leave_session size rules env side verdict blocks vars reply none l = left_alone env.vars.sess side (rules_of size rules env) verdict blocks vars reply (walk_keeps env.vars.sess size rules true env none refl) l

-- ---- behind a run

-- The rules are ready behind a run, whatever it made of the variables, where nothing is said of these but what is so.
pub ready_ran : (rules : SessionRules) (size : ℕ) (vars : Variables) (said : Contents) (scratch : Scratch) (begun : Bool) → IsReady rules → size ≡ size_of rules → IsScratch size scratch → said.size ≡ rules.said.size
    → (begun ≡ true → vars.sess ≡ (beginning rules.peer).sess) → IsReady (record rules { vars = vars; said = said; scratch = scratch; begun = begun; clear = false })
ready_ran rules size vars said scratch begun ready is sized same begins =
    record {
      valid = ready.valid;
      scratch = subst (λ (n : ℕ). IsScratch n scratch) is sized;
      said = same ∙ ready.said;
      steady = ready.steady;
      begun = begins;
      clear = λ is. absurd (let e : false ≡ true = is in cc e);
    }

-- where it failed nothing is said of them
pub nothing_said : (vars : Variables) (peer : Option Peer) → false ≡ true → vars.sess ≡ (beginning peer).sess
nothing_said vars peer is = absurd (let e : false ≡ true = is in cc e)
