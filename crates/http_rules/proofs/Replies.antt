-- What rules reply: no trailers, no chunks, and so much room that `connection: close` fits too.
use Rattle.std.proofs.Common.{arith, ◌≡◌, ◌≢◌, ◌≤◌, ℕ, List, [], ◌∷◌, Bool, true, false, cond, map, refl, subst, length}
use Rattle.std.specs.Prelude.{Option, Some, None, Result, Ok, Err, is_some, nat_le, not, ◌&&◌}
use Rattle.std.specs.List.{AllByRecursion}
use Rattle.std.proofs.lemmas.Bool.{leb-true}
use Rattle.http_model.specs.declared.Why.{Why}
use Rattle.http_model.specs.declared.Why.TheVariants.{Room, Bytes}
use Rattle.http_model.specs.declared.Framing.TheVariants.{Absent, Length, Chunked}
use Rattle.http_model.specs.Blocks.{load, Fits}
use Rattle.http_model.specs.Head.{Message, message_blocks}
use Rattle.http_model.specs.Refusal.{closing}
use Rattle.http_model.specs.Reply.{redirect_reply}
use Rattle.http_model.specs.Spelling.{SpellsBody}
use Rattle.session_model.specs.Env.{Pass, Reply, Deny, Fail}
use Rattle.px_bytes.specs.Blanks.{trimmed}
use Rattle.http_rules.specs.declared.rule.action.Direction.{Direction}
use Rattle.http_rules.specs.declared.rule.reply.RedirectTo.{RedirectTo}
use Rattle.http_rules.specs.declared.rule.reply.Payload.{Payload}
use Rattle.http_rules.specs.declared.rule.reply.Hdr.{Hdr}
use Rattle.http_rules.specs.declared.rule.action.Action.{Action}
use Rattle.http_rules.specs.declared.rule.action.Action.TheVariants as actions
use Rattle.http_rules.specs.declared.rule.rule.Rule.{Rule}
use Rattle.http_rules.specs.Rule.Valid.{is_bodiless, IsGoodAction, IsGoodRule}
use Rattle.http_rules.specs.Action.Given.{Env, text_on}
use Rattle.http_rules.specs.Action.Edits.{Step, by_text, are_value_bytes}
use Rattle.http_rules.specs.Action.Replies.{fitting, format_of, location_on, led_to, redirected, type_by, payload_text, hdr_field, returning, are_good_texts, returned}
use Rattle.http_rules.specs.Action.Steps.{steps_of}
use Rattle.http_rules.specs.Action.Acts.{left_by, Act, Next, Stop, Replies, Denies, Fails, after_step, run_steps, replying, act}
use Rattle.http_rules.specs.Rules.{Comes, answers, mode_after, runs, behind, walk, rules_of}

-- what holds of a reply, and of that of good rules
pub record IsReplied (size : ℕ) (good : Type 0) (m : Message) : Type 0 where
  pub trailers : m.trailers ≡ []
  pub framing : m.framing ≢ Chunked
  pub fits : Fits (message_blocks (closing m)) size
  pub body : good → SpellsBody true m.framing m.body m.trailers m.body

wider_reply : (size : ℕ) (good better : Type 0) (m : Message) → (better → good) → IsReplied size good m → IsReplied size better m
wider_reply size good better m by x = record { trailers = x.trailers; framing = x.framing; fits = x.fits; body = λ b. x.body (by b) }

-- ---- one reply

abbrev IfMade : (size : ℕ) → Type 0 → Result Message Why → Type 0
IfMade size good (Ok m) = IsReplied size good m
IfMade size good (Err why) = Unit {0}

chosen : (size : ℕ) (good : Type 0) (t : Bool) (a b : Result Message Why) → IfMade size good a → IfMade size good b → IfMade size good (cond t a b)
chosen size good true a b x y = x
chosen size good false a b x y = y

fits_in : (size : ℕ) (good : Type 0) (m : Message) → m.trailers ≡ [] → m.framing ≢ Chunked → (good → SpellsBody true m.framing m.body m.trailers m.body) → IfMade size good (fitting size m)
fits_in size good m none framing body = by (nat_le (load (message_blocks (closing m))) size) refl
  where
    by : (b : Bool) → nat_le (load (message_blocks (closing m))) size ≡ b → IfMade size good (cond b (Ok m) (Err Room))
    by true fits = record { trailers = none; framing = framing; fits = leb-true (load (message_blocks (closing m))) size fits; body = body }
    by false fits = tt

leads : (size : ℕ) (good : Type 0) (code : ℕ) (location : List ℕ) → IfMade size good (led_to size code location)
leads size good code location =
    chosen size good (are_value_bytes location) (fitting size (redirect_reply code (trimmed location))) (Err Bytes)
    (fits_in size good (redirect_reply code (trimmed location)) refl (λ (e : Length 0 ≡ Chunked). grind (arith, e)) (λ g. refl)) tt

redirects : (size : ℕ) (good : Type 0) (to : RedirectTo) (code : ℕ) (drop_query append_slash : Bool) (env : Env) → IfMade size good (redirected size to code drop_query append_slash env)
unfolding redirected
redirects size good to code drop_query append_slash env =
    let text = text_on size env (format_of to) in
    let location = location_on to drop_query append_slash text env in
    chosen size good (nat_le (length text) size) (led_to size code location) (Err Bytes) (leads size good code location) tt

framed : (t : Bool) (n : ℕ) → cond t Absent (Length n) ≢ Chunked
framed true n = λ e. grind (arith, e)
framed false n = λ e. grind (arith, e)

no_payload : (size : ℕ) (env : Env) (payload : Option Payload) (bodiless : Bool) → (is_some payload && bodiless) ≡ false → bodiless ≡ true → payload_text size env payload ≡ []
no_payload size env None bodiless sent is = refl
no_payload size env (Some payload) bodiless sent is = cc

spells_framed : (bodiless : Bool) (body : List ℕ) → (bodiless ≡ true → body ≡ []) → SpellsBody true (cond bodiless Absent (Length (length body))) body [] body
spells_framed true body none = none refl
spells_framed false body none = refl

returns : (size status : ℕ) (content_type : Option (List ℕ)) (payload : Option Payload) (hdrs : List Hdr) (env : Env)
    → IfMade size ((is_some payload && is_bodiless status) ≡ false) (returned size status content_type payload hdrs env)
unfolding returned
returns size status content_type payload hdrs env =
    let sent = (is_some payload && is_bodiless status) ≡ false in
    let text = payload_text size env payload in
    let m = returning status (type_by payload content_type) text (map (hdr_field size env) hdrs) in
    chosen size sent (are_good_texts size content_type payload hdrs env) (fitting size m) (Err Bytes)
    (fits_in size sent m refl (framed (is_bodiless status) (length text)) (λ g. spells_framed (is_bodiless status) text (no_payload size env payload (is_bodiless status) g))) tt

-- ---- one action

abbrev IfReplies : (size : ℕ) → Type 0 → Act → Type 0
IfReplies size good (Next next) = Unit {0}
IfReplies size good Stop = Unit {0}
IfReplies size good (Replies m) = IsReplied size good m
IfReplies size good (Denies code) = Unit {0}
IfReplies size good (Fails why left) = Unit {0}

replies_by : (size : ℕ) (good better : Type 0) (env : Env) (r : Result Message Why) → (better → good) → IfMade size good r → IfReplies size better (replying env r)
replies_by size good better env (Ok m) by x = wider_reply size good better m by x
replies_by size good better env (Err why) by x = tt

one_step : (size : ℕ) (good : Type 0) (env : Env) (others : Env → Act) (r : Result Env Why) → ((next : Env) → IfReplies size good (others next)) → IfReplies size good (after_step env r others)
one_step size good env others (Ok next) rest = rest (left_by env next)
one_step size good env others (Err why) rest = tt

in_turn : (size : ℕ) (good : Type 0) (steps : List Step) (env : Env) → IfReplies size good (run_steps steps env)
in_turn size good [] env = tt
in_turn size good (step ∷ steps) env = one_step size good env (run_steps steps) (step env) (λ next. in_turn size good steps next)

acts : (size : ℕ) (action : Action) (env : Env) → IfReplies size (IsGoodAction action) (act size action env)
unfolding act
acts size actions.Allow env = tt
acts size (actions.Deny code) env = tt
acts size (actions.Redirect to code drop_query append_slash) env =
    let action = actions.Redirect to code drop_query append_slash in
    replies_by size (IsGoodAction action) (IsGoodAction action) env (redirected size to code drop_query append_slash env) (λ g. g)
    (redirects size (IsGoodAction action) to code drop_query append_slash env)
acts size (actions.Return status content_type payload hdrs) env =
    replies_by size ((is_some payload && is_bodiless status) ≡ false) (IsGoodAction (actions.Return status content_type payload hdrs)) env (returned size status content_type payload hdrs env) (λ g. g.sent)
    (returns size status content_type payload hdrs env)
acts size action env = in_turn size (IsGoodAction action) (steps_of size action env) env

-- ---- rules

abbrev IfReplied : (size : ℕ) → Type 0 → Comes → Type 0
IfReplied size good (Pass left) = Unit {0}
IfReplied size good (Reply m left) = IsReplied size good m
IfReplied size good (Deny code left) = Unit {0}
IfReplied size good (Fail why left) = Unit {0}

wider : (size : ℕ) (good better : Type 0) (comes : Comes) → (better → good) → IfReplied size good comes → IfReplied size better comes
wider size good better (Pass left) by x = tt
wider size good better (Reply m left) by x = wider_reply size good better m by x
wider size good better (Deny code left) by x = tt
wider size good better (Fail why left) by x = tt

either : (size : ℕ) (good : Type 0) (t : Bool) (a b : Comes) → IfReplied size good a → IfReplied size good b → IfReplied size good (cond t a b)
either size good true a b x y = x
either size good false a b x y = y

goes_behind : (size : ℕ) (good all : Type 0) (strict : Bool) (action : Action) (env : Env) (done : Act) (others : Bool → Env → Comes) → (all → good) → IfReplies size good done
    → ((mode : Bool) (next : Env) → IfReplied size all (others mode next)) → IfReplied size all (behind strict action env done others)
goes_behind size good all strict action env (Next next) others by x rest = rest (mode_after strict action) next
goes_behind size good all strict action env Stop others by x rest = tt
goes_behind size good all strict action env (Replies m) others by x rest = wider_reply size good all m by x
goes_behind size good all strict action env (Denies code) others by x rest = tt
goes_behind size good all strict action env (Fails why left) others by x rest =
    either size all (not strict && not (answers action)) (others strict left) (Fail why left) (rest strict left) tt

abbrev AreGood : Direction → List Rule → Type 0
AreGood direction rules = AllByRecursion (IsGoodRule direction) rules

rules_reply : (size : ℕ) (direction : Direction) (rules : List Rule) (strict : Bool) (env : Env) → IfReplied size (AreGood direction rules) (walk size rules strict env)
rules_reply size direction [] strict env = tt
rules_reply size direction (rule ∷ rules) strict env =
    let all = AreGood direction (rule ∷ rules) in
    let rest : (mode : Bool) (next : Env) → IfReplied size all (walk size rules mode next) =
    λ mode next. wider size (AreGood direction rules) all (walk size rules mode next) (λ g. g.1) (rules_reply size direction rules mode next) in
    either size all (runs size rule.cond env) (behind strict rule.action env (act size rule.action env) (walk size rules)) (walk size rules strict env)
    (goes_behind size (IsGoodAction rule.action) all strict rule.action env (act size rule.action env) (walk size rules) (λ g. g.0.good) (acts size rule.action env) rest)
    (rest strict env)

-- what rules reply
pub replied : (size : ℕ) (direction : Direction) (rules : List Rule) (env left : Env) (m : Message) → rules_of size rules env ≡ Reply m left → IsReplied size (AreGood direction rules) m
replied size direction rules env left m is = subst (λ (c : Comes). IfReplied size (AreGood direction rules) c) is (rules_reply size direction rules true env)
