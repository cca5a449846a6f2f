-- What is made of a head once the rules ran on it.
use Rattle.std.proofs.Common.{◌≡◌, ℕ, ◌<◌, ◌≤◌, List, [], Bool, true, false, refl, sym, ap, ◌∙◌, subst, arith}
use Rattle.htx_model.specs.Block.{Block}
use Rattle.htx_arena.specs.Layout.Contents.{Contents}
use Rattle.http_model.specs.declared.Framing.{Framing}
use Rattle.http_model.specs.declared.Why.{Why}
use Rattle.http_model.specs.Finish.{request_framing}
use Rattle.http_model.specs.Head.{Head, Message, head_blocks}
use Rattle.http_model.specs.Reading.{Received}
use Rattle.px_sample.specs.Buffer.{Buffer}
use Rattle.px_sample.specs.Variables.{Variables}
use Rattle.http_rules.specs.declared.rule.rule.Rule.{Rule}
use Rattle.http_rules.specs.declared.action.side.Side.TheVariants as sides
use Rattle.http_rules.specs.Action.Given.{Env}
use Rattle.http_rules.specs.declared.config.Config.{Config}
use Rattle.http_rules.specs.declared.verdict.Verdict.{Verdict}
use Rattle.http_rules.specs.declared.verdict.Verdict.TheVariants as verdicts
use Rattle.http_rules.specs.Rules.{Comes, rules_of}
use Rattle.http_rules.specs.Run.{Leaves, IsHead}
use Rattle.forward_core.specs.Meaning.Product.{meaning_of, filters_of, replaces}
use Rattle.session_model.specs.Env.{Pass, Reply, Deny, Fail, request_env, method_in}
use Rattle.session_model.specs.Env as model
use Rattle.session_model.specs.Meaning.{declares_too_much}
use Rattle.session_model.specs.Asking.{asked_by}
use Rattle.h1_head.specs.Lines.{IsRequestLine}
use Rattle.session_core.specs.Sided.{Sided, AnswerSeen}
use Rattle.session_core.specs.declared.sides.Asked.{Asked}
use Rattle.session_core.specs.declared.sides.Asked.TheVariants as asks
use Rattle.forward_core.specs.Rules.Ruling.{config_of, IsReady, HasReply}
use Rattle.forward_core.specs.declared.rules.rules.SessionRules.{SessionRules}
use Rattle.forward_core.specs.declared.request.kept.Kept.{Kept}
use Rattle.forward_core.specs.Request.Kept.{IsKept}
use Rattle.forward_core.specs.Request.Reads.{Holds}
use Rattle.forward_core.specs.Request.Seen.{list_of}
use Rattle.forward_core.specs.Request.Edits.{Edits, array_size_of, with_head, framing_of, declared_of}
use Rattle.forward_core.specs.declared.request.side.RequestSide.{RequestSide}
use Rattle.forward_core.specs.Joined.Joined.{IsSoundPair, settings_of}
use Rattle.forward_core.specs.Joined.Asks.{HasRead, Came, Ruled, RulesRan, RefusesSo, AsksOn, AsksBehind, method_at}
use Rattle.forward_core.specs.declared.joined.directions.Directions.{Directions}
use Rattle.forward_core.proofs.JoinedLemmas.Finished.{AreEdits, Finishes, SendsSo, edits_head, array_sized}
use Rattle.forward_core.proofs.JoinedLemmas.Forwarding.{asks_long, asks_unfit}
use Rattle.forward_core.proofs.JoinedLemmas.Joining.{sound_request, sound_rules}
use Rattle.forward_core.proofs.JoinedLemmas.Methods.{head_alone}
use Rattle.forward_core.proofs.JoinedLemmas.Refusing.{refuses_head, refusal_goes}
use Rattle.forward_core.proofs.JoinedLemmas.Sending.{BodyStays, Passed, has_passed, declares_at, fits_at, sends_head, sending_goes}
use Rattle.forward_core.proofs.JoinedLemmas.Verdicts.{Left, LeftReply, passes_with, denies_with, fails_with, replies_with, method_asked}

-- ---- the rules run

-- what the rules leave of each head that stands there
abbrev pub Runs : (d : Directions) (r : RequestSide) (rules : SessionRules) (verdict : Verdict) → Type 0
Runs d r rules verdict =
    (head : Head) → list_of d.request ≡ head_blocks head
    → Leaves sides.Request ((meaning_of (settings_of d)).request_rules (request_env d.rules.vars head)) verdict (list_of r) rules.vars rules.said.blocks

abbrev pub NoTrailers : Type 0
NoTrailers = (size : ℕ) (rules : List Rule) (env left : Env) (m : Message) → rules_of size rules env ≡ Reply m left → m.trailers ≡ []

leaves_head : (size : ℕ) (rules : List Rule) (env : Env) (blocks : List Block) (vars : Variables) (reply : List Block) → BodyStays → env.body ≡ [] → Leaves sides.Request (rules_of size rules env) verdicts.Pass blocks vars reply → IsHead blocks
leaves_head size rules env blocks vars reply stays none h =
    let x : Left (rules_of size rules env) (λ left. Pass left) blocks vars = passes_with (rules_of size rules env) blocks vars reply h in
    (x.left.head, head_alone blocks x.left.head x.left.body x.at.blocks_are (stays size rules env x.left x.is ∙ none))

leaves_reply : (size : ℕ) (rules : List Rule) (env : Env) (blocks : List Block) (vars : Variables) (reply : List Block) → NoTrailers → Leaves sides.Request (rules_of size rules env) verdicts.Reply blocks vars reply → HasReply reply
leaves_reply size rules env blocks vars reply none h =
    let x : LeftReply (rules_of size rules env) blocks vars reply = replies_with (rules_of size rules env) blocks vars reply h in
    (x.message, record { blocks = x.stands; none = none size rules env x.left x.message x.is })

leaves_at : (cfg now : Config) (vars held : Variables) (head : Head) (verdict : Verdict) (blocks : List Block) (left : Variables) (reply : List Block) → cfg ≡ now → vars ≡ held
    → Leaves sides.Request ((meaning_of cfg).request_rules (request_env vars head)) verdict blocks left reply → Leaves sides.Request ((meaning_of now).request_rules (request_env held head)) verdict blocks left reply
leaves_at cfg now vars held head verdict blocks left reply e f h =
    subst (λ (x : Variables). Leaves sides.Request ((meaning_of now).request_rules (request_env x head)) verdict blocks left reply) f
    (subst (λ (x : Config). Leaves sides.Request ((meaning_of x).request_rules (request_env vars head)) verdict blocks left reply) e h)

sound_ran : (d : Directions) (r : RequestSide) (rules : SessionRules) (method : Buffer) → IsSoundPair d → Edits d.request r → IsReady rules → config_of rules ≡ config_of d.rules → method.cap ≡ d.method.cap
    → IsSoundPair (record d { request = r; rules = rules; method = method })
sound_ran d r rules method s edits ready config cap =
    let t : IsSoundPair (record d { request = r; rules = rules }) = sound_rules (record d { request = r }) rules ready config (sound_request d r (edits.sound s.request) edits.limits s) in
    record { request = t.request; answer = t.answer; rules = t.rules; request_limits = t.request_limits; answer_size = t.answer_size; method = cap ∙ (s.method ∙ ap (λ (c : Config). c.limits.bufsize) (sym config)) }

ruled_by : (d : Directions) (r : RequestSide) (rules : SessionRules) (method : Buffer) (verdict : Verdict) → Edits d.request r → config_of rules ≡ config_of d.rules → method.bytes ≡ method_at (list_of r) → Runs d r rules verdict
    → (cfg : Config) (p : Sided (meaning_of cfg)) (received : Received) (kept : Kept) → Came cfg d p received → IsKept received kept → Ruled cfg (record d { request = r; rules = rules; method = method }) p received kept verdict
ruled_by d r rules method verdict edits config asks runs cfg p received kept came is_kept =
    record {
      config = config ∙ came.config;
      laws = came.laws;
      read = edits.came cfg p.came received came.read;
      answer = came.answer;
      kept_is = is_kept;
      leaves = leaves_at (settings_of d) cfg d.rules.vars p.vars received.head verdict (list_of r) rules.vars rules.said.blocks came.config came.vars (runs received.head came.holds.blocks);
      method = asks;
      framing = edits.framing ∙ came.holds.framing;
      declared = edits.declared ∙ came.holds.declared;
    }

pub rules_ran : (d : Directions) (r : RequestSide) (rules : SessionRules) (method : Buffer) (verdict : Verdict) → BodyStays → NoTrailers → HasRead d → IsHead (list_of d.request) → Edits d.request r → IsReady rules
    → config_of rules ≡ config_of d.rules → method.cap ≡ d.method.cap → method.bytes ≡ method_at (list_of r) → Runs d r rules verdict → RulesRan d (record d { request = r; rules = rules; method = method }) verdict
rules_ran d r rules method verdict stays none read head edits ready config cap asks runs =
    let env : Env = request_env d.rules.vars head.0 in
    let cfg : Config = settings_of d in
    record {
      read = record {
        still = record { sound = sound_ran d r rules method read.still.sound edits ready config cap; idle = edits.place ∙ read.still.idle; silent = read.still.silent };
        has = edits.has;
      };
      alike = record { is_open = edits.is_open; window = edits.window; input = edits.input; windows = λ n h. (edits.window_size ∙ h.0, h.1); answer = refl };
      config = config;
      passes = λ is. leaves_head cfg.limits.bufsize cfg.request env (list_of r) rules.vars rules.said.blocks stays refl
          (subst (λ (v : Verdict). Leaves sides.Request (rules_of cfg.limits.bufsize cfg.request env) v (list_of r) rules.vars rules.said.blocks) is (runs head.0 head.1));
      replies = λ is. leaves_reply cfg.limits.bufsize cfg.request env (list_of r) rules.vars rules.said.blocks none
          (subst (λ (v : Verdict). Leaves sides.Request (rules_of cfg.limits.bufsize cfg.request env) v (list_of r) rules.vars rules.said.blocks) is (runs head.0 head.1));
      ruled = ruled_by d r rules method verdict edits config asks runs;
    }

-- on the array that the request direction lends
pub rules_ran_on : (laws : AreEdits) (d : Directions) (was ran msg : Contents) (rules : SessionRules) (method : Buffer) (verdict : Verdict) → BodyStays → NoTrailers → HasRead d → IsHead (list_of d.request) → was ≡ d.request.lane.msg
    → ran.size ≡ was.size → msg ≡ ran → IsReady rules → config_of rules ≡ config_of d.rules → method.cap ≡ d.method.cap → method.bytes ≡ method_at msg.blocks
    → ((head : Head) → was.blocks ≡ head_blocks head
    → Leaves sides.Request ((meaning_of (settings_of d)).request_rules (request_env d.rules.vars head)) verdict ran.blocks rules.vars rules.said.blocks)
    → RulesRan d (record d { request = with_head d.request msg; rules = rules; method = method }) verdict
rules_ran_on laws d was ran msg rules method verdict stays none read head lent size same ready config cap asks runs =
    let sized : msg.size ≡ array_size_of d.request = ap (λ (x : Contents). x.size) same ∙ (size ∙ ap (λ (x : Contents). x.size) lent) in
    let each : Runs d (with_head d.request msg) rules verdict =
    λ at is. subst (λ (x : Contents). Leaves sides.Request ((meaning_of (settings_of d)).request_rules (request_env d.rules.vars at)) verdict x.blocks rules.vars rules.said.blocks) (sym same)
    (runs at (ap (λ (x : Contents). x.blocks) lent ∙ is)) in
    rules_ran d (with_head d.request msg) rules method verdict stays none read head (edits_head laws d msg read sized) ready config cap asks each

-- and the method fits its buffer
pub method_room : (laws : AreEdits) (d : Directions) (was ran msg : Contents) → HasRead d → was ≡ d.request.lane.msg → ran.size ≡ was.size → msg ≡ ran → msg.size ≤ d.method.cap
method_room laws d was ran msg read lent size same =
    let sized : msg.size ≡ (settings_of d).limits.bufsize = ap (λ (x : Contents). x.size) same ∙ (size ∙ (ap (λ (x : Contents). x.size) lent ∙ array_sized laws d read)) in
    let held : d.method.cap ≡ (settings_of d).limits.bufsize = read.still.sound.method in
    within msg.size d.method.cap (settings_of d).limits.bufsize sized held
  where
    within : (a b n : ℕ) → a ≡ n → b ≡ n → a ≤ b
    within a b n e f = omega arith

-- ---- refusals of the rules

pub as_asked : (old new : Directions) (kept : Kept) (verdict told : Verdict) (asks other : Asked) → verdict ≡ told → asks ≡ other → AsksOn old new kept told other → AsksOn old new kept verdict asks
as_asked old new kept verdict told asks other e f h =
    subst (λ (v : Verdict). AsksOn old new kept v asks) (sym e) (subst (λ (x : Asked). AsksOn old new kept told x) (sym f) h)

pub denied : (old new : Directions) (kept : Kept) (code : ℕ) → HasRead old → RefusesSo old new code old.method.bytes kept.head_asked → AsksOn old new kept (verdicts.Deny code) asks.Refuse
denied old new kept code read r =
    record {
      leads = λ cfg p received ruled.
          let comes : Comes = (meaning_of cfg).request_rules (request_env p.vars received.head) in
          let x : Left comes (λ left. Deny code left) (list_of old.request) old.rules.vars = denies_with comes code (list_of old.request) old.rules.vars old.rules.said.blocks ruled.leaves in
          refuses_head cfg old new p received kept (verdicts.Deny code) code (method_in x.left) x.left.vars ruled read.still.idle r (ruled.method ∙ method_asked x.left (list_of old.request) old.rules.vars x.at) x.at.vars_are
          (λ rest. sym (ap (λ (v : model.Verdict Variables). asked_by (meaning_of cfg) received rest v) x.is));
      goes = refusal_goes old new code old.method.bytes kept.head_asked read.still.idle r;
    }

pub failed : (old new : Directions) (kept : Kept) (why : Why) → HasRead old → RefusesSo old new 500 old.method.bytes kept.head_asked → AsksOn old new kept (verdicts.Fail why) asks.Refuse
failed old new kept why read r =
    record {
      leads = λ cfg p received ruled.
          let comes : Comes = (meaning_of cfg).request_rules (request_env p.vars received.head) in
          let x : Left comes (λ left. Fail why left) (list_of old.request) old.rules.vars = fails_with comes why (list_of old.request) old.rules.vars old.rules.said.blocks ruled.leaves in
          refuses_head cfg old new p received kept (verdicts.Fail why) 500 (method_in x.left) x.left.vars ruled read.still.idle r (ruled.method ∙ method_asked x.left (list_of old.request) old.rules.vars x.at) x.at.vars_are
          (λ rest. sym (ap (λ (v : model.Verdict Variables). asked_by (meaning_of cfg) received rest v) x.is));
      goes = refusal_goes old new 500 old.method.bytes kept.head_asked read.still.idle r;
    }

-- ---- a head that they let pass

-- the limits are those of the configuration that the rules give
pub limit_of : (d : Directions) (cfg : Config) → cfg ≡ settings_of d
    → declares_too_much (meaning_of (settings_of d)).request_filters (declared_of d.request) ≡ declares_too_much (filters_of cfg.req_filters) (declared_of d.request)
limit_of d cfg is = ap (λ (x : Config). declares_too_much (filters_of x.req_filters) (declared_of d.request)) (sym is)

-- and so is the framing
pub framing_sent : (d : Directions) (cfg : Config) (framing : Framing) → cfg ≡ settings_of d → framing ≡ request_framing (replaces cfg.req_filters) (framing_of d.request)
    → framing ≡ request_framing (replaces (settings_of d).req_filters) (framing_of d.request)
framing_sent d cfg framing is h = subst (λ (x : Config). framing ≡ request_framing (replaces x.req_filters) (framing_of d.request)) is h

pub too_long : (old new : Directions) (kept : Kept) → BodyStays → HasRead old → declares_too_much (meaning_of (settings_of old)).request_filters (declared_of old.request) ≡ true
    → RefusesSo old new 413 old.method.bytes kept.head_asked → AsksOn old new kept verdicts.Pass asks.Refuse
too_long old new kept stays read long r =
    record {
      leads = λ cfg p received ruled.
          let comes : Comes = (meaning_of cfg).request_rules (request_env p.vars received.head) in
          let x : Passed cfg old p received = has_passed cfg old p received kept stays ruled in
          refuses_head cfg old new p received kept verdicts.Pass 413 (model.method_of x.left.head.line) x.left.vars ruled read.still.idle r x.method x.vars
          (asks_long (meaning_of cfg) received comes x.left x.left.vars x.is refl (declares_at cfg old p received kept true ruled long));
      goes = refusal_goes old new 413 old.method.bytes kept.head_asked read.still.idle r;
    }

refuses_same : (old mid new : Directions) (code : ℕ) (no_body : Bool) → mid ≡ old → RefusesSo mid new code mid.method.bytes no_body → RefusesSo old new code old.method.bytes no_body
refuses_same old mid new code no_body same r = subst (λ (d : Directions). RefusesSo d new code d.method.bytes no_body) same r

pub unfit : (old mid new : Directions) (kept : Kept) (framing : Framing) → BodyStays → HasRead old → declares_too_much (meaning_of (settings_of old)).request_filters (declared_of old.request) ≡ false
    → framing ≡ request_framing (replaces (settings_of old).req_filters) (framing_of old.request) → Finishes old mid framing false
    → RefusesSo mid new 500 mid.method.bytes kept.head_asked → AsksOn old new kept verdicts.Pass asks.Refuse
unfit old mid new kept framing stays read short framed f r =
    let s : RefusesSo old new 500 old.method.bytes kept.head_asked = refuses_same old mid new 500 kept.head_asked (f.same refl) r in
    record {
      leads = λ cfg p received ruled.
          let comes : Comes = (meaning_of cfg).request_rules (request_env p.vars received.head) in
          let x : Passed cfg old p received = has_passed cfg old p received kept stays ruled in
          refuses_head cfg old new p received kept verdicts.Pass 500 (model.method_of x.left.head.line) x.left.vars ruled read.still.idle s x.method x.vars
          (asks_unfit (meaning_of cfg) received comes x.left x.left.vars x.is refl (declares_at cfg old p received kept false ruled short)
          (fits_at cfg old p received kept framing false x ruled framed (f.fits_is x.left.head x.blocks)));
      goes = refusal_goes old new 500 old.method.bytes kept.head_asked read.still.idle s;
    }

pub goes_to_server : (old mid new : Directions) (kept : Kept) (framing : Framing) → BodyStays → declares_too_much (meaning_of (settings_of old)).request_filters (declared_of old.request) ≡ false
    → framing ≡ request_framing (replaces (settings_of old).req_filters) (framing_of old.request) → Finishes old mid framing true → SendsSo mid new framing kept → AsksOn old new kept verdicts.Pass asks.Send
goes_to_server old mid new kept framing stays short framed f s =
    record {
      leads = λ cfg p received ruled. sends_head cfg old mid new p received kept framing stays ruled f s framed short;
      goes = sending_goes old mid new kept framing f s;
    }

-- ---- all of it

pub behind_rules : (old mid new : Directions) (kept : Kept) (verdict : Verdict) (asks : Asked)
    → ((received : Received) → Holds old.request received → IsRequestLine received.head.line → IsKept received kept)
    → RulesRan old mid verdict → AsksOn mid new kept verdict asks → AsksBehind old new asks
behind_rules old mid new kept verdict asks keeps ran on =
    record {
      leads = λ cfg p received came. on.leads cfg p received (ran.ruled cfg p received kept came (keeps received came.holds came.line));
      goes = record {
        placed = on.goes.placed;
        windows = λ n h. on.goes.windows n (ran.alike.windows n h);
        is_open = on.goes.is_open ∙ ran.alike.is_open;
        window = on.goes.window ∙ ran.alike.window;
        waits = on.goes.waits;
        less = λ before h. on.goes.less before (subst (λ (n : ℕ). n < before) (sym ran.alike.input) h);
        answer = on.goes.answer ∙ ap (λ (a : AnswerSeen). a.window) ran.alike.answer;
        starts = on.goes.starts;
        heard = on.goes.heard;
      };
    }
