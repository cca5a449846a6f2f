use Rattle.std.proofs.Common.{refl, ◌∙◌}
use Rattle.std.proofs.lemmas.Result.{IfOk-weaker}
use Rattle.session_model.specs.Env.{request_env}
use Rattle.http_rules.specs.Rules.{rules_of}
use Rattle.rec_format.specs.Read.{servers as entries}
use Rattle.px_explain.proofs.Methods.{method_front}
use Rattle.px_explain.proofs.Walking.{told_so, request_at, passes, denies, fails, replies, replied_as}
use Rattle.px_explain.proofs.Finals.{head_left}
use Rattle.px_explain.proofs.Asked.{denied, failed, replied_to, passed_on}
use Rattle.px_explain.proofs.asking.ask_behind.Goals as goal

pub forward-requires-clause-head : goal.forward-requires-clause-head
forward-requires-clause-head c =
    let cfg = c.args.config.now in
    let walk = c.args.walk.now in
    let head = c.requires.head in
    let env = request_env walk.teller.vars head.0 in
    let told = told_so _ _ _ _ env _ _ _ _ _ _ c.requires.ready.msg c.in-Pass.is (c.in_ok-verdict.ensures.told env (request_at head.0 walk.teller.vars walk.msg.blocks head.1)) in
    let left = passes _ (rules_of cfg.limits.bufsize cfg.request env) _ _ _ told.leaves in
    (left.left.head, head_left cfg.limits.bufsize cfg.request env left.left _ c.body_stays.ensures refl left.is left.at.blocks_are)

pub say-requires-clause-reply : goal.say-requires-clause-reply
say-requires-clause-reply c =
    let cfg = c.args.config.now in
    let walk = c.args.walk.now in
    let head = c.requires.head in
    let env = request_env walk.teller.vars head.0 in
    let told = told_so _ _ _ _ env _ _ _ _ _ _ c.requires.ready.msg c.in-Reply.is (c.in_ok-verdict.ensures.told env (request_at head.0 walk.teller.vars walk.msg.blocks head.1)) in
    let left = replies _ (rules_of cfg.limits.bufsize cfg.request env) _ _ _ told.leaves in
    (left.message, record { blocks = left.stands; none = c.replies_are_plain.ensures.trailers cfg.limits.bufsize cfg.request env left.left left.message left.is })

pub returns-in-Pass : goal.returns-in-Pass
returns-in-Pass c =
    let cfg = c.args.config.now in
    let walk = c.args.walk.now in
    IfOk-weaker c.forward.result _ _
    (λ answer t. λ received rest line stands.
    let env = request_env walk.teller.vars received.head in
    let told = told_so _ _ _ _ env _ _ _ _ _ _ c.requires.ready.msg c.in-Pass.is (c.in_ok-verdict.ensures.told env (request_at received.head walk.teller.vars walk.msg.blocks stands.blocks_are)) in
    let left = passes _ (rules_of cfg.limits.bufsize cfg.request env) _ _ _ told.leaves in
    let kept = c.kept_of-kept.ensures.kept received (record { line = line; blocks = stands.blocks_are; framing = stands.framing; close = stands.close }) in
    let alone = head_left cfg.limits.bufsize cfg.request env left.left _ c.body_stays.ensures refl left.is left.at.blocks_are in
    let method = c.keep_method.ensures.kept ∙ method_front _ left.left.head left.left.body left.at.blocks_are in
    passed_on cfg received rest walk _ _ answer (entries c.args.servers.now) told.lines left.left _ c.keep_method.ensures.kept left.at left.is
    (t received left.left.head rest kept (record { framing = stands.framing; declared = stands.declared }) alone method)) c.forward.ensures

pub returns-in-Deny : goal.returns-in-Deny
returns-in-Deny c =
    let cfg = c.args.config.now in
    let walk = c.args.walk.now in
    IfOk-weaker c.refuse_asked.result _ _
    (λ answer t. λ received rest line stands.
    let env = request_env walk.teller.vars received.head in
    let told = told_so _ _ _ _ env _ _ _ _ _ _ c.requires.ready.msg c.in-Deny.is (c.in_ok-verdict.ensures.told env (request_at received.head walk.teller.vars walk.msg.blocks stands.blocks_are)) in
    let left = denies _ (rules_of cfg.limits.bufsize cfg.request env) _ _ _ _ told.leaves in
    denied cfg received rest walk _ _ answer (entries c.args.servers.now) told.lines left.left _ c.keep_method.ensures.kept left.at c.in-Deny.code left.is t) c.refuse_asked.ensures

pub returns-in-Fail : goal.returns-in-Fail
returns-in-Fail c =
    let cfg = c.args.config.now in
    let walk = c.args.walk.now in
    IfOk-weaker c.refuse_asked-in-Fail.result _ _
    (λ answer t. λ received rest line stands.
    let env = request_env walk.teller.vars received.head in
    let told = told_so _ _ _ _ env _ _ _ _ _ _ c.requires.ready.msg c.in-Fail.is (c.in_ok-verdict.ensures.told env (request_at received.head walk.teller.vars walk.msg.blocks stands.blocks_are)) in
    let left = fails _ (rules_of cfg.limits.bufsize cfg.request env) _ _ _ _ told.leaves in
    failed cfg received rest walk _ _ answer (entries c.args.servers.now) told.lines left.left _ c.keep_method.ensures.kept left.at _ left.is t) c.refuse_asked-in-Fail.ensures

pub returns-in-Reply : goal.returns-in-Reply
returns-in-Reply c =
    let cfg = c.args.config.now in
    let walk = c.args.walk.now in
    IfOk-weaker c.say.result _ _
    (λ answer t. λ received rest line stands.
    let env = request_env walk.teller.vars received.head in
    let told = told_so _ _ _ _ env _ _ _ _ _ _ c.requires.ready.msg c.in-Reply.is (c.in_ok-verdict.ensures.told env (request_at received.head walk.teller.vars walk.msg.blocks stands.blocks_are)) in
    let left = replies _ (rules_of cfg.limits.bufsize cfg.request env) _ _ _ told.leaves in
    let said = t left.message (record { blocks = left.stands; none = c.replies_are_plain.ensures.trailers cfg.limits.bufsize cfg.request env left.left left.message left.is }) in
    let now = replied_as cfg _ _ answer left.message _ _ _ _ refl c.begin_answer.ensures said in
    replied_to cfg received rest walk (record { teller = c.tell_rules.new.teller; msg = c.tell_rules.new.msg; said = c.tell_rules.new.reply; method = c.keep_method.new.method }) _ answer (entries c.args.servers.now) told.lines left.left _ c.keep_method.ensures.kept left.at left.message left.is
    (record { lines = now.lines; status = now.status })) c.say.ensures
