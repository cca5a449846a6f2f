use Rattle.std.proofs.Common.{refl, ◌∙◌}
use Rattle.std.proofs.lemmas.Result.{IfOk-weaker}
use Rattle.session_model.specs.Env.{response_env}
use Rattle.http_rules.specs.Rules.{rules_of}
use Rattle.px_explain.proofs.Walking.{told_so, answer_at, passes, passes_silent, denies, fails, replies}
use Rattle.px_explain.proofs.Finals.{head_left}
use Rattle.px_explain.proofs.Judged.{judged_passed, judged_denied, judged_failed, judged_replied}
use Rattle.px_explain.proofs.answering.judge.Goals as goal

pub amend-requires-clause-head : goal.amend-requires-clause-head
amend-requires-clause-head c =
    let cfg = c.args.config.now in
    let walk = c.args.walk.now in
    let head = c.requires.head in
    let env = response_env walk.teller.vars walk.method.bytes head.0 in
    let at = answer_at c.bytes.result walk.method.bytes head.0 walk.teller.vars walk.msg.blocks c.bytes.ensures.bytes head.1 in
    let told = told_so _ _ _ _ env _ _ _ _ _ _ c.requires.ready.msg c.in-Pass.is (c.in_ok-verdict.ensures.told env at) in
    let left = passes _ (rules_of cfg.limits.bufsize cfg.response env) _ _ _ told.leaves in
    (left.left.head, head_left cfg.limits.bufsize cfg.response env left.left _ c.body_stays.ensures refl left.is left.at.blocks_are)

pub amend-requires-clause-silent : goal.amend-requires-clause-silent
amend-requires-clause-silent c =
    let cfg = c.args.config.now in
    let walk = c.args.walk.now in
    let head = c.requires.head in
    let env = response_env walk.teller.vars walk.method.bytes head.0 in
    let at = answer_at c.bytes.result walk.method.bytes head.0 walk.teller.vars walk.msg.blocks c.bytes.ensures.bytes head.1 in
    let told = told_so _ _ _ _ env _ _ _ _ _ _ c.requires.ready.msg c.in-Pass.is (c.in_ok-verdict.ensures.told env at) in
    passes_silent _ (rules_of cfg.limits.bufsize cfg.response env) _ _ _ told.leaves

pub say-requires-clause-reply : goal.say-requires-clause-reply
say-requires-clause-reply c =
    let cfg = c.args.config.now in
    let walk = c.args.walk.now in
    let head = c.requires.head in
    let env = response_env walk.teller.vars walk.method.bytes head.0 in
    let at = answer_at c.bytes.result walk.method.bytes head.0 walk.teller.vars walk.msg.blocks c.bytes.ensures.bytes head.1 in
    let told = told_so _ _ _ _ env _ _ _ _ _ _ c.requires.ready.msg c.in-Reply.is (c.in_ok-verdict.ensures.told env at) in
    let left = replies _ (rules_of cfg.limits.bufsize cfg.response env) _ _ _ told.leaves in
    (left.message, record { blocks = left.stands; none = c.replies_are_plain.ensures.trailers cfg.limits.bufsize cfg.response env left.left left.message left.is })

pub returns-in-Pass : goal.returns-in-Pass
returns-in-Pass c =
    let cfg = c.args.config.now in
    let walk = c.args.walk.now in
    IfOk-weaker c.amend.result _ _
    (λ answer t. λ asker received known method stands.
    let env = response_env walk.teller.vars asker.method received.head in
    let at = answer_at c.bytes.result asker.method received.head walk.teller.vars walk.msg.blocks (c.bytes.ensures.bytes ∙ method) stands.blocks_are in
    let told = told_so _ _ _ _ env _ _ _ _ _ _ c.requires.ready.msg c.in-Pass.is (c.in_ok-verdict.ensures.told env at) in
    let left = passes _ (rules_of cfg.limits.bufsize cfg.response env) _ _ _ told.leaves in
    judged_passed cfg asker received walk _ _ answer told.lines left.left left.is
    (t asker received left.left method (record { framing = stands.framing; declared = stands.declared }) (c.finish_by-finish.ensures asker received known stands)
    (record {
      answers = left.at.on.0;
      method = left.at.on.1 ∙ (c.bytes.ensures.bytes ∙ method);
      body = c.body_stays.ensures cfg.limits.bufsize cfg.response env left.left left.is;
      blocks = head_left cfg.limits.bufsize cfg.response env left.left _ c.body_stays.ensures refl left.is left.at.blocks_are;
      vars = left.at.vars_are;
    }))) c.amend.ensures

pub returns-in-Deny : goal.returns-in-Deny
returns-in-Deny c =
    let cfg = c.args.config.now in
    let walk = c.args.walk.now in
    IfOk-weaker c.refuse.result _ _
    (λ answer t. λ asker received known method stands.
    let env = response_env walk.teller.vars asker.method received.head in
    let at = answer_at c.bytes.result asker.method received.head walk.teller.vars walk.msg.blocks (c.bytes.ensures.bytes ∙ method) stands.blocks_are in
    let told = told_so _ _ _ _ env _ _ _ _ _ _ c.requires.ready.msg c.in-Deny.is (c.in_ok-verdict.ensures.told env at) in
    let left = denies _ (rules_of cfg.limits.bufsize cfg.response env) _ _ _ _ told.leaves in
    judged_denied cfg asker received walk _ _ answer told.lines left.left left.at.vars_are method c.in-Deny.code left.is t) c.refuse.ensures

pub returns-in-Fail : goal.returns-in-Fail
returns-in-Fail c =
    let cfg = c.args.config.now in
    let walk = c.args.walk.now in
    IfOk-weaker c.refuse-in-Fail.result _ _
    (λ answer t. λ asker received known method stands.
    let env = response_env walk.teller.vars asker.method received.head in
    let at = answer_at c.bytes.result asker.method received.head walk.teller.vars walk.msg.blocks (c.bytes.ensures.bytes ∙ method) stands.blocks_are in
    let told = told_so _ _ _ _ env _ _ _ _ _ _ c.requires.ready.msg c.in-Fail.is (c.in_ok-verdict.ensures.told env at) in
    let left = fails _ (rules_of cfg.limits.bufsize cfg.response env) _ _ _ _ told.leaves in
    judged_failed cfg asker received walk _ _ answer told.lines left.left left.at.vars_are method _ left.is t) c.refuse-in-Fail.ensures

pub returns-in-Reply : goal.returns-in-Reply
returns-in-Reply c =
    let cfg = c.args.config.now in
    let walk = c.args.walk.now in
    IfOk-weaker c.say.result _ _
    (λ answer t. λ asker received known method stands.
    let env = response_env walk.teller.vars asker.method received.head in
    let at = answer_at c.bytes.result asker.method received.head walk.teller.vars walk.msg.blocks (c.bytes.ensures.bytes ∙ method) stands.blocks_are in
    let told = told_so _ _ _ _ env _ _ _ _ _ _ c.requires.ready.msg c.in-Reply.is (c.in_ok-verdict.ensures.told env at) in
    let left = replies _ (rules_of cfg.limits.bufsize cfg.response env) _ _ _ told.leaves in
    judged_replied cfg asker received walk _ _ answer told.lines left.left left.at.vars_are method left.message left.is
    (t left.message (record { blocks = left.stands; none = c.replies_are_plain.ensures.trailers cfg.limits.bufsize cfg.response env left.left left.message left.is }))) c.say.ensures
