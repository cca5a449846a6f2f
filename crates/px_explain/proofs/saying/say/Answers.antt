use Rattle.std.proofs.Common.{ℕ, sym, ap, ◌∙◌}
use Rattle.std.specs.Prelude.{Some}
use Rattle.http_rules.specs.Rules.{rules_of}
use Rattle.session_model.specs.Env.{reply_env}
use Rattle.px_explain.proofs.Replies.{failed, passed, sized, reply_at, status_failed, status_long, status_sent, ends}
use Rattle.px_explain.proofs.saying.say.Goals as goal

pub returns-then-not-passed : goal.returns-then-not-passed
returns-then-not-passed c = λ m reply.
    let cfg = c.args.config.now in
    let walk = c.args.walk.now in
    let env = reply_env walk.teller.vars walk.method.bytes m in
    let told = sized _ _ _ _ env _ _ _ _ _ c.requires.ready.said (c.in_ok-verdict.ensures.told env (reply_at c.bytes.result walk.method.bytes m walk.teller.vars walk.said.blocks c.bytes.ensures.bytes reply)) in
    record {
      lines = told.lines;
      status = ap (λ (n : ℕ). Some n) c.plain_code.ensures.code ∙ sym (status_failed cfg m walk.method.bytes walk.teller.vars (failed _ (rules_of cfg.limits.bufsize cfg.after env) _ _ _ _ told.leaves (sym c.passed.ensures ∙ c.if-not-passed.true)));
    }

pub has_room_to_close-requires : goal.has_room_to_close-requires
has_room_to_close-requires c =
    let cfg = c.args.config.now in
    let walk = c.args.walk.now in
    let m = c.requires.reply.0 in
    let env = reply_env walk.teller.vars walk.method.bytes m in
    let told = sized _ _ _ _ env _ _ _ _ _ c.requires.ready.said (c.in_ok-verdict.ensures.told env (reply_at c.bytes.result walk.method.bytes m walk.teller.vars walk.said.blocks c.bytes.ensures.bytes c.requires.reply.1)) in
    ends cfg m walk.method.bytes walk.teller.vars c.requires.reply.1.none c.body_stays.ensures _ _ (passed _ (rules_of cfg.limits.bufsize cfg.after env) _ _ _ _ told.leaves (sym c.passed.ensures ∙ c.if-not-passed.false)) c.replies_of_messages.ensures.end

pub returns-then-not-has_room_to_close : goal.returns-then-not-has_room_to_close
returns-then-not-has_room_to_close c = λ m reply.
    let cfg = c.args.config.now in
    let walk = c.args.walk.now in
    let env = reply_env walk.teller.vars walk.method.bytes m in
    let told = sized _ _ _ _ env _ _ _ _ _ c.requires.ready.said (c.in_ok-verdict.ensures.told env (reply_at c.bytes.result walk.method.bytes m walk.teller.vars walk.said.blocks c.bytes.ensures.bytes reply)) in
    let p = passed _ (rules_of cfg.limits.bufsize cfg.after env) _ _ _ _ told.leaves (sym c.passed.ensures ∙ c.if-not-passed.false) in
    record {
      lines = told.lines;
      status = ap (λ (n : ℕ). Some n) c.plain_code-then-not-has_room_to_close.ensures.code ∙ sym (status_long cfg m walk.method.bytes walk.teller.vars reply.none c.body_stays.ensures _ _ p c.replies_of_messages.ensures.close _ (c.in_ok-verdict.ensures.size ∙ c.requires.ready.said) _ c.has_room_to_close.ensures c.if-not-has_room_to_close.true);
    }

pub returns : goal.returns
returns c = λ m reply.
    let cfg = c.args.config.now in
    let walk = c.args.walk.now in
    let env = reply_env walk.teller.vars walk.method.bytes m in
    let told = sized _ _ _ _ env _ _ _ _ _ c.requires.ready.said (c.in_ok-verdict.ensures.told env (reply_at c.bytes.result walk.method.bytes m walk.teller.vars walk.said.blocks c.bytes.ensures.bytes reply)) in
    let p = passed _ (rules_of cfg.limits.bufsize cfg.after env) _ _ _ _ told.leaves (sym c.passed.ensures ∙ c.if-not-passed.false) in
    record {
      lines = told.lines;
      status = status_sent cfg m walk.method.bytes walk.teller.vars reply.none c.body_stays.ensures _ _ p c.replies_of_messages.ensures.close _ (c.in_ok-verdict.ensures.size ∙ c.requires.ready.said) _ c.has_room_to_close.ensures c.if-not-has_room_to_close.false _ c.code_of.ensures;
    }
