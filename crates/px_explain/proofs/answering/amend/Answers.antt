use Rattle.std.proofs.Common.{true, false, refl, sym, subst, ◌∙◌}
use Rattle.http_model.specs.Finish.{finish_response}
use Rattle.http_rules.specs.Rules.{rules_of}
use Rattle.header_ops.specs.Headers.{HasEnd}
use Rattle.session_model.specs.Env.{response_env}
use Rattle.px_explain.proofs.Replies.{passed, sized, code_head}
use Rattle.px_explain.proofs.Walking.{answer_at}
use Rattle.px_explain.proofs.Finals.{is_long, amends, left_at, head_left, stands, fits_so, code_long, code_sent}
use Rattle.px_explain.proofs.answering.amend.Goals as goal

pub finish_response-requires : goal.finish_response-requires
finish_response-requires c =
    let cfg = c.args.config.now in
    let walk = c.args.walk.now in
    let head = c.requires.head in
    let env = response_env walk.teller.vars walk.method.bytes head.0 in
    let told = sized _ _ _ _ env _ _ _ _ _ c.requires.ready.msg (c.in_ok-verdict.ensures.told env (answer_at c.bytes.result walk.method.bytes head.0 walk.teller.vars walk.msg.blocks c.bytes.ensures.bytes head.1)) in
    let p = passed _ (rules_of cfg.limits.bufsize cfg.after env) _ _ _ _ told.leaves (sym c.passed.ensures ∙ c.if-not-passed.false) in
    subst (λ bs. HasEnd bs) (sym (head_left cfg.limits.bufsize cfg.after env p.left _ c.body_stays.ensures refl p.is p.blocks_are)) (c.edits_of_heads.ensures.end p.left.head)

pub returns-in-Ok : goal.returns-in-Ok
returns-in-Ok c = λ asker received env method meant finish left.
    let cfg = c.args.config.now in
    let walk = c.args.walk.now in
    let told = sized _ _ _ _ env _ _ _ _ _ c.requires.ready.msg (c.in_ok-verdict.ensures.told env (left_at c.bytes.result asker env walk c.bytes.ensures.bytes method left)) in
    let p = passed _ (rules_of cfg.limits.bufsize cfg.after env) _ _ _ _ told.leaves (sym c.passed.ensures ∙ c.if-not-passed.false) in
    let there = stands cfg asker received env c.body_stays.ensures left.body _ _ p in
    let fits = fits_so cfg asker received env c.body_stays.ensures left.body _ _ p c.args.finish finish _ (c.in_ok-verdict.ensures.size ∙ c.requires.ready.msg) true (c.in-Ok.ensures.fits p.left.head there) in
    amends cfg asker received env walk _ _ (is_long cfg asker received env c.args.head _ meant c.is_too_long.ensures ∙ c.if-is_too_long.false) told.lines
    (c.code_of.ensures ∙ (code_head (finish_response p.left.head c.args.finish.framing c.args.finish.declared c.args.finish.close) _ (c.in-Ok.ensures.ok p.left.head there)
    ∙ sym (code_sent cfg asker received env c.body_stays.ensures left.body _ _ p c.args.finish finish fits)))

pub returns-in-Err : goal.returns-in-Err
returns-in-Err c = λ asker received env method meant finish left.
    let cfg = c.args.config.now in
    let walk = c.args.walk.now in
    let told = sized _ _ _ _ env _ _ _ _ _ c.requires.ready.msg (c.in_ok-verdict.ensures.told env (left_at c.bytes.result asker env walk c.bytes.ensures.bytes method left)) in
    let p = passed _ (rules_of cfg.limits.bufsize cfg.after env) _ _ _ _ told.leaves (sym c.passed.ensures ∙ c.if-not-passed.false) in
    let there = stands cfg asker received env c.body_stays.ensures left.body _ _ p in
    let fits = fits_so cfg asker received env c.body_stays.ensures left.body _ _ p c.args.finish finish _ (c.in_ok-verdict.ensures.size ∙ c.requires.ready.msg) false (c.in-Err.ensures.fits p.left.head there) in
    amends cfg asker received env walk _ _ (is_long cfg asker received env c.args.head _ meant c.is_too_long.ensures ∙ c.if-is_too_long.false) told.lines
    (c.plain_code-in-Err.ensures.code ∙ sym (code_long cfg asker received env c.body_stays.ensures left.body _ _ p c.args.finish finish fits))
