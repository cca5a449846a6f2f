use Rattle.std.proofs.Common.{refl, sym, subst}
use Rattle.std.proofs.lemmas.Result.{IfOk-weaker}
use Rattle.http_rules.specs.Run.{IsHead}
use Rattle.http_rules.specs.declared.verdict.Verdict.TheVariants as verdicts
use Rattle.session_core.specs.declared.sides.Asked.TheVariants as asks
use Rattle.forward_core.specs.Request.Seen.{list_of}
use Rattle.forward_core.specs.declared.request.side.RequestSide.{RequestSide}
use Rattle.forward_core.specs.Joined.Asks.{HasRead, RulesRan}
use Rattle.forward_core.proofs.JoinedLemmas.Judged.{as_asked, denied, failed, behind_rules}
use Rattle.forward_core.proofs.joined.directions.Directions.ask_behind.Goals as goal

pub run_rules-requires-clause-read : goal.run_rules-requires-clause-read
run_rules-requires-clause-read c =
    let d = c.args.self.now in
    subst (λ (r : RequestSide). HasRead (record d { request = r })) (sym c.keep_head-kept.ensures.same) c.requires.read

pub run_rules-requires-clause-head : goal.run_rules-requires-clause-head
run_rules-requires-clause-head c = subst (λ (r : RequestSide). IsHead (list_of r)) (sym c.keep_head-kept.ensures.same) c.requires.head

-- ---- they pass

pub forward-requires-clause-read : goal.forward-requires-clause-read
forward-requires-clause-read c = c.in_ok-verdict.ensures.ran.read

pub forward-requires-clause-head : goal.forward-requires-clause-head
forward-requires-clause-head c = c.in_ok-verdict.ensures.ran.passes c.in-Pass.is

pub returns-in-Pass-clause-asks : goal.returns-in-Pass-clause-asks
returns-in-Pass-clause-asks c =
    let d = c.args.self.now in
    let mid = c.run_rules.new.self in
    let new = c.forward.new.self in
    let kept = c.keep_head-kept.result in
    let verdict = c.in_ok-verdict.verdict in
    let ran = subst (λ (r : RequestSide). RulesRan (record d { request = r }) mid verdict) c.keep_head-kept.ensures.same c.in_ok-verdict.ensures.ran in
    IfOk-weaker c.forward.result _ _ (λ asked h. behind_rules d mid new kept verdict asked c.keep_head-kept.ensures.kept ran (as_asked mid new kept verdict verdicts.Pass asked asked c.in-Pass.is refl h))
    c.forward.ensures.asks

-- ---- they deny

pub refuse_asked-requires : goal.refuse_asked-requires
refuse_asked-requires c = c.in_ok-verdict.ensures.ran.read.still

pub returns-in-Deny-clause-asks : goal.returns-in-Deny-clause-asks
returns-in-Deny-clause-asks c =
    let d = c.args.self.now in
    let mid = c.run_rules.new.self in
    let new = c.refuse_asked.new.self in
    let kept = c.keep_head-kept.result in
    let verdict = c.in_ok-verdict.verdict in
    let code = c.in-Deny.code in
    let ran = subst (λ (r : RequestSide). RulesRan (record d { request = r }) mid verdict) c.keep_head-kept.ensures.same c.in_ok-verdict.ensures.ran in
    IfOk-weaker c.refuse_asked.result _ _
    (λ asked h. behind_rules d mid new kept verdict asked c.keep_head-kept.ensures.kept ran
    (as_asked mid new kept verdict (verdicts.Deny code) asked asks.Refuse c.in-Deny.is h.0 (denied mid new kept code ran.read h.1)))
    c.refuse_asked.ensures.refuses

-- ---- a rule fails

pub refuse_asked-requires-in-Fail : goal.refuse_asked-requires-in-Fail
refuse_asked-requires-in-Fail c = c.in_ok-verdict.ensures.ran.read.still

pub returns-in-Fail-clause-asks : goal.returns-in-Fail-clause-asks
returns-in-Fail-clause-asks c =
    let d = c.args.self.now in
    let mid = c.run_rules.new.self in
    let new = c.refuse_asked-in-Fail.new.self in
    let kept = c.keep_head-kept.result in
    let verdict = c.in_ok-verdict.verdict in
    let why = c.in-Fail.field-0 in
    let ran = subst (λ (r : RequestSide). RulesRan (record d { request = r }) mid verdict) c.keep_head-kept.ensures.same c.in_ok-verdict.ensures.ran in
    IfOk-weaker c.refuse_asked-in-Fail.result _ _
    (λ asked h. behind_rules d mid new kept verdict asked c.keep_head-kept.ensures.kept ran
    (as_asked mid new kept verdict (verdicts.Fail why) asked asks.Refuse c.in-Fail.is h.0 (failed mid new kept why ran.read h.1)))
    c.refuse_asked-in-Fail.ensures.refuses

-- ---- they reply

pub reply_asked-requires-clause-read : goal.reply_asked-requires-clause-read
reply_asked-requires-clause-read c = c.in_ok-verdict.ensures.ran.read

pub reply_asked-requires-clause-reply : goal.reply_asked-requires-clause-reply
reply_asked-requires-clause-reply c = c.in_ok-verdict.ensures.ran.replies c.in-Reply.is

pub returns-in-Reply-clause-asks : goal.returns-in-Reply-clause-asks
returns-in-Reply-clause-asks c =
    let d = c.args.self.now in
    let mid = c.run_rules.new.self in
    let new = c.reply_asked.new.self in
    let kept = c.keep_head-kept.result in
    let verdict = c.in_ok-verdict.verdict in
    let ran = subst (λ (r : RequestSide). RulesRan (record d { request = r }) mid verdict) c.keep_head-kept.ensures.same c.in_ok-verdict.ensures.ran in
    IfOk-weaker c.reply_asked.result _ _ (λ asked h. behind_rules d mid new kept verdict asked c.keep_head-kept.ensures.kept ran (as_asked mid new kept verdict verdicts.Reply asked asked c.in-Reply.is refl h))
    c.reply_asked.ensures.asks
