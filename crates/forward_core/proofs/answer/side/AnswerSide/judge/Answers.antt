use Rattle.std.proofs.Common.{◌≡◌, ◌∙◌, sym, ap, subst}
use Rattle.std.proofs.lemmas.Result.{on_ok_weaker}
use Rattle.http_model.specs.Head.{head_blocks}
use Rattle.lane.specs.Answering.{blocks_of}
use Rattle.forward_core.specs.Rules.Ruling.{config_of}
use Rattle.forward_core.specs.Answer.Seen.{size_of}
use Rattle.forward_core.specs.Answer.Hearing.{IsBetween, HasHead, FinalHead}
use Rattle.forward_core.specs.Answer.Judging.{GoesOut}
use Rattle.forward_core.specs.declared.answer.side.AnswerSide.{AnswerSide}
use Rattle.forward_core.proofs.AnswerLemmas.Lines.{replied_line}
use Rattle.forward_core.proofs.AnswerLemmas.VerdictLemmas.{passed_head, replied_so, judged_deny, judged_fail, judged_reply, judged_pass, listed_by}
use Rattle.forward_core.proofs.AnswerLemmas.JudgeLemmas.{edits_goes, sized_still}
use Rattle.forward_core.proofs.answer.side.AnswerSide.judge.Goals as goal

pub run_rules-requires-clause-between : goal.run_rules-requires-clause-between
run_rules-requires-clause-between c = subst IsBetween (sym c.is_not_modified-not_modified.ensures.same) c.requires.between

pub run_rules-requires-clause-has : goal.run_rules-requires-clause-has
run_rules-requires-clause-has c = subst HasHead (sym c.is_not_modified-not_modified.ensures.same) c.requires.has

pub run_rules-requires-clause-size : goal.run_rules-requires-clause-size
run_rules-requires-clause-size c = c.requires.size ∙ sym (ap size_of c.is_not_modified-not_modified.ensures.same)

-- ---- they deny

pub refuse-requires-clause-between : goal.refuse-requires-clause-between
refuse-requires-clause-between c = c.in_ok-verdict.ensures.edits.between

pub refuse-requires-clause-size : goal.refuse-requires-clause-size
refuse-requires-clause-size c = sized_still c.is_not_modified-not_modified.new.self c.run_rules.new.self c.args.rules.now c.run_rules.new.rules c.in_ok-verdict.ensures.edits c.in_ok-verdict.ensures.config (c.requires.size ∙ sym (ap size_of c.is_not_modified-not_modified.ensures.same))

pub returns-in-Deny-clause-leads : goal.returns-in-Deny-clause-leads
returns-in-Deny-clause-leads c =
    on_ok_weaker c.refuse.result
    (λ leads cfg asking server put saying received final standing runs before.
    let same = sym c.is_not_modified-not_modified.ensures.same in
    let f = subst (λ (s : AnswerSide). FinalHead cfg s asking server put received) same final in
    let blocks = subst (λ (s : AnswerSide). blocks_of s.lane ≡ head_blocks received.head) same standing in
    leads cfg asking server put saying
    (judged_deny c.args.rules.now c.args.method cfg c.is_not_modified-not_modified.new.self c.run_rules.new.self asking server put received c.run_rules.new.rules.vars c.run_rules.new.rules.said.blocks c.in_ok-verdict.ensures.edits f runs before
    c.in_ok-verdict.verdict c.in-Deny.code c.in-Deny.is (c.in_ok-verdict.ensures.runs received.head blocks))
    (c.in_ok-verdict.ensures.config ∙ runs.config))
    c.refuse.ensures.leads

pub returns-in-Deny-clause-goes_out : goal.returns-in-Deny-clause-goes_out
returns-in-Deny-clause-goes_out c =
    on_ok_weaker c.refuse.result (λ goes. subst (λ (s : AnswerSide). GoesOut s c.refuse.new.self) c.is_not_modified-not_modified.ensures.same (edits_goes c.is_not_modified-not_modified.new.self c.run_rules.new.self c.refuse.new.self c.in_ok-verdict.ensures.edits goes)) c.refuse.ensures.goes_out

-- ---- a rule fails

pub refuse-requires-in-Fail-clause-between : goal.refuse-requires-in-Fail-clause-between
refuse-requires-in-Fail-clause-between c = c.in_ok-verdict.ensures.edits.between

pub refuse-requires-in-Fail-clause-size : goal.refuse-requires-in-Fail-clause-size
refuse-requires-in-Fail-clause-size c = sized_still c.is_not_modified-not_modified.new.self c.run_rules.new.self c.args.rules.now c.run_rules.new.rules c.in_ok-verdict.ensures.edits c.in_ok-verdict.ensures.config (c.requires.size ∙ sym (ap size_of c.is_not_modified-not_modified.ensures.same))

pub returns-in-Fail-clause-leads : goal.returns-in-Fail-clause-leads
returns-in-Fail-clause-leads c =
    on_ok_weaker c.refuse-in-Fail.result
    (λ leads cfg asking server put saying received final standing runs before.
    let same = sym c.is_not_modified-not_modified.ensures.same in
    let f = subst (λ (s : AnswerSide). FinalHead cfg s asking server put received) same final in
    let blocks = subst (λ (s : AnswerSide). blocks_of s.lane ≡ head_blocks received.head) same standing in
    leads cfg asking server put saying
    (judged_fail c.args.rules.now c.args.method cfg c.is_not_modified-not_modified.new.self c.run_rules.new.self asking server put received c.run_rules.new.rules.vars c.run_rules.new.rules.said.blocks c.in_ok-verdict.ensures.edits f runs before
    c.in_ok-verdict.verdict c.in-Fail.field-0 c.in-Fail.is (c.in_ok-verdict.ensures.runs received.head blocks))
    (c.in_ok-verdict.ensures.config ∙ runs.config))
    c.refuse-in-Fail.ensures.leads

pub returns-in-Fail-clause-goes_out : goal.returns-in-Fail-clause-goes_out
returns-in-Fail-clause-goes_out c =
    on_ok_weaker c.refuse-in-Fail.result (λ goes. subst (λ (s : AnswerSide). GoesOut s c.refuse-in-Fail.new.self) c.is_not_modified-not_modified.ensures.same (edits_goes c.is_not_modified-not_modified.new.self c.run_rules.new.self c.refuse-in-Fail.new.self c.in_ok-verdict.ensures.edits goes)) c.refuse-in-Fail.ensures.goes_out

-- ---- they reply

pub reply-requires-clause-between : goal.reply-requires-clause-between
reply-requires-clause-between c = c.in_ok-verdict.ensures.edits.between

pub reply-requires-clause-size : goal.reply-requires-clause-size
reply-requires-clause-size c = sized_still c.is_not_modified-not_modified.new.self c.run_rules.new.self c.args.rules.now c.run_rules.new.rules c.in_ok-verdict.ensures.edits c.in_ok-verdict.ensures.config (c.requires.size ∙ sym (ap size_of c.is_not_modified-not_modified.ensures.same))

pub reply-requires-clause-reply : goal.reply-requires-clause-reply
reply-requires-clause-reply c =
    let run = config_of c.args.rules.now in
    let x = replied_so c.args.rules.now c.args.method (subst HasHead (sym c.is_not_modified-not_modified.ensures.same) c.requires.has).head c.in_ok-verdict.verdict _ c.run_rules.new.rules.vars c.run_rules.new.rules.said.blocks c.in-Reply.is (c.in_ok-verdict.ensures.runs (subst HasHead (sym c.is_not_modified-not_modified.ensures.same) c.requires.has).head (subst HasHead (sym c.is_not_modified-not_modified.ensures.same) c.requires.has).blocks) in
    (x.message, record { blocks = x.said_is; none = c.replies_are_plain.ensures.trailers run.limits.bufsize run.response _ x.at x.message x.comes })

pub returns-in-Reply-clause-leads : goal.returns-in-Reply-clause-leads
returns-in-Reply-clause-leads c =
    on_ok_weaker c.reply.result
    (λ leads cfg asking server put saying received final standing runs before.
    let same = sym c.is_not_modified-not_modified.ensures.same in
    let f = subst (λ (s : AnswerSide). FinalHead cfg s asking server put received) same final in
    let blocks = subst (λ (s : AnswerSide). blocks_of s.lane ≡ head_blocks received.head) same standing in
    let run = config_of c.args.rules.now in
    let laws = c.replies_are_plain.ensures in
    let x = replied_so c.args.rules.now c.args.method received.head c.in_ok-verdict.verdict _ c.run_rules.new.rules.vars c.run_rules.new.rules.said.blocks c.in-Reply.is (c.in_ok-verdict.ensures.runs received.head blocks) in
    leads cfg asking server put saying x.message
    (judged_reply c.args.rules.now c.args.method cfg c.is_not_modified-not_modified.new.self c.run_rules.new.self asking server put received c.run_rules.new.rules.vars c.run_rules.new.rules.said.blocks c.in_ok-verdict.ensures.edits f runs before x)
    (c.in_ok-verdict.ensures.config ∙ runs.config) x.said_is
    (listed_by x.message (replied_line run.limits.bufsize run.response _ x.at x.message x.comes) (laws.trailers run.limits.bufsize run.response _ x.at x.message x.comes) (laws.framing run.limits.bufsize run.response _ x.at x.message x.comes)
    (laws.body run.limits.bufsize _ run.response _ x.at x.message c.requires.ready.valid.response x.comes)))
    c.reply.ensures.leads

pub returns-in-Reply-clause-goes_out : goal.returns-in-Reply-clause-goes_out
returns-in-Reply-clause-goes_out c =
    on_ok_weaker c.reply.result (λ goes. subst (λ (s : AnswerSide). GoesOut s c.reply.new.self) c.is_not_modified-not_modified.ensures.same (edits_goes c.is_not_modified-not_modified.new.self c.run_rules.new.self c.reply.new.self c.in_ok-verdict.ensures.edits goes)) c.reply.ensures.goes_out

-- ---- they pass

pub amend-requires-clause-between : goal.amend-requires-clause-between
amend-requires-clause-between c = c.in_ok-verdict.ensures.edits.between

pub amend-requires-clause-size : goal.amend-requires-clause-size
amend-requires-clause-size c = sized_still c.is_not_modified-not_modified.new.self c.run_rules.new.self c.args.rules.now c.run_rules.new.rules c.in_ok-verdict.ensures.edits c.in_ok-verdict.ensures.config (c.requires.size ∙ sym (ap size_of c.is_not_modified-not_modified.ensures.same))

pub amend-requires-clause-has : goal.amend-requires-clause-has
amend-requires-clause-has c =
    let run = config_of c.args.rules.now in
    let x = passed_head c.args.rules.now c.args.method (subst HasHead (sym c.is_not_modified-not_modified.ensures.same) c.requires.has).head c.in_ok-verdict.verdict _ c.run_rules.new.rules.vars c.run_rules.new.rules.said.blocks (λ at is. c.body_stays.ensures run.limits.bufsize run.response _ at is) c.in-Pass.is
    (c.in_ok-verdict.ensures.runs (subst HasHead (sym c.is_not_modified-not_modified.ensures.same) c.requires.has).head (subst HasHead (sym c.is_not_modified-not_modified.ensures.same) c.requires.has).blocks) in
    record { stage = c.in_ok-verdict.ensures.edits.stage; head = x.0; blocks = x.1 }

pub returns-in-Pass-clause-leads : goal.returns-in-Pass-clause-leads
returns-in-Pass-clause-leads c =
    on_ok_weaker c.amend.result
    (λ leads cfg asking server put saying received final standing runs before.
    let same = sym c.is_not_modified-not_modified.ensures.same in
    let f = subst (λ (s : AnswerSide). FinalHead cfg s asking server put received) same final in
    let blocks = subst (λ (s : AnswerSide). blocks_of s.lane ≡ head_blocks received.head) same standing in
    let run = config_of c.args.rules.now in
    leads cfg asking server put saying received (c.in_ok-verdict.ensures.edits.final cfg asking server put received f)
    (judged_pass c.args.rules.now c.args.method cfg c.is_not_modified-not_modified.new.self c.run_rules.new.self asking server put received c.run_rules.new.rules.vars c.run_rules.new.rules.said.blocks c.in_ok-verdict.ensures.edits f runs before
    c.in_ok-verdict.verdict (λ at is. c.body_stays.ensures run.limits.bufsize run.response _ at is) c.in-Pass.is (c.in_ok-verdict.ensures.runs received.head blocks))
    (record { config = c.in_ok-verdict.ensures.config ∙ runs.config; asked = runs.asked }) (c.is_not_modified-not_modified.ensures.tells received.head standing))
    c.amend.ensures.leads

pub returns-in-Pass-clause-goes_out : goal.returns-in-Pass-clause-goes_out
returns-in-Pass-clause-goes_out c =
    on_ok_weaker c.amend.result (λ goes. subst (λ (s : AnswerSide). GoesOut s c.amend.new.self) c.is_not_modified-not_modified.ensures.same (edits_goes c.is_not_modified-not_modified.new.self c.run_rules.new.self c.amend.new.self c.in_ok-verdict.ensures.edits goes)) c.amend.ensures.goes_out
