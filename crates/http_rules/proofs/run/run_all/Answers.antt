use Rattle.std.proofs.Common.{ℕ, List, [], sym, subst}
use Rattle.std.proofs.lemmas.Bool.{false≢true}
use Rattle.http_model.specs.Block.{Block}
use Rattle.http_rules.specs.Action.Acts.{act}
use Rattle.http_rules.specs.Action.Does.{Replied}
use Rattle.http_rules.specs.declared.verdict.Ended.{Ended}
use Rattle.http_rules.specs.declared.verdict.Verdict.{Verdict}
use Rattle.http_rules.specs.Rules.{rules_of}
use Rattle.http_rules.specs.Run.{Leaves, EndsAt, AnswersAt, IsAnswer}
use Rattle.http_rules.proofs.Asked.{answered, good_answer, plain_answer}
use Rattle.http_rules.proofs.run.run_all.Goals as goal

pub returns-in-With-clause-leaves : goal.returns-in-With-clause-leaves
returns-in-With-clause-leaves c =
    λ env at.
    subst (λ (bs : List Block). Leaves c.args.side (rules_of c.args.msg.now.size c.args.rules.now env) c.in-With.verdict c.run_rules.new.msg.blocks c.run_rules.new.vars bs) (sym c.requires.no_reply)
    (subst (λ (o : Ended). EndsAt c.args.side c.args.msg.now.size c.args.rules.now env o c.run_rules.new.msg.blocks c.run_rules.new.vars) c.in-With.is (c.in_ok-verdict.ensures.leaves env at))

pub run_reply-requires-clause-valid : goal.run_reply-requires-clause-valid
run_reply-requires-clause-valid c =
    good_answer c.args.rules.now c.in-Answering.action.now c.requires.good (subst (λ (o : Ended). AnswersAt c.args.rules.now o) c.in-Answering.is c.in_ok-verdict.ensures.answers)

pub run_reply-requires-clause-answers : goal.run_reply-requires-clause-answers
run_reply-requires-clause-answers c =
    let answer : IsAnswer c.args.rules.now c.in-Answering.action.now = subst (λ (o : Ended). AnswersAt c.args.rules.now o) c.in-Answering.is c.in_ok-verdict.ensures.answers in
    answer.answers_is

pub returns-in_ok-step-in-Answering-clause-leaves : goal.returns-in_ok-step-in-Answering-clause-leaves
returns-in_ok-step-in-Answering-clause-leaves c =
    λ env at.
    let size = c.args.msg.now.size in
    let action = c.in-Answering.action.now in
    let blocks = c.run_rules.new.msg.blocks in
    let vars = c.run_rules.new.vars in
    let reply = c.run_reply.new.reply.blocks in
    let awaited = subst (λ (o : Ended). EndsAt c.args.side size c.args.rules.now env o blocks vars) c.in-Answering.is (c.in_ok-verdict.ensures.leaves env at) in
    let does = subst (λ (n : ℕ). Replied awaited.left (act n action awaited.left) c.in_ok-step-in-Answering.step reply) c.in_ok-verdict.ensures.size
    (c.in_ok-step-in-Answering.ensures.came awaited.left awaited.at_left) in
    subst (λ (v : Verdict). Leaves c.args.side (rules_of size c.args.rules.now env) v blocks vars reply) (sym c.verdict_by.ensures)
    (answered c.args.side size c.args.rules.now env action c.in_ok-step-in-Answering.step blocks vars reply awaited does)

pub returns-in_err-step-in-Answering-clause-succeeds : goal.returns-in_err-step-in-Answering-clause-succeeds
returns-in_err-step-in-Answering-clause-succeeds c =
    λ none. absurd (false≢true (c.in_err-step-in-Answering.ensures.succeeds
    (plain_answer c.args.rules.now c.in-Answering.action.now none (subst (λ (o : Ended). AnswersAt c.args.rules.now o) c.in-Answering.is c.in_ok-verdict.ensures.answers))))
