use Rattle.std.proofs.lemmas.Bool.{false≢true}
use Rattle.std.proofs.Common.{ap}
use Rattle.session_core.specs.declared.machine.At.{At}
use Rattle.session_core.proofs.Stalls.{ready_first}
use Rattle.session_core.proofs.machine.Core.run_part.Goals as goal

pub returns-then-has_said-clause-keeps : goal.returns-then-has_said-clause-keeps
returns-then-has_said-clause-keeps g c = λ cfg past s. c.in_ok-run_answer.ensures.keeps cfg _ (c.in_ok-refuse_unserved.ensures.keeps cfg _ (c.run_request.ensures.keeps cfg past s))

pub returns-then-has_said-2-clause-keeps : goal.returns-then-has_said-2-clause-keeps
returns-then-has_said-2-clause-keeps g c = λ cfg past s.
    c.in_ok-run_answer-2.ensures.keeps cfg _ (c.in_ok-begin_exchange.ensures.keeps cfg _ (c.end_exchange.ensures.keeps cfg _
    (c.in_ok-run_answer.ensures.keeps cfg _ (c.in_ok-refuse_unserved.ensures.keeps cfg _ (c.run_request.ensures.keeps cfg past s)))))

pub returns-else-has_said-2-clause-keeps : goal.returns-else-has_said-2-clause-keeps
returns-else-has_said-2-clause-keeps g c = λ cfg past s.
    c.in_ok-run_answer-2.ensures.keeps cfg _ (c.in_ok-begin_exchange.ensures.keeps cfg _ (c.end_exchange.ensures.keeps cfg _
    (c.in_ok-run_answer.ensures.keeps cfg _ (c.in_ok-refuse_unserved.ensures.keeps cfg _ (c.run_request.ensures.keeps cfg past s)))))

pub returns-else-branch-clause-keeps : goal.returns-else-branch-clause-keeps
returns-else-branch-clause-keeps g c = λ cfg past s.
    c.in_ok-begin_exchange.ensures.keeps cfg _ (c.end_exchange.ensures.keeps cfg _
    (c.in_ok-run_answer.ensures.keeps cfg _ (c.in_ok-refuse_unserved.ensures.keeps cfg _ (c.run_request.ensures.keeps cfg past s))))

pub returns-else-branch-clause-settled : goal.returns-else-branch-clause-settled
returns-else-branch-clause-settled g c = λ _.
    c.in_ok-begin_exchange.ensures.settled c.if-branch.false
    (c.end_exchange.ensures.ended (ready_first c.run_request.new.self.at.phase c.refuse_unserved.new.self.at.phase c.run_answer.new.self.at.phase c.run_answer.new.self.at.cut
    (g.S.Works.request c.run_request.new.self.sides) (g.S.Works.request c.refuse_unserved.new.self.sides) (g.S.Works.request c.run_answer.new.self.sides) (g.S.Works.answer c.run_answer.new.self.sides)
    c.run_request.ensures.stepped c.in_ok-refuse_unserved.ensures.phase c.in_ok-refuse_unserved.ensures.request (ap (λ (t : At). t.phase) c.in_ok-run_answer.ensures.at) c.run_answer.ensures.request c.in_ok-run_answer.ensures.answered))

pub returns-in_err-refuse_unserved-clause-succeeds : goal.returns-in_err-refuse_unserved-clause-succeeds
returns-in_err-refuse_unserved-clause-succeeds g c = λ cfg past s e. absurd (false≢true (c.in_err-refuse_unserved.ensures.succeeds cfg _ (c.run_request.ensures.keeps cfg past s) e))

pub returns-in_err-run_answer-clause-succeeds : goal.returns-in_err-run_answer-clause-succeeds
returns-in_err-run_answer-clause-succeeds g c = λ cfg past s e. absurd (false≢true (c.in_err-run_answer.ensures.succeeds cfg _ (c.in_ok-refuse_unserved.ensures.keeps cfg _ (c.run_request.ensures.keeps cfg past s)) e))

pub returns-in_err-begin_exchange-clause-succeeds : goal.returns-in_err-begin_exchange-clause-succeeds
returns-in_err-begin_exchange-clause-succeeds g c = λ cfg past s e.
    absurd (false≢true (c.in_err-begin_exchange.ensures.succeeds cfg _ (c.end_exchange.ensures.keeps cfg _
    (c.in_ok-run_answer.ensures.keeps cfg _ (c.in_ok-refuse_unserved.ensures.keeps cfg _ (c.run_request.ensures.keeps cfg past s)))) e))

pub returns-in_err-run_answer-2-clause-succeeds : goal.returns-in_err-run_answer-2-clause-succeeds
returns-in_err-run_answer-2-clause-succeeds g c = λ cfg past s e.
    absurd (false≢true (c.in_err-run_answer-2.ensures.succeeds cfg _ (c.in_ok-begin_exchange.ensures.keeps cfg _ (c.end_exchange.ensures.keeps cfg _
    (c.in_ok-run_answer.ensures.keeps cfg _ (c.in_ok-refuse_unserved.ensures.keeps cfg _ (c.run_request.ensures.keeps cfg past s))))) e))
