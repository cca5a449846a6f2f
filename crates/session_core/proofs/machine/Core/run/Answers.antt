use Rattle.std.proofs.lemmas.Bool.{false≢true}
use Rattle.std.proofs.Common.{ap, ◌∙◌}
use Rattle.session_core.specs.declared.machine.At.{At}
use Rattle.session_core.specs.Waits.{is_serving}
use Rattle.session_core.proofs.Noting.{meets_on}
use Rattle.session_core.proofs.Stalls.{ready_first, ready_again, serving_refused}
use Rattle.session_core.proofs.machine.Core.run.Goals as goal

pub loop-self-init : goal.loop-self-init
loop-self-init g c =
    record {
      keeps = λ cfg past s. c.end_exchange.ensures.keeps cfg _ (c.in_ok-run_answer.ensures.keeps cfg _ (c.in_ok-refuse_unserved.ensures.keeps cfg _ (c.run_request.ensures.keeps cfg past s)));
      placed = c.end_exchange.ensures.placed;
      met =
          meets_on _ c.run_request.new.self.at.cut _ _ c.run_request.ensures.met
          (c.end_exchange.ensures.cut ∙ ap (λ (t : At). t.cut) c.in_ok-run_answer.ensures.at ∙ c.in_ok-refuse_unserved.ensures.cut);
      ended =
          c.end_exchange.ensures.ended (ready_first c.run_request.new.self.at.phase c.refuse_unserved.new.self.at.phase c.run_answer.new.self.at.phase c.run_answer.new.self.at.cut
          (g.S.Works.request c.run_request.new.self.sides) (g.S.Works.request c.refuse_unserved.new.self.sides) (g.S.Works.request c.run_answer.new.self.sides) (g.S.Works.answer c.run_answer.new.self.sides)
          c.run_request.ensures.stepped c.in_ok-refuse_unserved.ensures.phase c.in_ok-refuse_unserved.ensures.request (ap (λ (t : At). t.phase) c.in_ok-run_answer.ensures.at) c.run_answer.ensures.request c.in_ok-run_answer.ensures.answered);
      serving =
          c.end_exchange.ensures.serving ∙ ap (λ (t : At). is_serving t.phase) c.in_ok-run_answer.ensures.at ∙ ap (λ ph. is_serving ph) c.in_ok-refuse_unserved.ensures.phase
          ∙ serving_refused c.run_request.new.self.at.phase ∙ ap (λ ph. is_serving ph) c.run_request.ensures.phase;
    }

pub loop-self-preserved : goal.loop-self-preserved
loop-self-preserved g c =
    record {
      keeps = λ cfg past s. c.end_exchange-in-loop-self.ensures.keeps cfg _ (c.in_ok-run_answer-2.ensures.keeps cfg _ (c.in_ok-begin_exchange.ensures.keeps cfg _ (c.loop-self.invariant.keeps cfg past s)));
      placed = c.end_exchange-in-loop-self.ensures.placed;
      met =
          meets_on _ c.loop-self.self.at.cut _ _ c.loop-self.invariant.met
          (c.end_exchange-in-loop-self.ensures.cut ∙ ap (λ (t : At). t.cut) c.in_ok-run_answer-2.ensures.at ∙ c.in_ok-begin_exchange.ensures.cut);
      ended =
          c.end_exchange-in-loop-self.ensures.ended (ready_again c.begin_exchange.new.self.at.phase c.run_answer-in-loop-self.new.self.at.phase c.run_answer-in-loop-self.new.self.at.cut
          (g.S.Works.request c.run_answer-in-loop-self.new.self.sides) (g.S.Works.answer c.run_answer-in-loop-self.new.self.sides)
          (c.in_ok-begin_exchange.ensures.saying c.if-branch.true) (ap (λ (t : At). t.phase) c.in_ok-run_answer-2.ensures.at) c.in_ok-run_answer-2.ensures.answered);
      serving =
          c.end_exchange-in-loop-self.ensures.serving ∙ ap (λ (t : At). is_serving t.phase) c.in_ok-run_answer-2.ensures.at ∙ c.in_ok-begin_exchange.ensures.serving ∙ c.loop-self.invariant.serving;
    }

pub returns-clause-keeps : goal.returns-clause-keeps
returns-clause-keeps g c = λ cfg past s. c.in_ok-begin_exchange.ensures.keeps cfg _ (c.loop-self.invariant.keeps cfg past s)

pub returns-clause-serving : goal.returns-clause-serving
returns-clause-serving g c = c.in_ok-begin_exchange.ensures.serving ∙ c.loop-self.invariant.serving

pub returns-clause-settled : goal.returns-clause-settled
returns-clause-settled g c = c.in_ok-begin_exchange.ensures.settled c.if-branch.false c.loop-self.invariant.ended

pub returns-in_err-refuse_unserved-clause-succeeds : goal.returns-in_err-refuse_unserved-clause-succeeds
returns-in_err-refuse_unserved-clause-succeeds g c = λ cfg past s e. absurd (false≢true (c.in_err-refuse_unserved.ensures.succeeds cfg _ (c.run_request.ensures.keeps cfg past s) e))

pub returns-in_err-run_answer-clause-succeeds : goal.returns-in_err-run_answer-clause-succeeds
returns-in_err-run_answer-clause-succeeds g c = λ cfg past s e. absurd (false≢true (c.in_err-run_answer.ensures.succeeds cfg _ (c.in_ok-refuse_unserved.ensures.keeps cfg _ (c.run_request.ensures.keeps cfg past s)) e))

pub returns-in_err-begin_exchange-clause-succeeds : goal.returns-in_err-begin_exchange-clause-succeeds
returns-in_err-begin_exchange-clause-succeeds g c = λ cfg past s e. absurd (false≢true (c.in_err-begin_exchange.ensures.succeeds cfg _ (c.loop-self.invariant.keeps cfg past s) e))

pub returns-in_err-run_answer-2-clause-succeeds : goal.returns-in_err-run_answer-2-clause-succeeds
returns-in_err-run_answer-2-clause-succeeds g c = λ cfg past s e. absurd (false≢true (c.in_err-run_answer-2.ensures.succeeds cfg _ (c.in_ok-begin_exchange.ensures.keeps cfg _ (c.loop-self.invariant.keeps cfg past s)) e))
