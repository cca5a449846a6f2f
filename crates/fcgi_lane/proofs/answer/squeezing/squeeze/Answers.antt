use Rattle.std.proofs.Common.{rules, ◌≡◌, ◌∙◌, ◌≤◌, take, false, arith}
use Rattle.fcgi_lane.specs.Answer.Flow.{is_going}
use Rattle.fcgi_lane.proofs.AnswerLemmas.Passing.{passes_all, passes_more, still_behind}
use Rattle.fcgi_lane.proofs.answer.squeezing.squeeze.Goals as goal

-- src/squeezing.rt:50:13
pub returns-then-not-is_going-clause-passes : goal.returns-then-not-is_going-clause-passes
returns-then-not-is_going-clause-passes c =
    let l = c.loop-used in
    let off : is_going l.records.place ≡ false = search rules in
    passes_all c.args.records.now l.records c.args.bytes.now (take l.found l.bytes) l.used l.invariant.passes off

-- src/squeezing.rt:48:5
pub loop-used-preserved : goal.loop-used-preserved
loop-used-preserved c =
    let l = c.loop-used in
    let all = c.args.bytes.now in
    let run = c.squeeze_run in
    let le : l.used ≤ run.result.1 = omega (arith, run.ensures.used.0) in
    record {
      found = run.ensures.found.1;
      used = omega (arith, run.ensures.used.1, l.invariant.len);
      len = run.ensures.len ∙ l.invariant.len;
      behind = still_behind all l.bytes run.new.bytes l.used run.result.1 le l.invariant.behind run.ensures.behind;
      patient = λ _. run.ensures.patient;
      idle = λ none. run.ensures.idle (omega (arith, none, run.ensures.found.0)) ∙ omega (arith, l.invariant.idle (omega (arith, none, run.ensures.found.0)), le);
      passes = passes_more c.args.records.now l.records run.new.records all l.bytes (take l.found l.bytes) (take run.result.0 run.new.bytes) run.ensures.goes.0 l.used run.result.1 le l.invariant.behind
          l.invariant.passes run.ensures.goes.1 run.ensures.goes.2;
    }
