use Rattle.std.proofs.Common.{◌≡◌, arith, rules}
use Rattle.cfg_parse.proofs.WholeLemmas.{start-sound}
use Rattle.cfg_parse.proofs.JudgingLemmas.{going_begin, going_on, going_end_so}
use Rattle.cfg_parse.proofs.judging.judge_lines.Goals as goal

pub loop-rest-init : goal.loop-rest-init
loop-rest-init g c = rw c.start-draft.ensures (record {
  going = going_begin c.args.text.now _ _ c.none_refused-refused.ensures;
  count = omega arith;
  few = omega (arith, c.none_refused-refused.ensures.count);
  sound = start-sound;
})

pub loop-rest-preserved : goal.loop-rest-preserved
loop-rest-preserved g c = record {
  going = going_on c.args.text.now c.loop-rest.rest.now c.first_line.result.1.now c.first_line.result.0.now c.loop-rest.number c.loop-rest.draft c.judge_line.new.draft c.loop-rest.refused c.judge_line.new.refused _ _ _
      c.first_line.ensures.lines c.loop-rest.invariant.going c.in_ok-judge_line.ensures.judged;
  count = omega (arith, c.first_line.ensures.shorter);
  few = omega (arith, c.in_ok-judge_line.ensures.judged.few);
  sound = c.in_ok-judge_line.ensures.sound c.loop-rest.invariant.sound;
}

pub returns-clause-judges : goal.returns-clause-judges
returns-clause-judges g c =
    going_end_so c.args.text.now c.loop-rest.rest.now c.loop-rest.number c.loop-rest.draft c.loop-rest.refused _ _ c.verdict_at_end.result c.requires (search rules) c.loop-rest.invariant.going c.verdict_at_end.ensures.ends
