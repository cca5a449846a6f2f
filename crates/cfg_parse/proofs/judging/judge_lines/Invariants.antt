use Rattle.std.proofs.Common.{◌≡◌, ◌+◌, ◌≤◌, length}
use Rattle.cfg_parse.specs.Sound.{IsSound}
use Rattle.cfg_parse.proofs.JudgingLemmas.{Going}
use Rattle.cfg_parse.proofs.judging.judge_lines.Given as goal

-- the lines so far are judged, and fewer are refused than the number of the next one
abbrev pub invariant-loop-rest : goal.invariant-loop-rest
invariant-loop-rest g l = record {
  going : Going l.text l.rest l.number l.draft l.refused (g.P.Patterns.refusals l.fn.pats) (g.P.Patterns.refusals l.pats);
  count : l.number + length l.rest ≤ length l.text + 1;
  few : l.refused.count + 1 ≤ l.number;
  sound : IsSound l.draft;
}

abbrev pub decreases-loop-rest : goal.decreases-loop-rest
decreases-loop-rest g l = length l.rest
