use Rattle.std.proofs.Common.{◌≡◌, ◌+◌, ◌≤◌, length}
use Rattle.std.specs.Str.Lines.{lines}
use Rattle.cfg_parse.specs.Draft.{start}
use Rattle.cfg_parse.specs.Sound.{IsSound}
use Rattle.cfg_parse.specs.Whole.{lines_from}
use Rattle.cfg_parse.proofs.TextLemmas.{Leads}
use Rattle.cfg_parse.proofs.text.read_lines.Given as goal

-- the lines that are left give what all lines give, and no build was refused so far
abbrev pub invariant-loop-rest : goal.invariant-loop-rest
invariant-loop-rest g l = record {
  leads : Leads (lines_from 1 start (lines l.text)) (lines_from l.number l.draft (lines l.rest));
  count : l.number + length l.rest ≤ length l.text + 1;
  same : g.P.Patterns.refusals l.pats ≡ g.P.Patterns.refusals l.fn.pats;
  sound : IsSound l.draft;
}

abbrev pub decreases-loop-rest : goal.decreases-loop-rest
decreases-loop-rest g l = length l.rest
