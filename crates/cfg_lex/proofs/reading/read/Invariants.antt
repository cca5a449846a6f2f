use Rattle.std.proofs.Common.{◌≡◌, ◌-◌, ◌≤◌, length, drop}
use Rattle.std.specs.Prelude.{fold}
use Rattle.cfg_lex.specs.Words.{parts_behind, with_part, read_line}
use Rattle.cfg_lex.proofs.reading.read.Given as goal

-- what is read so far and the rest of the line give what the line gives
abbrev pub invariant-loop-at : goal.invariant-loop-at
invariant-loop-at l = record {
  in_range : l.at ≤ length l.line;
  same : fold with_part l.draft (parts_behind 0 l.quotes (drop l.at l.line)) ≡ read_line l.line;
}

abbrev pub decreases-loop-at : goal.decreases-loop-at
decreases-loop-at l = length l.line - l.at
