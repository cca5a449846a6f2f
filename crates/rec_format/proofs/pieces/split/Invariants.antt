use Rattle.std.proofs.Common.{◌≡◌, ◌++◌, take, drop}
use Rattle.rec_format.specs.Pieces.{before, behind}
use Rattle.rec_format.proofs.pieces.split.Given as goal

abbrev pub invariant-loop-at : goal.invariant-loop-at
invariant-loop-at l = record {
  front : take l.at l.bytes ++ before l.byte (drop l.at l.bytes) ≡ before l.byte l.bytes;
  back : behind l.byte (drop l.at l.bytes) ≡ behind l.byte l.bytes;
}
