use Rattle.std.proofs.Common.{◌≡◌, ◌^◌, ◌<◌, ◌≤◌, ◌++◌, drop, length, false}
use Rattle.std.specs.Fmt.{digits}
use Rattle.px_bytes.proofs.texts.write_hex.Given as goal

abbrev pub invariant-loop-left : goal.invariant-loop-left
invariant-loop-left l = record {
  long : length l.text ≡ 8;
  some : 1 ≤ l.at;
  most : l.at ≤ 8;
  small : l.left < 16 ^ l.at;
  written : digits 16 false l.left ++ drop l.at l.text ≡ digits 16 false l.n;
}

abbrev pub decreases-loop-left : goal.decreases-loop-left
decreases-loop-left l = l.left
