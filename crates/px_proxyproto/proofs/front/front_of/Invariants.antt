use Rattle.std.proofs.Common.{◌≤◌, ◌-◌, take, length}
use Rattle.px_proxyproto.specs.Reading.{HasRead}
use Rattle.px_proxyproto.proofs.front.front_of.Given as goal

-- what was fed may become a header
abbrev pub invariant-pieces : goal.invariant-pieces
invariant-pieces l = record {
  within : l.at ≤ length l.bytes;
  has : HasRead l.reader (take l.at l.bytes);
}

abbrev pub decreases-pieces : goal.decreases-pieces
decreases-pieces l = length l.bytes - l.at
