use Rattle.std.proofs.Common.{◌≡◌, ◌≤◌, ◌++◌, length, take}
use Rattle.px_conv.specs.Template.{expanded}
use Rattle.px_conv.proofs.template.expand.Given as goal

-- what was put in, with what is left, is the whole
abbrev pub invariant-pieces : goal.invariant-pieces
invariant-pieces l = record {
  cap : l.into.cap ≡ l.initial.into.cap;
  held : l.held ≡ length l.initial.into.bytes;
  within : length l.into.bytes ≤ l.into.cap;
  behind : length l.initial.into.bytes ≤ length l.into.bytes;
  front : take l.held l.into.bytes ≡ l.initial.into.bytes;
  whole : l.into.bytes ++ expanded l.groups l.text l.rest ≡ l.initial.into.bytes ++ expanded l.groups l.text l.template;
}

abbrev pub decreases-pieces : goal.decreases-pieces
decreases-pieces l = length l.rest
