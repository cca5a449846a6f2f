use Rattle.std.proofs.Common.{◌≡◌, ◌+◌, ◌*◌, ◌≤◌, ◌++◌, take}
use Rattle.px_proxyproto.specs.Texts.{groups_text}
use Rattle.px_proxyproto.proofs.line_text.put_groups.Given as goal

abbrev pub invariant-loop-i : goal.invariant-loop-i
invariant-loop-i l = record {
  within : l.end ≤ l.at + 5 * l.i;
  front : take l.end l.into ≡ take l.at l.initial.into ++ groups_text (take l.i l.groups);
}
