use Rattle.std.proofs.Common.{◌≡◌}
use Rattle.http_rules.proofs.ActionLemmas.Spread.{Spread, Joining}
use Rattle.http_rules.proofs.action.listed.put_values.Given as goal

-- the values so far are joined, and the others stand behind their place in the field
abbrev pub invariant-loop-at : goal.invariant-loop-at
invariant-loop-at l = record {
  spread : Spread l.field l.from l.at-iterator;
  joining : Joining l.initial.into.cap l.by.pat.now l.by.text.now l.field l.from l.at-iterator l.so_far l.into.bytes;
  text : l.text.cap ≡ l.initial.text.cap;
  cap : l.into.cap ≡ l.initial.into.cap;
}
