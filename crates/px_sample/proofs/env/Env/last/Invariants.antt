use Rattle.std.proofs.Common.{◌≡◌, length}
use Rattle.px_sample.specs.Sample.{value_in, within}
use Rattle.px_sample.specs.Fetched.{all_within, last_of}
use Rattle.px_sample.proofs.FetchedLemmas.{last_after}
use Rattle.px_sample.proofs.env.Env.last.Given as goal

-- the last of those that are left is the last of all
abbrev pub invariant-samples : goal.invariant-samples
invariant-samples g l = record {
  cap : l.into.cap ≡ l.initial.into.cap;
  value : last_after (value_in l.last l.into.bytes) (all_within l.initial.into.cap (g.Self.Env.left l.self l.fetch l.place)) ≡ within l.initial.into.cap (last_of (g.Self.Env.samples l.self l.fetch));
}

abbrev pub decreases-samples : goal.decreases-samples
decreases-samples g l = length (g.Self.Env.left l.self l.fetch l.place)
