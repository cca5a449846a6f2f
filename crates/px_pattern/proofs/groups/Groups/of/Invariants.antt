use Rattle.std.proofs.Common.{◌≡◌, ℕ, ◌<◌, length, option_map}
use Rattle.std.specs.Prelude.{IfSome}
use Rattle.regex.specs.Bytes.{captures_span, captures_haystack}
use Rattle.px_pattern.specs.Groups.{span_between, group_at, LiesIn}
use Rattle.px_pattern.proofs.groups.Groups.of.Given as goal

-- the spans of the groups so far
abbrev pub invariant-loop-n : goal.invariant-loop-n
invariant-loop-n l = record {
  count : length l.spans.items ≡ l.n;
  spans : (k : ℕ) → k < l.n → group_at l.spans.items k ≡ option_map span_between (captures_span l.captures k);
  within : (k : ℕ) → k < l.n → IfSome (group_at l.spans.items k) (LiesIn (length (captures_haystack l.captures)));
}
