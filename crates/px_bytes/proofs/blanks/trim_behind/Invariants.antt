use Rattle.std.proofs.Common.{◌≡◌, ◌+◌, ◌≤◌, take, length}
use Rattle.std.specs.List.{suffix_len}
use Rattle.px_bytes.specs.Blanks.{is_blank}
use Rattle.px_bytes.proofs.blanks.trim_behind.Given as goal

abbrev pub invariant-loop-end : goal.invariant-loop-end
invariant-loop-end l = record {
  within : l.end ≤ length l.bytes;
  blank : suffix_len is_blank l.bytes + l.end ≡ length l.bytes + suffix_len is_blank (take l.end l.bytes);
}

abbrev pub decreases-loop-end : goal.decreases-loop-end
decreases-loop-end l = l.end
