use Rattle.std.proofs.Common.{◌≡◌, ◌+◌, nat_eq, not, drop}
use Rattle.std.specs.List.{prefix_len}
use Rattle.fcgi_lane.proofs.request.head_reading.len_before.Given as goal

abbrev pub invariant-loop-i : goal.invariant-loop-i
invariant-loop-i l = l.i + prefix_len (λ b. not (nat_eq b l.stop)) (drop l.i l.text) ≡ prefix_len (λ b. not (nat_eq b l.stop)) l.text
