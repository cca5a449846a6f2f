use Rattle.std.proofs.Common.{◌≡◌, ◌+◌, drop}
use Rattle.std.specs.List.{prefix_len}
use Rattle.uri_parts.specs.Target.{is_scheme_byte}
use Rattle.uri_parts.proofs.target.scheme_len.Given as goal

abbrev pub invariant-loop-i : goal.invariant-loop-i
invariant-loop-i l = l.i + prefix_len is_scheme_byte (drop l.i l.text) ≡ prefix_len is_scheme_byte l.text
