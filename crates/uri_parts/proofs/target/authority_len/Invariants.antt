use Rattle.std.proofs.Common.{◌≡◌, ◌+◌, drop}
use Rattle.std.specs.List.{prefix_len}
use Rattle.uri_parts.specs.Target.{is_authority_byte}
use Rattle.uri_parts.proofs.target.authority_len.Given as goal

abbrev pub invariant-loop-i : goal.invariant-loop-i
invariant-loop-i l = l.i + prefix_len is_authority_byte (drop l.i l.text) ≡ prefix_len is_authority_byte l.text
