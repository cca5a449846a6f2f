use Rattle.std.proofs.Common.{◌≡◌, ◌++◌, drop}
use Rattle.std.specs.List.{flat_map}
use Rattle.proxy_commands.specs.Refusals.{shown_byte}
use Rattle.proxy_commands.proofs.refusals.push_bytes.Given as goal

abbrev pub invariant-loop-byte : goal.invariant-loop-byte
invariant-loop-byte l = l.text ++ flat_map shown_byte (drop l.byte-index l.bytes) ≡ l.initial.text ++ flat_map shown_byte l.bytes
