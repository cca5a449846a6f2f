use Rattle.std.proofs.Common.{◌≡◌, ◌++◌, drop}
use Rattle.std.specs.List.{flat_map}
use Rattle.px_explain.specs.Array.{byte_text}
use Rattle.px_explain.proofs.array.push_shown.Given as goal

-- what is left of the bytes is still to come
abbrev pub invariant-loop-byte : goal.invariant-loop-byte
invariant-loop-byte l = l.text ++ flat_map byte_text (drop l.byte-index l.bytes) ≡ l.initial.text ++ flat_map byte_text l.bytes
