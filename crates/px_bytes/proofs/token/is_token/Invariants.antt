use Rattle.std.proofs.Common.{◌≡◌, drop}
use Rattle.std.specs.List.{list_all}
use Rattle.px_bytes.specs.Tokens.{is_token_byte}
use Rattle.px_bytes.proofs.token.is_token.Given as goal

abbrev pub invariant-loop-byte : goal.invariant-loop-byte
invariant-loop-byte l = list_all is_token_byte (drop l.byte-index l.bytes) ≡ list_all is_token_byte l.bytes
