use Rattle.std.proofs.Common.{◌≡◌, drop}
use Rattle.uri_parts.specs.Authority.{state_after}
use Rattle.uri_parts.specs.declared.authority.NameState.TheVariants.{Plain}
use Rattle.uri_parts.proofs.authority.is_name.Given as goal

abbrev pub invariant-loop-byte : goal.invariant-loop-byte
invariant-loop-byte l = state_after l.state (drop l.byte-index l.text) ≡ state_after Plain l.text
