-- What lent parts show.
use Rattle.std.specs.Prelude.{option_map}
use Rattle.uri_parts.specs.Target.{TargetParts}
use Rattle.uri_parts.specs.declared.target.Parts.{Parts}

-- the bytes of lent parts
abbrev pub shown : Parts → TargetParts
shown parts = record {
  scheme = option_map (λ s. s.now) parts.scheme;
  authority = option_map (λ s. s.now) parts.authority;
  path = parts.path.now;
  query = option_map (λ s. s.now) parts.query;
}
