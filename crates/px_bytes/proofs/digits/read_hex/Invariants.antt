use Rattle.std.proofs.Common.{◌≡◌, ◌<◌, ◌^◌, drop}
use Rattle.std.specs.List.{list_all}
use Rattle.std.specs.Char.{is_ascii_hexdigit}
use Rattle.std.specs.Str.Parse.{digits_value_after, digits_value}
use Rattle.px_bytes.proofs.digits.read_hex.Given as goal

abbrev pub invariant-loop-byte : goal.invariant-loop-byte
invariant-loop-byte l = record {
  all : list_all is_ascii_hexdigit (drop l.byte-index l.bytes) ≡ list_all is_ascii_hexdigit l.bytes;
  value : digits_value_after 16 l.number (drop l.byte-index l.bytes) ≡ digits_value 16 l.bytes;
  small : l.number < 16 ^ l.byte-index;
}
