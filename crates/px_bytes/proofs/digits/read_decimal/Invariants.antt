use Rattle.std.proofs.Common.{◌≡◌, ◌<◌, ◌^◌, drop}
use Rattle.std.specs.List.{list_all}
use Rattle.std.specs.Char.{is_ascii_digit}
use Rattle.std.specs.Str.Parse.{digits_value_after, digits_value}
use Rattle.px_bytes.proofs.digits.read_decimal.Given as goal

abbrev pub invariant-loop-byte : goal.invariant-loop-byte
invariant-loop-byte l = record {
  all : list_all is_ascii_digit (drop l.byte-index l.bytes) ≡ list_all is_ascii_digit l.bytes;
  value : digits_value_after 10 l.number (drop l.byte-index l.bytes) ≡ digits_value 10 l.bytes;
  small : l.number < 10 ^ l.byte-index;
}
