use Rattle.std.proofs.Common.{◌≡◌, ◌-◌, ◌^◌, ◌≤◌, min, drop}
use Rattle.std.specs.List.{list_all}
use Rattle.std.specs.Char.{is_ascii_digit}
use Rattle.std.specs.Str.Parse.{digits_value_after, digits_value}
use Rattle.rec_format.proofs.pieces.number.Given as goal

abbrev pub invariant-loop-byte : goal.invariant-loop-byte
invariant-loop-byte l = record {
  all : list_all is_ascii_digit (drop l.byte-index l.word) ≡ list_all is_ascii_digit l.word;
  small : l.number ≤ 2 ^ 64 - 1;
  value : min (digits_value_after 10 l.number (drop l.byte-index l.word)) (2 ^ 64 - 1) ≡ min (digits_value 10 l.word) (2 ^ 64 - 1);
}
