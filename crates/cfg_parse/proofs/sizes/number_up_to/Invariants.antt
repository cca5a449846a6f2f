use Rattle.std.proofs.Common.{◌≡◌, ◌≤◌, drop}
use Rattle.std.specs.Prelude.{min}
use Rattle.std.specs.List.{list_all}
use Rattle.std.specs.Char.{is_ascii_digit}
use Rattle.std.specs.Str.Parse.{digits_value_after, digits_value}
use Rattle.cfg_parse.proofs.sizes.number_up_to.Given as goal

-- the digits so far and the rest give the number, as far as it is told
abbrev pub invariant-loop-byte : goal.invariant-loop-byte
invariant-loop-byte l = record {
  all : list_all is_ascii_digit (drop l.byte-index l.word) ≡ list_all is_ascii_digit l.word;
  value : min (digits_value_after 10 l.number (drop l.byte-index l.word)) l.most ≡ min (digits_value 10 l.word) l.most;
  small : l.number ≤ l.most;
}
