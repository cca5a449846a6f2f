-- Numbers written in digits.
use Rattle.std.specs.Prelude.{ℕ, Bool, ◌&&◌, List, length, nat_le, if◌then◌else◌, Option, Some, None}
use Rattle.std.specs.List.{list_all}
use Rattle.std.specs.Char.{is_ascii_digit, is_ascii_hexdigit}
use Rattle.std.specs.Str.Parse.{digits_value}

-- the most digits that are read as a number of 64 bits
abbrev pub most_decimal_digits : ℕ
most_decimal_digits = 18

abbrev pub most_hex_digits : ℕ
most_hex_digits = 16

-- 1 to so many bytes, each of which passes the test
abbrev pub has_digits : (ℕ → Bool) → ℕ → List ℕ → Bool
has_digits is_digit digits bytes =
    nat_le 1 (length bytes) && nat_le (length bytes) digits && list_all is_digit bytes

-- the number that 1 to so many decimal digits write, and none where the bytes are anything else
abbrev pub decimal_of : ℕ → List ℕ → Option ℕ
decimal_of digits bytes =
    if has_digits is_ascii_digit digits bytes then Some (digits_value 10 bytes) else None

-- the number that 1 to so many hexadecimal digits of either case write, and none where the bytes are anything else
abbrev pub hex_of : ℕ → List ℕ → Option ℕ
hex_of digits bytes =
    if has_digits is_ascii_hexdigit digits bytes then Some (digits_value 16 bytes) else None
