-- One kind of sample as another.
use Rattle.std.specs.Prelude.{ℕ, ℤ, pos, neg_ℤ, ◌^◌, Bool, not, ◌&&◌, ◌==◌, List, length, drop, nat_le, nat_lt, slice_index, Option, Some, None, option_map, option_and_then, if◌then◌else◌}
use Rattle.std.specs.Ordering.{int_eq}
use Rattle.std.specs.Fmt.{signed_decimal}
use Rattle.std.specs.Str.{all_ascii_digits}
use Rattle.std.specs.Str.Parse.{digits_value}
use Rattle.px_sample.specs.Sample.{Value, Truth, Number, Bytes}

-- the number that one or more digits write, where it is at most 2 ^ 63
abbrev pub magnitude_of : List ℕ → Option ℕ
magnitude_of digits =
    if (nat_lt 0 (length digits) && all_ascii_digits digits) && nat_le (digits_value 10 digits) (2 ^ 63)
    then Some (digits_value 10 digits) else None

-- the number as one of 64 bits with a sign
abbrev pub signed : ℕ → Option ℤ
signed n = if nat_lt n (2 ^ 63) then Some (pos n) else None

-- the number that a text writes: an optional minus and digits, within 64 bits
abbrev pub number_of_text : List ℕ → Option ℤ
number_of_text text =
    if slice_index text 0 == 45 then option_map (λ n. neg_ℤ (pos n)) (magnitude_of (drop 1 text))
    else option_and_then signed (magnitude_of text)

-- a truth value is the number 1 or 0
abbrev pub number_of_truth : Bool → ℤ
number_of_truth b = if b then pos 1 else pos 0

-- a value as a number
abbrev pub number_of : Value → Option ℤ
number_of (Truth b) = Some (number_of_truth b)
number_of (Number n) = Some n
number_of (Bytes bytes) = number_of_text bytes

-- a number is true unless it is 0
abbrev pub is_nonzero : ℤ → Bool
is_nonzero n = not (int_eq n (pos 0))

-- a value as a truth value
abbrev pub truth_of : Value → Option Bool
truth_of (Truth b) = Some b
truth_of (Number n) = Some (is_nonzero n)
truth_of (Bytes bytes) = option_map is_nonzero (number_of_text bytes)

-- a value as bytes: a number is its decimal text
abbrev pub text_of : Value → List ℕ
text_of (Truth b) = signed_decimal (number_of_truth b)
text_of (Number n) = signed_decimal n
text_of (Bytes bytes) = bytes
