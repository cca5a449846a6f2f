-- What a converter makes of a sample (Configuration Manual, section 7.3.1).
use Rattle.std.specs.Prelude.{ℕ, ℤ, pos, neg_ℤ, int_div, int_rem, ◌+ℤ◌, ◌-ℤ◌, ◌*ℤ◌, ◌-◌, ◌^◌, Bool, true, false, not, List, length, take, drop, nat_le, Option, Some, None, if◌then◌else◌, option_map}
use Rattle.std.specs.Int.{w64, saturate_signed}
use Rattle.std.specs.Ordering.{int_eq}
use Rattle.std.specs.Str.{str_to_ascii_lowercase, str_to_ascii_uppercase}
use Rattle.px_sample.specs.Sample.{Value, Truth, Number, Bytes, bounded, within}
use Rattle.px_sample.specs.Cast.{number_of, truth_of, text_of}
use Rattle.px_pattern.specs.Meaning.{pattern_of}
use Rattle.px_conv.specs.Regsub.{regsub}
use Rattle.px_conv.specs.Fields.{field, word}
use Rattle.px_conv.specs.Encode.{base64_text, hex_text, url_decoded}
use Rattle.px_conv.specs.declared.conv.Conv.{Conv}
use Rattle.px_conv.specs.declared.conv.Conv.TheVariants as convs

-- a converter of bytes: the sample as bytes, which are at most so many, and absent where they are more
abbrev pub of_bytes : ℕ → (List ℕ → Value) → Value → Option Value
of_bytes cap f v = if nat_le (length (text_of v)) cap then Some (f (text_of v)) else None

-- a converter of bytes to bytes that may give none, and never more than it was given
abbrev pub of_bytes_or_none : ℕ → (List ℕ → Option (List ℕ)) → Value → Option Value
of_bytes_or_none cap f v = if nat_le (length (text_of v)) cap then option_map Bytes (f (text_of v)) else None

-- a converter that writes bytes anew: absent too where the result is more than so many
abbrev pub of_bytes_anew : ℕ → (List ℕ → List ℕ) → Value → Option Value
of_bytes_anew cap f v = within cap (of_bytes cap (λ bytes. Bytes (f bytes)) v)

-- a converter of numbers
abbrev pub of_number : (ℤ → ℤ) → Option ℤ → Option Value
of_number f None = None
of_number f (Some n) = Some (Number (f n))

-- a converter of truth values
abbrev pub of_truth : (Bool → Option Value) → Option Bool → Option Value
of_truth f None = None
of_truth f (Some b) = f b

-- a number of an argument as one of bytes; no configuration has one below 0, which counts as 0
abbrev pub count : ℤ → ℕ
count (pos n) = n
count _ = 0

-- the bytes from an offset on, at most so many
abbrev pub part : ℤ → Option ℤ → List ℕ → List ℕ
part from None bytes = drop (count from) bytes
part from (Some len) bytes = take (count len) (drop (count from) bytes)

-- within 64 bits with a sign
abbrev pub saturated : ℤ → ℤ
saturated n = saturate_signed w64 n

-- the quotient towards 0; by zero the greatest number
abbrev pub quotient : ℤ → ℤ → ℤ
quotient x n = if int_eq n (pos 0) then pos (2 ^ 63 - 1) else saturated (int_div x n)

-- the remainder of that quotient; by zero 0
abbrev pub remainder : ℤ → ℤ → ℤ
remainder x n = if int_eq n (pos 0) then pos 0 else int_rem x n

-- what a converter makes of a value, where a buffer holds so many bytes
abbrev pub converted_value : ℕ → Conv → Value → Option Value
converted_value cap convs.Lower v = of_bytes cap (λ bytes. Bytes (str_to_ascii_lowercase bytes)) v
converted_value cap convs.Upper v = of_bytes cap (λ bytes. Bytes (str_to_ascii_uppercase bytes)) v
converted_value cap convs.Length v = of_bytes cap (λ bytes. Number (pos (length bytes))) v
converted_value cap (convs.Bytes from len) v = of_bytes cap (λ bytes. Bytes (part from len bytes)) v
converted_value cap (convs.Field index separators n) v = of_bytes_or_none cap (field index separators (count n)) v
converted_value cap (convs.Word index separators n) v = of_bytes_or_none cap (word index separators (count n)) v
converted_value cap (convs.Iif yes' no') v = of_truth (λ b. bounded cap (Bytes (if b then yes' else no'))) (truth_of v)
converted_value cap (convs.Add n) v = of_number (λ x. saturated (x +ℤ n)) (number_of v)
converted_value cap (convs.Sub n) v = of_number (λ x. saturated (x -ℤ n)) (number_of v)
converted_value cap (convs.Mul n) v = of_number (λ x. saturated (x *ℤ n)) (number_of v)
converted_value cap (convs.Div n) v = of_number (λ x. quotient x n) (number_of v)
converted_value cap (convs.Mod n) v = of_number (λ x. remainder x n) (number_of v)
converted_value cap convs.Neg v = of_number (λ x. saturated (neg_ℤ x)) (number_of v)
converted_value cap convs.Not v = of_truth (λ b. Some (Truth (not b))) (truth_of v)
converted_value cap convs.Bool v = of_truth (λ b. Some (Truth b)) (truth_of v)
converted_value cap (convs.Regsub pat template which) v =
    within cap (of_bytes cap (λ bytes. Bytes (regsub (pattern_of pat) template which bytes)) v)
converted_value cap convs.Base64 v = of_bytes_anew cap base64_text v
converted_value cap convs.Hex v = of_bytes_anew cap hex_text v
converted_value cap convs.UrlDec v = of_bytes_anew cap url_decoded v

-- what a converter makes of a sample: nothing of an absent one
abbrev pub converted : ℕ → Conv → Option Value → Option Value
converted cap conv None = None
converted cap conv (Some v) = converted_value cap conv v

-- the converter searches for a pattern, which takes memory
abbrev pub has_pattern : Conv → Bool
has_pattern (convs.Regsub pat template which) = true
has_pattern _ = false
