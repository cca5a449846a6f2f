-- Converters that write bytes anew.
use Rattle.std.proofs.Common.{◌≡◌, ℕ, zero, suc, ◌*◌, ◌/◌, ◌%◌, ◌<◌, ◌≤◌, true, List, [], ◌∷◌, ◌++◌, length, drop, replicate, slice_index, refl, ap, ◌∙◌, arith, Option, Some, None, Result, Ok, Err, ◌^◌, inl, inr}
use Rattle.std.specs.Prelude.{option_and_then}
use Rattle.std.specs.Str.{str_to_ascii_uppercase}
use Rattle.std.specs.Char.{to_ascii_uppercase}
use Rattle.std.proofs.lemmas.List.{length-append, length-replicate, drop_all, append-nil, take_at}
use Rattle.std.proofs.lemmas.Bool.{cases_lt, false≢true}
use Rattle.std.specs.Result.{is_ok, OnOk}
use Rattle.std.specs.List.{refill}
use Rattle.px_sample.specs.Sample.{Value, Bytes, within}
use Rattle.px_conv.specs.Conv.{of_bytes, of_bytes_anew}
use Rattle.px_conv.specs.Encode.{base64_text, hex_text}
use Rattle.base64.specs.Engines.{standard}
use Rattle.base64.specs.Rfc4648.{encode_symbols, encoded_size, padding_len}
use Rattle.base64.proofs.RoundTrip.{length-encode_symbols}
use Rattle.hex.proofs.HexLemmas.{length-encode_with}
use Rattle.hex.specs.Hex.{encode_with, encode_lower, encode_upper, lower_digits, upper_digits}

-- the bound on the result stands outside
pub anew : (cap : ℕ) (f : List ℕ → List ℕ) (x : Option Value) → option_and_then (of_bytes_anew cap f) x ≡ within cap (option_and_then (of_bytes cap (λ bytes. Bytes (f bytes))) x)
anew cap f None = refl
anew cap f (Some v) = refl

-- a digit in upper case
digit_upper : (digits : List ℕ) (n : ℕ) → to_ascii_uppercase (slice_index digits n) ≡ slice_index (str_to_ascii_uppercase digits) n
digit_upper [] n = refl
digit_upper (d ∷ digits) zero = refl
digit_upper (d ∷ digits) (suc n) = digit_upper digits n

-- lower case digits in upper case
pub upper_hex : (bytes : List ℕ) → str_to_ascii_uppercase (encode_lower bytes) ≡ encode_upper bytes
unfolding encode_with
upper_hex [] = refl
upper_hex (b ∷ bytes) =
    let high = digit_upper lower_digits (b / 16) in
    let low = digit_upper lower_digits (b % 16) in
    cc (high, low, upper_hex bytes)

pub length-hex_text : (bytes : List ℕ) → length (hex_text bytes) ≡ 2 * length bytes
unfolding hex_text
length-hex_text bytes = length-encode_with upper_digits bytes

pub length-base64_text : (bytes : List ℕ) → length (base64_text bytes) ≡ encoded_size (length bytes) true
unfolding base64_text
length-base64_text bytes =
    let symbols = encode_symbols standard.encode_table bytes in
    let padding = replicate (padding_len (length bytes)) standard.padding.value in
    length-append symbols padding ∙ cc (length-encode_symbols standard.encode_table bytes, length-replicate (padding_len (length bytes)) standard.padding.value)

-- bytes that were lent, once a text of their length stands there
pub refilled : (text new under : List ℕ) (n : ℕ) → length text ≡ n → new ≡ text → refill n under new ≡ text
refilled text new under n long written = rw written (take_at text (drop (length text) under) n long)

-- bytes that were lent, once a text of their length was written over them
pub filled : (text old new under : List ℕ) (size n : ℕ) → length text ≡ size → length old ≡ size → n ≡ size → new ≡ text ++ drop size old → refill n under new ≡ text
filled text old new under size n long held same written =
    let rest : drop size old ≡ [] = drop_all size old (omega arith) in
    let whole : new ≡ text = written ∙ ap (λ xs. text ++ xs) rest ∙ append-nil text in
    refilled text new under n (omega arith) whole

-- a length that fits 64 bits
pub length_told : (len size : ℕ) → (size < 2 ^ 64 → Some len ≡ Some size) → (2 ^ 64 ≤ size → Some len ≡ None) → len ≡ size
length_told len size fits too_long = elim (cases_lt size (2 ^ 64)) [
  | inl below ↦ let same = fits below in cc same
  | inr above ↦ let never = too_long above in cc never
]

-- what a result that is `Ok` says
pub said_ok : {T E P : Type 0} (r : Result T E) → is_ok r ≡ true → OnOk r P → P
said_ok (Ok x) h said = said
said_ok (Err e) h said = absurd (false≢true h)
