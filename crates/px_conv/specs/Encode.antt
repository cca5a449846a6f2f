-- Bytes written as text of another form, and read from it.
use Rattle.std.specs.Prelude.{ℕ, List}
use Rattle.base64.specs.Engines.{standard}
use Rattle.base64.specs.GeneralPurpose.{encode_of}
use Rattle.hex.specs.Hex.{encode_upper}
use Rattle.percent_encoding.specs.Percent.{percent_decode}

-- the standard alphabet, with padding (RFC 4648, section 4)
unfoldable pub base64_text : List ℕ → List ℕ
base64_text bytes = encode_of standard bytes

-- two hexadecimal digits a byte, the high four bits first, letters in upper case
unfoldable pub hex_text : List ℕ → List ℕ
hex_text bytes = encode_upper bytes

-- each `%` with two hexadecimal digits behind it is their byte, and all else stays, another `%` and each `+` too
-- (URL Standard, section 1.3)
unfoldable pub url_decoded : List ℕ → List ℕ
url_decoded bytes = percent_decode bytes
