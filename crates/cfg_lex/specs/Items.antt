-- What stands at each place of a line (Configuration Manual, section 2.2, "Quoting and escaping").
use Rattle.std.specs.Prelude.{ℕ, ◌+◌, ◌-◌, ◌*◌, List, [], ◌∷◌, length, Bool, true, false, ◌||◌, ◌&&◌, ◌==◌, nat_le, if◌then◌else◌, Option, Some, None}
use Rattle.std.specs.Char.{digit_value, is_ascii_hexdigit}
use Rattle.cfg_lex.specs.declared.item.Quotes.{Quotes}
use Rattle.cfg_lex.specs.declared.item.Quotes.TheVariants.{Outside, Single, Double}
use Rattle.cfg_lex.specs.declared.item.Part.{Part}
use Rattle.cfg_lex.specs.declared.item.Part.TheVariants.{Gap, Quote, Byte, Kept, Fault}
use Rattle.cfg_lex.specs.declared.item.Item.{Item}

-- ---- bytes

abbrev pub nul : ℕ
nul = 0

abbrev pub tab : ℕ
tab = 9

abbrev pub line_feed : ℕ
line_feed = 10

abbrev pub carriage_return : ℕ
carriage_return = 13

abbrev pub space : ℕ
space = 32

abbrev pub double_quote : ℕ
double_quote = 34

abbrev pub hash : ℕ
hash = 35

abbrev pub dollar : ℕ
dollar = 36

abbrev pub single_quote : ℕ
single_quote = 39

abbrev pub backslash : ℕ
backslash = 92

abbrev pub letter_n : ℕ
letter_n = 110

abbrev pub letter_r : ℕ
letter_r = 114

abbrev pub letter_t : ℕ
letter_t = 116

abbrev pub letter_x : ℕ
letter_x = 120

-- a space or a tab
abbrev pub is_blank : ℕ → Bool
is_blank b = b == space || b == tab

-- the place lies in double quotes
abbrev pub is_double : Quotes → Bool
is_double Outside = false
is_double Single = false
is_double Double = true

-- ---- escapes

-- the byte that an escape of one letter stands for; `\$` is an escape in double quotes alone
abbrev pub escape_of : Quotes → ℕ → Option ℕ
escape_of quotes letter =
    if letter == space || letter == hash || letter == backslash || letter == single_quote || letter == double_quote then Some letter
    else (if letter == letter_n then Some line_feed
    else (if letter == letter_r then Some carriage_return
    else (if letter == letter_t then Some tab
    else (if is_double quotes && letter == dollar then Some letter
    else None))))

-- the value of a hexadecimal digit
abbrev pub hex_of : ℕ → Option ℕ
hex_of digit = if is_ascii_hexdigit digit then Some (digit_value digit) else None

-- the byte of two hexadecimal digits, or a fault
abbrev pub by_digits : Quotes → Option ℕ → Option ℕ → Item
by_digits quotes (Some high) (Some low) = record { part = Byte (16 * high + low); used = 4; quotes = quotes }
by_digits quotes (Some high) None = record { part = Fault; used = 2; quotes = quotes }
by_digits quotes None low = record { part = Fault; used = 2; quotes = quotes }

-- behind `\x`: two hexadecimal digits, or a fault that takes up the backslash and the x alone
unfoldable pub hex_escape : Quotes → List ℕ → Item
hex_escape quotes [] = record { part = Fault; used = 2; quotes = quotes }
hex_escape quotes (high ∷ []) = record { part = Fault; used = 2; quotes = quotes }
hex_escape quotes (high ∷ low ∷ rest) = by_digits quotes (hex_of high) (hex_of low)

-- the byte of an escape, or the backslash with the byte behind it where that is no escape
abbrev pub by_letter : ℕ → Option ℕ → Part
by_letter letter (Some byte) = Byte byte
by_letter letter None = if letter == nul then Fault else Kept letter

-- behind a backslash; at the end of the line a backslash is a fault
unfoldable pub behind_backslash : Quotes → List ℕ → Item
behind_backslash quotes [] = record { part = Fault; used = 1; quotes = quotes }
behind_backslash quotes (letter ∷ rest) =
    if letter == letter_x then hex_escape quotes rest
    else record { part = by_letter letter (escape_of quotes letter); used = 2; quotes = quotes }

-- ---- any place

-- a byte that stands for itself; a NUL is a fault
unfoldable pub plain : Quotes → ℕ → Item
plain quotes byte = record { part = if byte == nul then Fault else Byte byte; used = 1; quotes = quotes }

-- what stands at a byte with the rest of the line behind it; a `#` outside quotes takes up all of the line
unfoldable pub item_at : Quotes → ℕ → List ℕ → Item
item_at Outside byte rest =
    if byte == hash then record { part = Gap; used = length rest + 1; quotes = Outside }
    else (if is_blank byte then record { part = Gap; used = 1; quotes = Outside }
    else (if byte == single_quote then record { part = Quote; used = 1; quotes = Single }
    else (if byte == double_quote then record { part = Quote; used = 1; quotes = Double }
    else (if byte == backslash then behind_backslash Outside rest
    else plain Outside byte))))
item_at Single byte rest =
    if byte == single_quote then record { part = Quote; used = 1; quotes = Outside }
    else plain Single byte
item_at Double byte rest =
    if byte == double_quote then record { part = Quote; used = 1; quotes = Outside }
    else (if byte == dollar then record { part = Fault; used = 1; quotes = Double }
    else (if byte == backslash then behind_backslash Double rest
    else plain Double byte))
