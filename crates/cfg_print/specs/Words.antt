-- How words and lines of a canonical text are spelled (Configuration Manual, section 2.2, "Quoting and escaping").
use Rattle.std.specs.Prelude.{ℕ, ◌+◌, ◌/◌, ◌%◌, List, [], ◌∷◌, ◌++◌, length, Bool, not, ◌&&◌, ◌||◌, ◌==◌, nat_lt, if◌then◌else◌, codes}
use Rattle.std.specs.List.{list_all, flat_map}

-- ---- words

-- no byte of a text: it is spelled by its digits
abbrev pub is_control : ℕ → Bool
is_control b = nat_lt b 32 || b == 127

-- a byte that stands for itself without quotes: no blank, no control byte, no quote, no backslash and no `#`
abbrev pub is_plain : ℕ → Bool
is_plain b = not (is_control b || (b == 32 || (b == 34 || (b == 35 || (b == 39 || b == 92)))))

-- one or more of these
abbrev pub is_plain_word : List ℕ → Bool
is_plain_word word = nat_lt 0 (length word) && list_all is_plain word

-- a byte that stands for itself in single quotes
abbrev pub is_quotable : ℕ → Bool
is_quotable b = not (is_control b || b == 39)

-- a word in single quotes
abbrev pub single_quoted : List ℕ → List ℕ
single_quoted word = 39 ∷ word ++ 39 ∷ []

-- a hexadecimal digit, in lower case
abbrev pub hex_digit : ℕ → ℕ
hex_digit n = if nat_lt n 10 then 48 + n else 87 + n

-- a byte by its two digits
abbrev pub by_digits : ℕ → List ℕ
by_digits b = 92 ∷ 120 ∷ hex_digit (b / 16) ∷ hex_digit (b % 16) ∷ []

-- a byte in double quotes, where a backslash, a quote and `$` are escaped
unfoldable pub escaped : ℕ → List ℕ
escaped b =
    if b == 10 then 92 ∷ 110 ∷ []
    else (if b == 13 then 92 ∷ 114 ∷ []
    else (if b == 9 then 92 ∷ 116 ∷ []
    else (if is_control b then by_digits b
    else (if b == 34 || (b == 36 || b == 92) then 92 ∷ b ∷ []
    else b ∷ []))))

-- a word in double quotes
abbrev pub double_quoted : List ℕ → List ℕ
double_quoted word = 34 ∷ flat_map escaped word ++ 34 ∷ []

-- A word: as it is where each byte stands for itself, else in single quotes where it may, else in double quotes.
unfoldable pub word_text : List ℕ → List ℕ
word_text word =
    if is_plain_word word then word
    else (if list_all is_quotable word then single_quoted word
    else double_quoted word)

-- ---- lines

-- a word behind others
abbrev pub spaced : List ℕ → List ℕ
spaced word = 32 ∷ word_text word

-- words, each with a space in front
abbrev pub words_text : List (List ℕ) → List ℕ
words_text words = flat_map spaced words

-- a line of a section: four spaces, and the words
abbrev pub line_text : List (List ℕ) → List ℕ
line_text words = codes "   " ++ words_text words ++ 10 ∷ []
