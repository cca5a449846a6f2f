-- Lines of a canonical text, and what is read of them.
use Rattle.std.specs.Prelude.{◌≡◌, ℕ, ◌≤◌, List, ◌∷◌, ◌++◌, length, Ok, codes}
use Rattle.std.specs.Str.Lines.{lines}
use Rattle.cfg_lex.specs.Words.{most_bytes, most_words, words_of}
use Rattle.cfg_print.specs.Words.{words_text, line_text}

-- a line without its line feed
abbrev pub line_of : List (List ℕ) → List ℕ
line_of words = codes "   " ++ words_text words

-- words are read back from their line, which is not too long and has not too many
abbrev pub WordsReadBack : Type 0
WordsReadBack = (words : List (List ℕ)) → length (line_of words) ≤ most_bytes → length words ≤ most_words → words_of (line_of words) ≡ Ok words

-- a line is a line of a text, with the others behind it
abbrev pub LinesReadBack : Type 0
LinesReadBack = (words : List (List ℕ)) (rest : List ℕ) → lines (line_text words ++ rest) ≡ line_of words ∷ lines rest
