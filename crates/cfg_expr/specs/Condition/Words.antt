-- Words of a line from left to right.
use Rattle.std.specs.Prelude.{ℕ, Bool, List, [], ◌∷◌, Option, Some, None, if◌then◌else◌, Ok, Err, codes}
use Rattle.std.specs.Str.{bytes_eq}
use Rattle.cfg_expr.specs.declared.fault.TextKind.{TextKind}
use Rattle.cfg_expr.specs.Faults.{Told}

-- the next word and those behind it; a missing one is refused with a kind
abbrev pub word_or : TextKind → List (List ℕ) → Told (List ℕ × List (List ℕ))
word_or kind [] = Err kind
word_or kind (word ∷ others) = Ok (word, others)

unfoldable pub is_close : List ℕ → Bool
is_close word = bytes_eq word (codes "}")

-- a word in front of those inside
abbrev pub put : List ℕ → List (List ℕ) × Option (List (List ℕ)) → List (List ℕ) × Option (List (List ℕ))
put word found = (word ∷ found.0, found.1)

-- the words up to the first `}`, and those behind it; where there is no `}`, all words
abbrev pub up_to_close : List (List ℕ) → List (List ℕ) × Option (List (List ℕ))
up_to_close [] = ([], None)
up_to_close (word ∷ others) = if is_close word then ([], Some others) else put word (up_to_close others)
