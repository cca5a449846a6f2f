-- The words of a line.
use Rattle.std.specs.Prelude.{◌≡◌, ℕ, zero, suc, ◌-◌, List, [], ◌∷◌, ◌++◌, length, Bool, true, false, nat_lt, if◌then◌else◌, Option, Some, None, option_to_list, unwrap_or, Result, Ok, Err, fold}
use Rattle.cfg_lex.specs.declared.item.Quotes.{Quotes}
use Rattle.cfg_lex.specs.declared.item.Quotes.TheVariants.{Outside, Single, Double}
use Rattle.cfg_lex.specs.declared.item.Part.{Part}
use Rattle.cfg_lex.specs.declared.item.Part.TheVariants.{Gap, Quote, Byte, Kept, Fault}
use Rattle.cfg_lex.specs.declared.fault.LineFault.{LineFault}
use Rattle.cfg_lex.specs.declared.fault.LineFault.TheVariants as faults
use Rattle.cfg_lex.specs.Items.{item_at, backslash}

-- the most bytes of a line
abbrev pub most_bytes : ℕ
most_bytes = 4096

-- the most words of a line
abbrev pub most_words : ℕ
most_words = 64

-- where the line ends: a quote without end is a fault
abbrev pub end_parts : Quotes → List Part
end_parts Outside = []
end_parts Single = Fault ∷ []
end_parts Double = Fault ∷ []

-- the parts of a line from left to right, behind some bytes that the part before takes up
abbrev pub parts_behind : (skipped : ℕ) → Quotes → List ℕ → List Part
parts_behind skipped quotes [] = end_parts quotes
parts_behind zero quotes (byte ∷ rest) =
    (item_at quotes byte rest).part ∷ parts_behind ((item_at quotes byte rest).used - 1) (item_at quotes byte rest).quotes rest
parts_behind (suc skipped) quotes (byte ∷ rest) = parts_behind skipped quotes rest

-- what the parts so far come to: the whole words, the word that goes on, and whether a word was malformed
pub record Sofar : Type 0 where
  pub whole : List (List ℕ)
  pub begun : Option (List ℕ)
  pub faulty : Bool

-- the bytes of the word that goes on, which may begin here
abbrev pub begun_bytes : Sofar → List ℕ
begun_bytes so_far = unwrap_or so_far.begun []

-- all words, if the line ends here
abbrev pub all_words : Sofar → List (List ℕ)
all_words so_far = so_far.whole ++ option_to_list so_far.begun

-- with these bytes in the word that goes on
abbrev pub with_bytes : Sofar → List ℕ → Sofar
with_bytes so_far bytes = record { whole = so_far.whole; begun = Some (begun_bytes so_far ++ bytes); faulty = so_far.faulty }

-- with one more part
abbrev pub with_part : Sofar → Part → Sofar
with_part so_far Gap = record { whole = all_words so_far; begun = None; faulty = so_far.faulty }
with_part so_far Quote = with_bytes so_far []
with_part so_far (Byte byte) = with_bytes so_far (byte ∷ [])
with_part so_far (Kept byte) = with_bytes so_far (backslash ∷ byte ∷ [])
with_part so_far Fault = record { whole = so_far.whole; begun = Some (begun_bytes so_far); faulty = true }

-- before the first part
abbrev pub nothing : Sofar
nothing = record { whole = []; begun = None; faulty = false }

-- the words of a line that isn't too long: too many words come before a word fault
unfoldable pub verdict : Sofar → Result (List (List ℕ)) LineFault
verdict so_far =
    if nat_lt most_words (length (all_words so_far)) then Err faults.Limit
    else (if so_far.faulty then Err faults.Word else Ok (all_words so_far))

-- what all parts of a line come to
abbrev pub read_line : List ℕ → Sofar
read_line line = fold with_part nothing (parts_behind 0 Outside line)

-- the words of a line, given without its line feed and the carriage return in front of that
unfoldable pub words_of : List ℕ → Result (List (List ℕ)) LineFault
words_of line = if nat_lt most_bytes (length line) then Err faults.Limit else verdict (read_line line)

-- what was returned is what the definition gives, unless memory ran out
abbrev pub Gives : Result (List (List ℕ)) LineFault → Result (List (List ℕ)) LineFault → Type 0
Gives (Ok words) meaning = meaning ≡ Ok words
Gives (Err faults.Word) meaning = meaning ≡ Err faults.Word
Gives (Err faults.Limit) meaning = meaning ≡ Err faults.Limit
Gives (Err faults.OutOfMemory) meaning = Unit {0}
