-- Lines of a canonical text, read one after another.
use Rattle.std.proofs.Common.{◌≡◌, ℕ, ◌+◌, true, List, [], ◌∷◌, ◌++◌, sym, ap, ◌∙◌, append_assoc, arith}
use Rattle.std.specs.Prelude.{Ok}
use Rattle.std.specs.List.{list_all}
use Rattle.std.specs.Str.Lines.{lines}
use Rattle.cfg_lex.specs.Words.{words_of}
use Rattle.cfg_expr.specs.Reading.{plain}
use Rattle.cfg_parse.specs.declared.draft.Draft.{Draft}
use Rattle.cfg_parse.specs.Asking.{LineReading}
use Rattle.cfg_parse.specs.Lines.{words_line, line_by_words, line_of as made_by}
use Rattle.cfg_parse.specs.Whole.{behind, lines_from}
use Rattle.cfg_print.specs.Words.{line_text}
use Rattle.cfg_print.specs.Fits.{has_words}
use Rattle.cfg_laws.specs.Laws.Lines.{line_of}
use Rattle.cfg_laws.specs.Laws.Settings.{have_words, Makes}
use Rattle.cfg_laws.proofs.LawLemmas.Words.{both_left, both_right, readable_line}
use Rattle.cfg_laws.proofs.LawLemmas.Lines.{line_read}

-- a line that has these words makes the one draft of the other, whatever it is spelled like
abbrev pub IsLine : (line text : List ℕ) → List (List ℕ) → Type 0
IsLine line text words = (rest : List ℕ) → (lines (text ++ rest) ≡ line ∷ lines rest) × (has_words line ≡ true → words_of line ≡ Ok words)

a_line : (draft next : Draft) (line : List ℕ) (words : List (List ℕ)) → words_of line ≡ Ok words → words_line draft words ≡ plain (Ok next) → made_by draft line ≡ plain (Ok next)
unfolding made_by
a_line draft next line words is makes = ap (line_by_words draft) is ∙ makes

first_made : (number : ℕ) (draft next : Draft) (line : List ℕ) (others : List (List ℕ)) → made_by draft line ≡ plain (Ok next) → lines_from number draft (line ∷ others) ≡ lines_from (number + 1) next others
unfolding lines_from
first_made number draft next line others h = ap (λ (made : LineReading Draft). behind number made (λ after. lines_from (number + 1) after others)) h

-- a line makes what its words make
pub made_by_line : (line text : List ℕ) (words : List (List ℕ)) (draft next : Draft) → IsLine line text words → words_line draft words ≡ plain (Ok next) → Makes text draft next 1
made_by_line line text words draft next is makes number rest h =
    let first = (is rest).0 in
    let all : list_all has_words (line ∷ lines rest) ≡ true = sym (ap (list_all has_words) first) ∙ h in
    let has = both_left (has_words line) (list_all has_words (lines rest)) all in
    let made = a_line draft next line words ((is rest).1 has) makes in
    (ap (lines_from number draft) first ∙ first_made number draft next line (lines rest) made, both_right (has_words line) (list_all has_words (lines rest)) all)

-- a line of the canonical text
pub made_by_words : (words : List (List ℕ)) (draft next : Draft) → words_line draft words ≡ plain (Ok next) → Makes (line_text words) draft next 1
made_by_words words draft next makes = made_by_line (line_of words) (line_text words) words draft next (λ rest. (line_read words rest, readable_line words)) makes

-- nothing makes nothing
pub made_by_none : (draft : Draft) → Makes [] draft draft 0
made_by_none draft number rest h =
    let same : number ≡ number + 0 = omega arith in
    (ap (λ (n : ℕ). lines_from n draft (lines rest)) same, h)

-- lines behind others
pub made_by_both : (first second : List ℕ) (draft mid next : Draft) (m n : ℕ) → Makes first draft mid m → Makes second mid next n → Makes (first ++ second) draft next (m + n)
made_by_both first second draft mid next m n makes others number rest h =
    let same = append_assoc first second rest in
    let front = makes number (second ++ rest) (sym (ap have_words same) ∙ h) in
    let behind = others (number + m) rest front.1 in
    let count : number + m + n ≡ number + (m + n) = omega arith in
    (ap (λ text. lines_from number draft (lines text)) same ∙ front.0 ∙ behind.0 ∙ ap (λ (k : ℕ). lines_from k next (lines rest)) count, behind.1)

-- the same number of lines
pub made_by_count : (text : List ℕ) (draft next : Draft) (m n : ℕ) → m ≡ n → Makes text draft next m → Makes text draft next n
made_by_count text draft next m n e makes number rest h = let made = makes number rest h in (made.0 ∙ ap (λ (k : ℕ). lines_from (number + k) next (lines rest)) e, made.1)
