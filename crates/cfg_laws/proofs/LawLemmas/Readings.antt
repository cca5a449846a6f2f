-- Lines of a canonical text, read one behind the other.
use Rattle.std.proofs.Common.{◌≡◌, ℕ, ◌+◌, true, List, [], ◌∷◌, ◌++◌, refl, sym, ap, ◌∙◌, append_assoc}
use Rattle.std.specs.Prelude.{Result, Ok}
use Rattle.std.specs.List.{list_all}
use Rattle.std.specs.Str.Lines.{lines}
use Rattle.cfg_lex.specs.declared.fault.LineFault.{LineFault}
use Rattle.cfg_parse.specs.declared.draft.Draft.{Draft}
use Rattle.cfg_parse.specs.Lines.{words_line, line_by_words, line_of as line_meant}
use Rattle.cfg_parse.specs.Whole.{Placed, lines_from, placed_gives}
use Rattle.cfg_print.specs.Fits.{has_words}
use Rattle.cfg_print.specs.Words.{line_text}
use Rattle.cfg_laws.specs.Laws.Lines.{line_of}
use Rattle.cfg_laws.specs.Laws.Reading.{Comes}
use Rattle.cfg_laws.specs.Laws.Settings.{have_words, Makes}
use Rattle.cfg_laws.proofs.LawLemmas.Words.{readable_line, both_left, both_right}
use Rattle.cfg_laws.proofs.LawLemmas.Lines.{line_read}

abbrev Found : Type 0
Found = Result (List (List ℕ)) LineFault

-- ---- lines

pub no_lines : (draft : Draft) → Comes draft [] draft
no_lines draft number rest h = record { later = number; gives = refl; readable = h }

-- a line does what its words do
pub one_line : (draft next : Draft) (words : List (List ℕ)) → (words_line draft words).gives ≡ Ok next → Comes draft (line_text words) next
unfolding lines_from line_meant
one_line draft next words h number rest readable =
    let split = line_read words rest in
    let all : list_all has_words (line_of words ∷ lines rest) ≡ true = sym (ap (list_all has_words) split) ∙ readable in
    let known = readable_line words (both_left (has_words (line_of words)) (have_words rest) all) in
    record {
      later = number + 1;
      gives = ap (λ l. (lines_from number draft l).gives) split
          ∙ ap (λ (w : Found). placed_gives number (line_by_words draft w).gives (λ d. lines_from (number + 1) d (lines rest))) known
          ∙ ap (λ g. placed_gives number g (λ d. lines_from (number + 1) d (lines rest))) h;
      readable = both_right (has_words (line_of words)) (have_words rest) all;
    }

-- lines behind lines
pub more_lines : (draft next last : Draft) (text more : List ℕ) → Comes draft text next → Comes next more last → Comes draft (text ++ more) last
more_lines draft next last text more first second number rest h =
    let joined = append_assoc text more rest in
    let front = first number (more ++ rest) (sym (ap have_words joined) ∙ h) in
    let behind = second front.later rest front.readable in
    record {
      later = behind.later;
      gives = ap (λ l. (lines_from number draft (lines l)).gives) joined ∙ front.gives ∙ behind.gives;
      readable = behind.readable;
    }

-- lines that make a draft come to it
pub made_lines : (text : List ℕ) (draft next : Draft) (count : ℕ) → Makes text draft next count → Comes draft text next
made_lines text draft next count makes number rest h =
    let made = makes number rest h in record { later = number + count; gives = ap (λ (p : Placed Draft). p.gives) made.0; readable = made.1 }
