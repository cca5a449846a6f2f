-- Lines of a canonical text that stand in front of others, and what is read of them.
use Rattle.std.specs.Prelude.{◌≡◌, ℕ, true, List, ◌++◌}
use Rattle.std.specs.Str.Lines.{lines}
use Rattle.cfg_parse.specs.declared.draft.Draft.{Draft}
use Rattle.cfg_parse.specs.Whole.{lines_from}
use Rattle.cfg_laws.specs.Laws.Settings.{have_words}

-- A text was read as this draft, and what is behind it is read as if it stood behind these lines alone.
pub record IsRead (number : ℕ) (draft : Draft) (text : List ℕ) (next : Draft) (rest : List ℕ) : Type 0 where
  pub later : ℕ
  pub gives : (lines_from number draft (lines (text ++ rest))).gives ≡ (lines_from later next (lines rest)).gives
  pub readable : have_words rest ≡ true

-- The lines of a text make this draft of the one in front of them, whatever text is behind them, where all lines have words.
abbrev pub Comes : Draft → List ℕ → Draft → Type 0
Comes draft text next = (number : ℕ) (rest : List ℕ) → have_words (text ++ rest) ≡ true → IsRead number draft text next rest
