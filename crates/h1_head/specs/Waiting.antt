-- What is made of a text in which no head stands.
use Rattle.std.specs.Prelude.{◌≡◌, ℕ, ◌<◌, ◌≤◌, ◌⊎◌, List, Bool, true, false, length, count_by}
use Rattle.http_model.specs.declared.Limits.{Limits}
use Rattle.h1_head.specs.Numbers.{most_lines}
use Rattle.h1_head.specs.declared.text.Wait.{Wait}
use Rattle.h1_head.specs.declared.text.Wait.TheVariants as wait
use Rattle.h1_head.specs.Decides.{is_line_feed}

-- a head of the most fields has the most lines
abbrev pub WaitTells : Limits → (whole : Bool) → List ℕ → Wait → Type 0
WaitTells limits whole text wait.More =
    (whole ≡ false) × (length text < limits.bufsize) × (count_by is_line_feed text < most_lines)
WaitTells limits whole text wait.Ended = whole ≡ true
WaitTells limits whole text wait.Long =
    (whole ≡ false) × ((limits.bufsize ≤ length text) ⊎ (most_lines ≤ count_by is_line_feed text))
