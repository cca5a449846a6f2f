-- The text of what is told of an exchange.
use Rattle.std.specs.Prelude.{◌≡◌, ℕ, List, ◌++◌, Option, Some, None, map, codes, decimal}
use Rattle.std.specs.List.{flat_map}
use Rattle.px_explain.specs.declared.trace.TraceLine.{TraceLine}
use Rattle.px_explain.specs.Entry.{line_in}
use Rattle.px_explain.specs.Lines.{line_text}
use Rattle.px_explain.specs.Shown.{AreShown}
use Rattle.px_explain.specs.Traced.{Traced}

-- the last line: the status that the client is sent
abbrev pub answer_line : Option ℕ → List ℕ
answer_line (Some code) = codes "answer " ++ decimal code ++ codes "\n"
answer_line None = codes "answer none\n"

-- these lines, and the last one
abbrev pub lines_text : List TraceLine → Option ℕ → List ℕ
lines_text lines answer = flat_map line_text lines ++ answer_line answer

-- the lines of the rules that are reached, and the last line
abbrev pub text_of : Traced → List ℕ
text_of traced = lines_text (map line_in traced.lines) traced.answer

-- the text is that of the rules that are reached with the arrays that they left, and the last line
pub record IsBlockText (traced : Traced) (text : List ℕ) : Type 0 where
  pub front : List ℕ
  pub shown : AreShown traced.lines front
  pub is : text ≡ front ++ answer_line traced.answer
