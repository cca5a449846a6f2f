-- What is written of rules with the arrays that they leave.
use Rattle.std.specs.Prelude.{◌≡◌, ℕ, List, [], ◌∷◌, ◌++◌, Bool, map, length, if◌then◌else◌, Option, Some, None, codes, decimal}
use Rattle.http_rules.specs.declared.step.Step.{Step}
use Rattle.http_rules.specs.declared.step.Step.TheVariants.{Passed}
use Rattle.htx_arena.specs.Layout.Contents.{Contents}
use Rattle.htx_arena.specs.Layout.Held.{held}
use Rattle.px_explain.specs.declared.trace.TraceLine.{TraceLine}
use Rattle.px_explain.specs.declared.trail.Trail.{Trail}
use Rattle.px_explain.specs.Array.{array_text}
use Rattle.px_explain.specs.Entry.{TraceEntry, line_in}
use Rattle.px_explain.specs.Lines.{line_text}

-- what is written of the array behind a rule: nothing where its condition didn't hold
abbrev pub view_text : Step → Contents → List ℕ
view_text Passed array = []
view_text _ array = array_text array

-- the load that a rule would have needed, and nothing where none is told
abbrev pub wanted_text : Option ℕ → List ℕ
wanted_text None = []
wanted_text (Some needed) = codes "wanted " ++ decimal needed ++ codes "\n"

-- the line of a rule, the load that it would have needed, and the array where it ran
abbrev pub entry_text : TraceLine → (wanted : Option ℕ) → Contents → List ℕ
entry_text line wanted array = line_text line ++ wanted_text wanted ++ view_text line.step array

-- the array that a rule left: it has the size and the blocks, which stand in bytes at its addresses
pub record IsLeftBy (entry : TraceEntry) (array : Contents) : Type 0 where
  pub size : array.size ≡ entry.size
  pub blocks : array.blocks ≡ entry.left
  pub raw : List ℕ
  pub fills : length raw ≡ array.size
  pub stands : held raw array.blocks array.addrs

-- the text is that of a rule with the array that it left
abbrev pub IsEntryText : TraceEntry → List ℕ → Type 0
IsEntryText entry text = (array : Contents) × IsLeftBy entry array × (text ≡ entry_text entry.line entry.wanted array)

-- the text is that of these rules with the arrays that they left, one behind the other
abbrev pub AreShown : List TraceEntry → List ℕ → Type 0
AreShown [] text = text ≡ []
AreShown (entry ∷ entries) text = (front : List ℕ) × (rest : List ℕ) × IsEntryText entry front × AreShown entries rest × (text ≡ front ++ rest)

-- a text behind another, where texts are written
abbrev pub text_behind : (shows : Bool) → (front text : List ℕ) → List ℕ
text_behind shows front text = if shows then front ++ text else front

-- these rules are told behind those before: their lines, and where texts are written their text
pub record Adds (old new : Trail) (entries : List TraceEntry) : Type 0 where
  pub lines : new.lines.items ≡ old.lines.items ++ map line_in entries
  pub shows : new.shows ≡ old.shows
  pub piece : List ℕ
  pub shown : AreShown entries piece
  pub text : new.text ≡ text_behind old.shows old.text piece
