-- Every refused line of a text. A refused line is taken as blank: it changes nothing, and the lines behind it are judged as if a blank one
-- stood in its place.
use Rattle.std.specs.Prelude.{◌≡◌, ℕ, ◌+◌, ◌-◌, ◌<◌, ◌≤◌, ◌^◌, ◌⊎◌, ⊤, List, [], ◌∷◌, ◌++◌, take, length, nat_lt, if◌then◌else◌, Option, Some, None, IsSomeAnd, slice_get, Result, Ok, Err}
use Rattle.std.specs.Str.Lines.{lines}
use Rattle.px_pattern.specs.Pattern.{Pattern}
use Rattle.px_pattern.specs.Refusals.{Rose}
use Rattle.http_rules.specs.declared.config.Config.{Config}
use Rattle.cfg_expr.specs.Reading.{decided}
use Rattle.cfg_parse.specs.declared.fault.CfgKind.{CfgKind}
use Rattle.cfg_parse.specs.declared.fault.CfgKind.TheVariants as kinds
use Rattle.cfg_parse.specs.declared.fault.LineRefusal.{LineRefusal}
use Rattle.cfg_parse.specs.declared.fault.LineRefusal.TheVariants as refusals
use Rattle.cfg_parse.specs.declared.draft.Draft.{Draft}
use Rattle.cfg_parse.specs.declared.refused.RefusedLine.{RefusedLine}
use Rattle.cfg_parse.specs.declared.refused.RefusedLines.{RefusedLines}
use Rattle.cfg_parse.specs.declared.refused.Verdict.{Verdict}
use Rattle.cfg_parse.specs.declared.refused.Verdict.TheVariants.{Accepted, Refused}
use Rattle.cfg_parse.specs.Draft.{start}
use Rattle.cfg_parse.specs.Asking.{LineReading}
use Rattle.cfg_parse.specs.Limits.{most_text, most_kept}
use Rattle.cfg_parse.specs.Lines.{line_of}
use Rattle.cfg_parse.specs.Whole.{Refusal, whole, lines_from, after_lines, config_of, pattern_at}

-- ---- a line

-- What the builder of patterns answered in a line: none, or the number of the line's pattern, counted from 0, that it refused first.
abbrev pub Answer : Type 0
Answer = Option ℕ

-- the pattern that it refused, if the line asks for it
abbrev pub unbuilt_in : LineReading Draft → Answer → Option Pattern
unbuilt_in reading None = None
unbuilt_in reading (Some place) = slice_get reading.asks place

-- what the line comes to
abbrev pub judged : LineReading Draft → Answer → Result Draft CfgKind
judged reading answer = decided kinds.Pattern reading answer

-- what stands behind the line: behind a refused one what stood before it, as behind a blank one
abbrev pub left_by : Draft → Result Draft CfgKind → Draft
left_by draft (Ok next) = next
left_by draft (Err kind) = draft

-- the line of this number, if it is refused
abbrev pub refused_in : (number : ℕ) → (bytes : List ℕ) → Result Draft CfgKind → List RefusedLine
refused_in number bytes (Ok next) = []
refused_in number bytes (Err kind) = record { line = number; kind = kind; text = bytes } ∷ []

abbrev pub unbuilt_at : (number : ℕ) → Option Pattern → List (ℕ × Pattern)
unbuilt_at number None = []
unbuilt_at number (Some pattern) = (number, pattern) ∷ []

-- ---- lines in turn

-- the refused lines, the refused patterns with the number of their line, and what the other lines come to
pub record Walk : Type 0 where
  pub refused : List RefusedLine
  pub unbuilt : List (ℕ × Pattern)
  pub draft : Draft

-- these refused lines and patterns in front of those of a walk
abbrev pub onto : List RefusedLine → List (ℕ × Pattern) → Walk → Walk
onto refused unbuilt walk = record { refused = refused ++ walk.refused; unbuilt = unbuilt ++ walk.unbuilt; draft = walk.draft }

-- a line in front of a walk
abbrev pub line_onto : (number : ℕ) → (bytes : List ℕ) → LineReading Draft → Answer → Walk → Walk
line_onto number bytes reading answer walk =
    onto (refused_in number bytes (judged reading answer)) (unbuilt_at number (unbuilt_in reading answer)) walk

-- the answer in the first line; none where no more are named
abbrev pub first_answer : List Answer → Answer
first_answer [] = None
first_answer (answer ∷ answers) = answer

abbrev pub answers_behind : List Answer → List Answer
answers_behind [] = []
answers_behind (answer ∷ answers) = answers

-- lines from left to right, the first with this number, with an answer for each
unfoldable pub walk_from : ℕ → Draft → List (List ℕ) → List Answer → Walk
walk_from number draft [] answers = record { refused = []; unbuilt = []; draft = draft }
walk_from number draft (line ∷ others) answers =
    line_onto number line (line_of draft line) (first_answer answers)
    (walk_from (number + 1) (left_by draft (judged (line_of draft line) (first_answer answers))) others (answers_behind answers))

-- ---- blank lines

abbrev pub blank_if_refused : (bytes : List ℕ) → Result Draft CfgKind → List ℕ
blank_if_refused bytes (Ok next) = bytes
blank_if_refused bytes (Err kind) = []

-- the same lines, with a blank one in place of each refused one
unfoldable pub blanked_from : Draft → List (List ℕ) → List Answer → List (List ℕ)
blanked_from draft [] answers = []
blanked_from draft (line ∷ others) answers =
    blank_if_refused line (judged (line_of draft line) (first_answer answers))
    ∷ blanked_from (left_by draft (judged (line_of draft line) (first_answer answers))) others (answers_behind answers)

-- ---- a text

-- the text as a whole, as line 0
abbrev pub refused_whole : CfgKind → List RefusedLine
refused_whole kind = record { line = 0; kind = kind; text = [] } ∷ []

-- what is refused once all lines are read
abbrev pub refused_at_end : Result Config CfgKind → List RefusedLine
refused_at_end (Ok config) = []
refused_at_end (Err kind) = refused_whole kind

-- The refused lines in their order, and then the text as a whole, if what the other lines come to is no configuration.
abbrev pub refused_by : Walk → List RefusedLine
refused_by walk = walk.refused ++ refused_at_end (whole walk.draft)

-- a text that is too long has no other fault
abbrev pub walk_of : List ℕ → List Answer → Walk
walk_of text answers = walk_from 1 start (lines text) answers

unfoldable pub refused_of : List ℕ → (answers : List Answer) → List RefusedLine
refused_of text answers = if nat_lt most_text (length text) then refused_whole kinds.Limit else refused_by (walk_of text answers)

-- the patterns that were refused, with the number of their line
unfoldable pub unbuilt_of : List ℕ → (answers : List Answer) → List (ℕ × Pattern)
unbuilt_of text answers = if nat_lt most_text (length text) then [] else (walk_of text answers).unbuilt

-- ---- what code gives

-- the first of these lines, and how many they are
pub record Lists (refused : RefusedLines) (all : List RefusedLine) : Type 0 where
  pub first : refused.first ≡ take most_kept all
  pub count : refused.count ≡ length all

-- what is told of a line's refusal; want of memory is none
abbrev pub IsTold : LineRefusal → CfgKind → Type 0
IsTold (refusals.Refused given) kind = kind ≡ given
IsTold refusals.Pattern kind = kind ≡ kinds.Pattern
IsTold refusals.OutOfMemory kind = ⊥

-- the builder's count rose where it refused a pattern, and did not change where it refused none
abbrev pub IsCounted : Option Pattern → (before after : ℕ) → Type 0
IsCounted None before after = after ≡ before
IsCounted (Some pattern) before after = Rose before after

-- a line was judged, for some answer of the builder
pub record IsLineJudged (number : ℕ) (bytes : List ℕ) (old new : Draft) (kept now : RefusedLines) (before after : ℕ) : Type 0 where
  pub answer : Answer
  pub left : new ≡ left_by old (judged (line_of old bytes) answer)
  pub lists : (all : List RefusedLine) → Lists kept all → Lists now (all ++ refused_in number bytes (judged (line_of old bytes) answer))
  pub builds : IsCounted (unbuilt_in (line_of old bytes) answer) before after
  pub few : now.count ≤ kept.count + 1

-- what these refused lines, and what the others come to, are told as
abbrev pub EndsSo : List RefusedLine → Result Config CfgKind → Verdict → Type 0
EndsSo all meaning (Accepted config) = (all ≡ []) × (meaning ≡ Ok config)
EndsSo all meaning (Refused refused) = Lists refused (all ++ refused_at_end meaning) × (0 < length (all ++ refused_at_end meaning))

-- an accepted configuration is such a one
abbrev pub IfAccepted : (Config → Type 0) → Verdict → Type 0
IfAccepted P (Accepted config) = P config
IfAccepted P (Refused refused) = ⊤

-- what was returned is what the text comes to with these answers
abbrev pub IsVerdict : List ℕ → List Answer → Verdict → Type 0
IsVerdict text answers (Accepted config) = (refused_of text answers ≡ []) × (config_of text None ≡ Ok config)
IsVerdict text answers (Refused refused) = Lists refused (refused_of text answers) × (0 < length (refused_of text answers))

-- the builder's count rose by as many as were refused at least, or stands at its last value; where none was, it did not change
pub record Counted (unbuilt : ℕ) (before after : ℕ) : Type 0 where
  pub none : unbuilt ≡ 0 → after ≡ before
  pub some : (before + unbuilt ≤ after) ⊎ (2 ^ 64 - 1 ≤ after)

-- the pattern of this number stands in this line, and the builder's count rose
abbrev pub StandsIn : List ℕ → (line : ℕ) → Answer → (before after : ℕ) → Type 0
StandsIn text line None before after = ⊤
StandsIn text line (Some place) before after = Rose before after × IsSomeAnd (pattern_at text place) (λ (number, pattern). number ≡ line)

-- a load of the text names this line and kind, for some r
pub record IsNamed (text : List ℕ) (before after : ℕ) (first : RefusedLine) : Type 0 where
  pub r : Option ℕ
  pub names : config_of text r ≡ Err (first.line, first.kind)
  pub builds : StandsIn text first.line r before after

-- With a blank line in place of each refused one, a load reads the lines to their end, and to what is judged as line 0.
abbrev pub AreAsBlank : List ℕ → List Answer → Type 0
AreAsBlank text answers = (lines_from 1 start (blanked_from start (lines text) answers)).gives ≡ Ok (walk_of text answers).draft

-- what is judged of a text, for some answers of the builder; the first refused line is the one that a load names
pub record Judges (text : List ℕ) (before after : ℕ) (verdict : Verdict) : Type 0 where
  pub answers : List Answer
  pub is : IsVerdict text answers verdict
  pub builds : Counted (length (unbuilt_of text answers)) before after
  pub built : IfAccepted (λ config. after ≡ before) verdict
  pub blank : AreAsBlank text answers
  pub first : (line : RefusedLine) (others : List RefusedLine) → refused_of text answers ≡ line ∷ others → IsNamed text before after line
