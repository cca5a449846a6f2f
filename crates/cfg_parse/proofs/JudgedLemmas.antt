-- Laws of the refused lines of a text: which of them a load names, and that each is as a blank line.
use Rattle.std.proofs.Common.{inl, inr, ◌≡◌, ℕ, ◌+◌, ◌-◌, ◌^◌, ◌≤◌, ◌<◌, min, List, [], ◌∷◌, ◌++◌, map, cond, length, take, Option, Some, None, Result, Ok, Err, refl, sym, ap, ◌∙◌, subst, arith, append_assoc, length-append}
use Rattle.std.specs.Prelude.{◌⊎◌, slice_get, option_map, IsSomeAnd, IfOk}
use Rattle.std.specs.Str.Lines.{lines}
use Rattle.std.proofs.lemmas.Bool.{le-ltb, lt-ltb}
use Rattle.std.proofs.lemmas.List.{append-nil, length-take, take_all, take-append-le}
use Rattle.std.proofs.lemmas.Option.{slice_get-map}
use Rattle.http_rules.specs.declared.config.Config.{Config}
use Rattle.http_rules.specs.Valid.{IsValid}
use Rattle.px_pattern.specs.Pattern.{Pattern}
use Rattle.px_pattern.specs.Refusals.{Kept, Rose}
use Rattle.cfg_lex.specs.Words.{words_of, verdict}
use Rattle.cfg_expr.specs.Reading.{Fails, refused_by}
use Rattle.cfg_expr.proofs.PublicLaws.{found_behind, found_before}
use Rattle.cfg_parse.specs.declared.fault.CfgKind.{CfgKind}
use Rattle.cfg_parse.specs.declared.fault.CfgKind.TheVariants.{Limit}
use Rattle.cfg_parse.specs.declared.fault.CfgKind.TheVariants as kinds
use Rattle.cfg_parse.specs.declared.fault.LineRefusal.{LineRefusal}
use Rattle.cfg_parse.specs.declared.fault.LineRefusal.TheVariants as refusals
use Rattle.cfg_parse.specs.declared.draft.Draft.{Draft}
use Rattle.cfg_parse.specs.declared.refused.RefusedLine.{RefusedLine}
use Rattle.cfg_parse.specs.declared.refused.RefusedLines.{RefusedLines}
use Rattle.cfg_parse.specs.declared.refused.Verdict.{Verdict}
use Rattle.cfg_parse.specs.declared.refused.Verdict.TheVariants.{Accepted, Refused}
use Rattle.cfg_parse.specs.Asking.{LineReading, cause_of}
use Rattle.cfg_parse.specs.Limits.{most_text}
use Rattle.cfg_parse.specs.Draft.{start}
use Rattle.cfg_parse.specs.Lines.{line_of, words_line}
use Rattle.cfg_parse.specs.Whole.{Placed, Refusal, placed_gives, later_asks, lines_from, of_text, after_lines, of_lines, whole, read_whole, refused_at, config_of, pattern_at}
use Rattle.cfg_parse.specs.Judged.{Answer, Walk, first_answer, answers_behind, unbuilt_in, judged, left_by, refused_in, unbuilt_at, onto, walk_from, walk_of, blank_if_refused, blanked_from, refused_whole, refused_at_end, refused_of, unbuilt_of, Lists, IsTold, IsCounted, IsLineJudged, EndsSo, IfAccepted, IsVerdict, Counted, StandsIn, IsNamed, Judges}

-- ---- which line a load names

-- the line's words decide, or a pattern that the builder refused
judged_by : (reading : LineReading Draft) (answer : Answer) → ((judged reading answer ≡ reading.gives) × (unbuilt_in reading answer ≡ None))
    ⊎ ((place : ℕ) × (pattern : Pattern) × (slice_get reading.asks place ≡ Some pattern) × (unbuilt_in reading answer ≡ Some pattern) × (judged reading answer ≡ Err kinds.Pattern))
judged_by reading None = inl (refl, refl)
judged_by reading (Some place) = by (slice_get reading.asks place) refl
  where
    by : (found : Option Pattern) → slice_get reading.asks place ≡ found → ((refused_by kinds.Pattern reading.gives found ≡ reading.gives) × (found ≡ None))
        ⊎ ((n : ℕ) × (pattern : Pattern) × (slice_get reading.asks n ≡ Some pattern) × (found ≡ Some pattern) × (refused_by kinds.Pattern reading.gives found ≡ Err kinds.Pattern))
    by None e = inl (refl, refl)
    by (Some pattern) e = inr (place, pattern, e, refl, refl)

-- what lines come to, by what one of them does
lines_step : (number : ℕ) (bytes : List ℕ) (draft : Draft) (r : LineReading Draft) (answer : Answer) (others : Draft → Placed Draft) (walk : Draft → Walk) →
    ((next : Draft) → (walk next).refused ≡ [] → (others next).gives ≡ Ok (walk next).draft) →
    refused_in number bytes (judged r answer) ++ (walk (left_by draft (judged r answer))).refused ≡ [] → placed_gives number r.gives others ≡ Ok (walk (left_by draft (judged r answer))).draft
lines_step number bytes draft r answer others walk rest = by (judged_by r answer)
  where
    at : (given : Result Draft CfgKind) → refused_in number bytes given ++ (walk (left_by draft given)).refused ≡ [] → placed_gives number given others ≡ Ok (walk (left_by draft given)).draft
    at (Ok next) none = rest next none
    at (Err kind) none = absurd cc

    Q : Result Draft CfgKind → Type 0
    Q j = refused_in number bytes j ++ (walk (left_by draft j)).refused ≡ [] → placed_gives number r.gives others ≡ Ok (walk (left_by draft j)).draft

    refuses : (kind : CfgKind) → Q (Err kind)
    refuses kind none = absurd cc

    by : ((judged r answer ≡ r.gives) × (unbuilt_in r answer ≡ None))
        ⊎ ((place : ℕ) × (pattern : Pattern) × (slice_get r.asks place ≡ Some pattern) × (unbuilt_in r answer ≡ Some pattern) × (judged r answer ≡ Err kinds.Pattern)) → Q (judged r answer)
    by (inl plainly) = subst Q (sym plainly.0) (at r.gives)
    by (inr refused) = subst Q (sym refused.4) (refuses kinds.Pattern)

-- lines of which none is refused come to what a load makes of them
lines_same : (number : ℕ) (draft : Draft) (ls : List (List ℕ)) (answers : List Answer) → (walk_from number draft ls answers).refused ≡ [] →
    (lines_from number draft ls).gives ≡ Ok (walk_from number draft ls answers).draft
unfolding lines_from walk_from
lines_same number draft [] answers none = refl
lines_same number draft (line ∷ others) answers none =
    lines_step number line draft (line_of draft line) (first_answer answers) (λ next. lines_from (number + 1) next others) (λ next. walk_from (number + 1) next others (answers_behind answers))
    (λ next e. lines_same (number + 1) next others (answers_behind answers) e) none

unbuilt_step : (number : ℕ) (bytes : List ℕ) (draft : Draft) (r : LineReading Draft) (answer : Answer) (walk : Draft → Walk) → ((next : Draft) → (walk next).refused ≡ [] → (walk next).unbuilt ≡ []) →
    refused_in number bytes (judged r answer) ++ (walk (left_by draft (judged r answer))).refused ≡ [] →
    unbuilt_at number (unbuilt_in r answer) ++ (walk (left_by draft (judged r answer))).unbuilt ≡ []
unbuilt_step number bytes draft r answer walk rest = by (judged_by r answer)
  where
    Q : Option Pattern → Result Draft CfgKind → Type 0
    Q u j = refused_in number bytes j ++ (walk (left_by draft j)).refused ≡ [] → unbuilt_at number u ++ (walk (left_by draft j)).unbuilt ≡ []

    at : (given : Result Draft CfgKind) → Q None given
    at (Ok next) none = rest next none
    at (Err kind) none = absurd cc

    refuses : (u : Option Pattern) (kind : CfgKind) → Q u (Err kind)
    refuses u kind none = absurd cc

    by : ((judged r answer ≡ r.gives) × (unbuilt_in r answer ≡ None))
        ⊎ ((place : ℕ) × (pattern : Pattern) × (slice_get r.asks place ≡ Some pattern) × (unbuilt_in r answer ≡ Some pattern) × (judged r answer ≡ Err kinds.Pattern))
        → Q (unbuilt_in r answer) (judged r answer)
    by (inl plainly) = subst (λ u. Q u (judged r answer)) (sym plainly.1) (subst (λ j. Q None j) (sym plainly.0) (at r.gives))
    by (inr refused) = subst (λ j. Q (unbuilt_in r answer) j) (sym refused.4) (refuses (unbuilt_in r answer) kinds.Pattern)

-- where no line is refused, no pattern was
none_unbuilt : (number : ℕ) (draft : Draft) (ls : List (List ℕ)) (answers : List Answer) → (walk_from number draft ls answers).refused ≡ [] → (walk_from number draft ls answers).unbuilt ≡ []
unfolding walk_from
none_unbuilt number draft [] answers none = refl
none_unbuilt number draft (line ∷ others) answers none =
    unbuilt_step number line draft (line_of draft line) (first_answer answers) (λ next. walk_from (number + 1) next others (answers_behind answers))
    (λ next e. none_unbuilt (number + 1) next others (answers_behind answers) e) none

-- a load refuses this line by its words, or where the builder refuses a pattern of it
abbrev FirstIs : Placed Draft → Walk → RefusedLine → Type 0
FirstIs placed walk first =
    (placed.gives ≡ Err (first.line, first.kind))
    ⊎ ((place : ℕ) × (pattern : Pattern) × (slice_get placed.asks place ≡ Some (first.line, pattern)) × (first.kind ≡ kinds.Pattern) × (1 ≤ length walk.unbuilt))

abbrev with_line : ℕ → List Pattern → Result Draft CfgKind → (Draft → Placed Draft) → Placed Draft
with_line number asks given others = record { asks = map (λ p. (number, p)) asks ++ later_asks given others; gives = placed_gives number given others }

first_behind : (number : ℕ) (asks : List Pattern) (front : List (ℕ × Pattern)) (first : RefusedLine) (others : Draft → Placed Draft) (walk : Draft → Walk) (next : Draft) (refused : List RefusedLine) →
    FirstIs (others next) (walk next) first → FirstIs (with_line number asks (Ok next) others) (onto refused front (walk next)) first
first_behind number asks front first others walk next refused (inl gives) = inl gives
first_behind number asks front first others walk next refused (inr asked) =
    let found = found_behind (map (λ p. (number, p)) asks) (others next).asks asked.0 (first.line, asked.1) asked.2 in
    let len : length (front ++ (walk next).unbuilt) ≡ length front + length (walk next).unbuilt = length-append front (walk next).unbuilt in
    let some : 1 ≤ length (front ++ (walk next).unbuilt) = omega (arith, len, asked.4) in
    inr (found.0, asked.1, found.1, asked.3, some)

first_step : (number : ℕ) (bytes : List ℕ) (draft : Draft) (r : LineReading Draft) (answer : Answer) (others : Draft → Placed Draft) (walk : Draft → Walk) (first : RefusedLine) (more : List RefusedLine) →
    ((next : Draft) → (walk next).refused ≡ first ∷ more → FirstIs (others next) (walk next) first) →
    refused_in number bytes (judged r answer) ++ (walk (left_by draft (judged r answer))).refused ≡ first ∷ more →
    FirstIs (with_line number r.asks r.gives others) (onto (refused_in number bytes (judged r answer)) (unbuilt_at number (unbuilt_in r answer)) (walk (left_by draft (judged r answer)))) first
first_step number bytes draft r answer others walk first more rest = by (judged_by r answer)
  where
    front : List (ℕ × Pattern)
    front = unbuilt_at number (unbuilt_in r answer)

    Q : Result Draft CfgKind → Type 0
    Q j = refused_in number bytes j ++ (walk (left_by draft j)).refused ≡ first ∷ more → FirstIs (with_line number r.asks r.gives others) (onto (refused_in number bytes j) front (walk (left_by draft j))) first

    at : (given : Result Draft CfgKind) → refused_in number bytes given ++ (walk (left_by draft given)).refused ≡ first ∷ more →
        FirstIs (with_line number r.asks given others) (onto (refused_in number bytes given) front (walk (left_by draft given))) first
    at (Ok next) e = first_behind number r.asks front first others walk next [] (rest next e)
    at (Err kind) e =
        let line : RefusedLine = record { line = number; kind = kind; text = bytes } in
        let is : line ≡ first = cc in
        inl (ap (λ (l : RefusedLine). Err (l.line, l.kind)) is)

    unbuilt_is : (pattern : Pattern) (place : ℕ) → slice_get r.asks place ≡ Some pattern → unbuilt_in r answer ≡ Some pattern → Q (Err kinds.Pattern)
    unbuilt_is pattern place asked found e =
        let line : RefusedLine = record { line = number; kind = kinds.Pattern; text = bytes } in
        let is : line ≡ first = cc in
        let placed : slice_get (map (λ p. (number, p)) r.asks) place ≡ Some (number, pattern) = slice_get-map (λ p. (number, p)) r.asks place ∙ ap (option_map (λ p. (number, p))) asked in
        let one : length front ≡ 1 = ap (λ o. length (unbuilt_at number o)) found in
        let len : length (front ++ (walk draft).unbuilt) ≡ length front + length (walk draft).unbuilt = length-append front (walk draft).unbuilt in
        let some : 1 ≤ length (front ++ (walk draft).unbuilt) = omega (arith, len, one) in
        let before = found_before (map (λ p. (number, p)) r.asks) (later_asks r.gives others) place (number, pattern) placed in
        inr (before.0, pattern, before.1 ∙ ap (λ (l : RefusedLine). Some (l.line, pattern)) is, sym (ap (λ (l : RefusedLine). l.kind) is), some)

    by : ((judged r answer ≡ r.gives) × (unbuilt_in r answer ≡ None))
        ⊎ ((place : ℕ) × (pattern : Pattern) × (slice_get r.asks place ≡ Some pattern) × (unbuilt_in r answer ≡ Some pattern) × (judged r answer ≡ Err kinds.Pattern)) → Q (judged r answer)
    by (inl plainly) = subst Q (sym plainly.0) (at r.gives)
    by (inr refused) = subst Q (sym refused.4) (unbuilt_is refused.1 refused.0 refused.2 refused.3)

-- the first refused line is the one that a load names
first_refused : (number : ℕ) (draft : Draft) (ls : List (List ℕ)) (answers : List Answer) (first : RefusedLine) (more : List RefusedLine) →
    (walk_from number draft ls answers).refused ≡ first ∷ more → FirstIs (lines_from number draft ls) (walk_from number draft ls answers) first
unfolding lines_from walk_from
first_refused number draft [] answers first more e = absurd cc
first_refused number draft (line ∷ others) answers first more e =
    first_step number line draft (line_of draft line) (first_answer answers) (λ next. lines_from (number + 1) next others) (λ next. walk_from (number + 1) next others (answers_behind answers)) first more
    (λ next found. first_refused (number + 1) next others (answers_behind answers) first more found) e

-- ---- blank lines

-- a blank line changes nothing
blank_line : (draft : Draft) → (line_of draft []).gives ≡ Ok draft
unfolding line_of words_line words_of verdict
blank_line draft = refl

-- a load reads a line that is not refused, or a blank one in its place, and goes on behind it
blank_step : (number : ℕ) (bytes : List ℕ) (draft : Draft) (answer : Answer) (others : Draft → Placed Draft) (end : Result Draft Refusal) →
    (others (left_by draft (judged (line_of draft bytes) answer))).gives ≡ end →
    placed_gives number (line_of draft (blank_if_refused bytes (judged (line_of draft bytes) answer))).gives others ≡ end
blank_step number bytes draft answer others end = by (judged_by (line_of draft bytes) answer)
  where
    Q : Result Draft CfgKind → Type 0
    Q j = (others (left_by draft j)).gives ≡ end → placed_gives number (line_of draft (blank_if_refused bytes j)).gives others ≡ end

    refused : (kind : CfgKind) → Q (Err kind)
    refused kind rest = ap (λ g. placed_gives number g others) (blank_line draft) ∙ rest

    at : (given : Result Draft CfgKind) → (line_of draft bytes).gives ≡ given → Q given
    at (Ok next) is rest = ap (λ g. placed_gives number g others) is ∙ rest
    at (Err kind) is rest = refused kind rest

    by : ((judged (line_of draft bytes) answer ≡ (line_of draft bytes).gives) × (unbuilt_in (line_of draft bytes) answer ≡ None))
        ⊎ ((place : ℕ) × (pattern : Pattern) × (slice_get (line_of draft bytes).asks place ≡ Some pattern) × (unbuilt_in (line_of draft bytes) answer ≡ Some pattern) × (judged (line_of draft bytes) answer ≡ Err kinds.Pattern))
        → Q (judged (line_of draft bytes) answer)
    by (inl plainly) = subst Q (sym plainly.0) (at (line_of draft bytes).gives refl)
    by (inr unbuilt) = subst Q (sym unbuilt.4) (refused kinds.Pattern)

lines_blank : (number : ℕ) (draft : Draft) (ls : List (List ℕ)) (answers : List Answer) →
    (lines_from number draft (blanked_from draft ls answers)).gives ≡ Ok (walk_from number draft ls answers).draft
unfolding lines_from walk_from blanked_from
lines_blank number draft [] answers = refl
lines_blank number draft (line ∷ others) answers =
    let next = left_by draft (judged (line_of draft line) (first_answer answers)) in
    blank_step number line draft (first_answer answers) (λ d. lines_from (number + 1) d (blanked_from next others (answers_behind answers)))
    (Ok (walk_from (number + 1) next others (answers_behind answers)).draft) (lines_blank (number + 1) next others (answers_behind answers))

-- ---- a text

short_read : (text : List ℕ) → length text ≤ 1048576 → read_whole text ≡ of_lines (lines_from 1 start (lines text))
unfolding read_whole
short_read text short =
    ap (λ b. cond b (record { asks = []; gives = Err (0, Limit) }) (of_lines (lines_from 1 start (lines text)))) (le-ltb most_text (length text) short)

short_refused : (text : List ℕ) (answers : List Answer) → length text ≤ 1048576 → refused_of text answers ≡ (walk_of text answers).refused ++ refused_at_end (whole (walk_of text answers).draft)
unfolding refused_of
short_refused text answers short =
    ap (λ b. cond b (refused_whole kinds.Limit) ((walk_of text answers).refused ++ refused_at_end (whole (walk_of text answers).draft))) (le-ltb most_text (length text) short)

short_unbuilt : (text : List ℕ) (answers : List Answer) → length text ≤ 1048576 → unbuilt_of text answers ≡ (walk_of text answers).unbuilt
unfolding unbuilt_of
short_unbuilt text answers short = ap (λ b. cond b [] (walk_of text answers).unbuilt) (le-ltb most_text (length text) short)

-- the first refused line of a text that is not too long
first_named : (text : List ℕ) (answers : List Answer) (before after : ℕ) (first : RefusedLine) (others : List RefusedLine) → length text ≤ 1048576 →
    Counted (length (walk_of text answers).unbuilt) before after → (walk_of text answers).refused ++ refused_at_end (whole (walk_of text answers).draft) ≡ first ∷ others → IsNamed text before after first
unfolding config_of pattern_at
first_named text answers before after first others short counted = by (walk_of text answers).refused refl
  where
    given : Placed Draft
    given = lines_from 1 start (lines text)

    draft : Draft
    draft = (walk_of text answers).draft

    plainly : (line : RefusedLine) → line ≡ first → config_of text None ≡ Err (line.line, line.kind) → IsNamed text before after first
    plainly line is names = record { r = None; names = names ∙ ap (λ (l : RefusedLine). Err (l.line, l.kind)) is; builds = tt }

    at_end : (meaning : Result Config CfgKind) → config_of text None ≡ of_text meaning → refused_at_end meaning ≡ first ∷ others → IsNamed text before after first
    at_end (Ok config) names e = absurd cc
    at_end (Err kind) names e =
        let line : RefusedLine = record { line = 0; kind = kind; text = [] } in
        let is : line ≡ first = cc in
        plainly line is names

    rises : (n : ℕ) → 1 ≤ n → (before + n ≤ after) ⊎ (2 ^ 64 - 1 ≤ after) → Rose before after
    rises n some (inl more) = inl (omega arith)
    rises n some (inr most) = inr most

    in_line : FirstIs given (walk_of text answers) first → IsNamed text before after first
    in_line (inl gives) = plainly first refl (ap (λ (read : Placed Config). read.gives) (short_read text short) ∙ ap after_lines gives)
    in_line (inr asked) =
        let found : slice_get (read_whole text).asks asked.0 ≡ Some (first.line, asked.1) = ap (λ (read : Placed Config). slice_get read.asks asked.0) (short_read text short) ∙ asked.2 in
        let Stands : Option (ℕ × Pattern) → Type 0 = λ o. IsSomeAnd o (λ (number, pattern). number ≡ first.line) in
        record {
          r = Some asked.0;
          names = ap (refused_at (read_whole text)) found ∙ ap (λ k. Err (first.line, k)) (sym asked.3);
          builds = (rises (length (walk_of text answers).unbuilt) asked.4 counted.some, subst Stands (sym found) refl);
        }

    by : (refused : List RefusedLine) → (walk_of text answers).refused ≡ refused → refused ++ refused_at_end (whole draft) ≡ first ∷ others → IsNamed text before after first
    by [] none e =
        at_end (whole draft) (ap (λ (read : Placed Config). read.gives) (short_read text short) ∙ ap after_lines (lines_same 1 start (lines text) answers none)) e
    by (line ∷ more) some e =
        let is : line ≡ first = cc in
        in_line (first_refused 1 start (lines text) answers first more (some ∙ ap (λ (l : RefusedLine). l ∷ more) is))

-- what all lines come to, where the walk is known
pub judged_whole : (text : List ℕ) (answers : List Answer) (refused : List RefusedLine) (unbuilt : List (ℕ × Pattern)) (draft : Draft) (before after : ℕ) (verdict : Verdict) → length text ≤ 1048576 →
    walk_of text answers ≡ record { refused = refused; unbuilt = unbuilt; draft = draft } → Counted (length unbuilt) before after → EndsSo refused (whole draft) verdict → Judges text before after verdict
unfolding config_of
judged_whole text answers refused unbuilt draft before after verdict short walk counted ends =
    let all : refused_of text answers ≡ refused ++ refused_at_end (whole draft) = short_refused text answers short ∙ ap (λ (w : Walk). w.refused ++ refused_at_end (whole w.draft)) walk in
    let built : unbuilt_of text answers ≡ unbuilt = short_unbuilt text answers short ∙ ap (λ (w : Walk). w.unbuilt) walk in
    let counts = subst (λ (u : List (ℕ × Pattern)). Counted (length u) before after) (sym (ap (λ (w : Walk). w.unbuilt) walk)) counted in
    record {
      answers = answers;
      is = by verdict all ends;
      builds = subst (λ (u : List (ℕ × Pattern)). Counted (length u) before after) (sym built) counted;
      built = unrefused verdict ends;
      blank = lines_blank 1 start (lines text) answers;
      first = λ line others e. first_named text answers before after line others short counts (sym (short_refused text answers short) ∙ e);
    }
  where
    unrefused : (v : Verdict) → EndsSo refused (whole draft) v → IfAccepted (λ config. after ≡ before) v
    unrefused (Accepted config) ends =
        let none : (walk_of text answers).refused ≡ [] = ap (λ (w : Walk). w.refused) walk ∙ ends.0 in
        counted.none (ap length (sym (ap (λ (w : Walk). w.unbuilt) walk) ∙ none_unbuilt 1 start (lines text) answers none))
    unrefused (Refused kept) ends = tt

    by : (v : Verdict) → refused_of text answers ≡ refused ++ refused_at_end (whole draft) → EndsSo refused (whole draft) v → IsVerdict text answers v
    by (Accepted config) all ends =
        let none : (walk_of text answers).refused ≡ [] = ap (λ (w : Walk). w.refused) walk ∙ ends.0 in
        let given : config_of text None ≡ after_lines (Ok (walk_of text answers).draft) =
        ap (λ (read : Placed Config). read.gives) (short_read text short) ∙ ap after_lines (lines_same 1 start (lines text) answers none) in
        (all ∙ ap (λ m. refused ++ refused_at_end m) ends.1 ∙ append-nil refused ∙ ends.0, given ∙ ap (λ (w : Walk). of_text (whole w.draft)) walk ∙ ap of_text ends.1)
    by (Refused kept) all ends =
        (subst (λ (l : List RefusedLine). Lists kept l) (sym all) ends.0, subst (λ (l : List RefusedLine). 0 < length l) (sym all) ends.1)

pub counted_none : (count : ℕ) → Counted 0 count count
counted_none count = record { none = λ zero. refl; some = inl (omega arith) }

-- a text that is too long
pub judged_long : (text : List ℕ) (count : ℕ) (verdict : Verdict) → 1048576 < length text → EndsSo [] (Err kinds.Limit) verdict → Judges text count count verdict
unfolding config_of read_whole refused_of unbuilt_of
judged_long text count verdict long ends =
    let is-long = lt-ltb most_text (length text) long in
    let all : refused_of text [] ≡ refused_whole kinds.Limit = ap (λ b. cond b (refused_whole kinds.Limit) ((walk_of text []).refused ++ refused_at_end (whole (walk_of text []).draft))) is-long in
    let built : unbuilt_of text [] ≡ [] = ap (λ b. cond b [] (walk_of text []).unbuilt) is-long in
    let given : config_of text None ≡ Err (0, kinds.Limit) = ap (λ b. (cond b (record { asks = []; gives = Err (0, Limit) }) (of_lines (lines_from 1 start (lines text)))).gives) is-long in
    record {
      answers = [];
      is = by verdict all ends;
      builds = subst (λ (u : List (ℕ × Pattern)). Counted (length u) count count) (sym built) (counted_none count);
      built = unchanged verdict;
      blank = lines_blank 1 start (lines text) [];
      first = λ line others e. named line others (sym all ∙ e) given;
    }
  where
    unchanged : (v : Verdict) → IfAccepted (λ config. count ≡ count) v
    unchanged (Accepted config) = refl
    unchanged (Refused kept) = tt

    by : (v : Verdict) → refused_of text [] ≡ refused_whole kinds.Limit → EndsSo [] (Err kinds.Limit) v → IsVerdict text [] v
    by (Accepted config) all ends = let no = ends.1 in absurd cc
    by (Refused kept) all ends = (subst (λ (l : List RefusedLine). Lists kept l) (sym all) ends.0, subst (λ (l : List RefusedLine). 0 < length l) (sym all) ends.1)

    named : (first : RefusedLine) (others : List RefusedLine) → refused_whole kinds.Limit ≡ first ∷ others → config_of text None ≡ Err (0, kinds.Limit) → IsNamed text count count first
    named first others e given =
        let line : RefusedLine = record { line = 0; kind = kinds.Limit; text = [] } in
        let is : line ≡ first = cc in
        record { r = None; names = given ∙ ap (λ (l : RefusedLine). Err (l.line, l.kind)) is; builds = tt }
