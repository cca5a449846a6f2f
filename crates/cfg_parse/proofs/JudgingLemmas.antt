-- Judging the lines of a text one after the other, as a loop does.
use Rattle.std.proofs.Common.{inl, inr, ◌≡◌, ℕ, ◌+◌, ◌-◌, ◌^◌, ◌≤◌, ◌<◌, min, List, [], ◌∷◌, ◌++◌, map, cond, length, take, Option, Some, None, Result, Ok, Err, refl, sym, ap, ◌∙◌, subst, arith, append_assoc, length-append}
use Rattle.std.specs.Prelude.{◌⊎◌, slice_get, IfOk, OnOk}
use Rattle.std.specs.Str.Lines.{lines}
use Rattle.std.proofs.lemmas.Bool.{le-ltb, lt-ltb}
use Rattle.std.proofs.lemmas.List.{append-nil, length-take, take_all, take-append-le}
use Rattle.std.proofs.lemmas.Option.{slice_get-map}
use Rattle.http_rules.specs.declared.config.Config.{Config}
use Rattle.http_rules.specs.Valid.{IsValid}
use Rattle.px_pattern.specs.Pattern.{Pattern}
use Rattle.px_pattern.specs.Refusals.{Kept, Rose}
use Rattle.cfg_lex.specs.Words.{words_of, verdict}
use Rattle.cfg_expr.specs.Reading.{Fails, refused_by}
use Rattle.cfg_expr.proofs.PublicLaws.{found_behind, found_before}
use Rattle.cfg_parse.specs.declared.fault.CfgKind.{CfgKind}
use Rattle.cfg_parse.specs.declared.fault.CfgKind.TheVariants.{Limit}
use Rattle.cfg_parse.specs.declared.fault.CfgKind.TheVariants as kinds
use Rattle.cfg_parse.specs.declared.fault.LineRefusal.{LineRefusal}
use Rattle.cfg_parse.specs.declared.fault.LineRefusal.TheVariants as refusals
use Rattle.cfg_parse.specs.declared.draft.Draft.{Draft}
use Rattle.cfg_parse.specs.declared.refused.RefusedLine.{RefusedLine}
use Rattle.cfg_parse.specs.declared.refused.RefusedLines.{RefusedLines}
use Rattle.cfg_parse.specs.declared.refused.Verdict.{Verdict}
use Rattle.cfg_parse.specs.declared.refused.Verdict.TheVariants.{Accepted, Refused}
use Rattle.cfg_parse.specs.Reading as parts
use Rattle.cfg_parse.specs.Asking.{LineReading, cause_of}
use Rattle.cfg_parse.specs.Limits.{most_text}
use Rattle.cfg_parse.specs.Draft.{start}
use Rattle.cfg_parse.specs.Lines.{line_of, words_line}
use Rattle.cfg_parse.specs.Whole.{Placed, Refusal, placed_gives, later_asks, lines_from, of_text, after_lines, of_lines, whole, read_whole, refused_at, config_of, pattern_at}
use Rattle.cfg_parse.specs.Judged.{Answer, Walk, first_answer, answers_behind, unbuilt_in, judged, left_by, refused_in, unbuilt_at, onto, walk_from, walk_of, blank_if_refused, blanked_from, refused_whole, refused_at_end, refused_of, unbuilt_of, Lists, IsTold, IsCounted, IsLineJudged, EndsSo, Counted, Judges}
use Rattle.cfg_parse.proofs.JudgedLemmas.{counted_none, judged_whole, judged_long}

-- ---- the lines that are kept

-- a line behind fewer than are kept at most
pub kept_more : (first all : List RefusedLine) (line : RefusedLine) → first ≡ take 100 all → length first < 100 → first ++ line ∷ [] ≡ take 100 (all ++ line ∷ [])
kept_more first all line is few =
    let len : length first ≡ min 100 (length all) = ap length is ∙ length-take 100 all in
    let short : length all < 100 = omega (arith, len, few) in
    let all-of : take 100 all ≡ all = take_all 100 all (omega arith) in
    let more : length (all ++ line ∷ []) ≡ length all + 1 = length-append all (line ∷ []) in
    let some : take 100 (all ++ line ∷ []) ≡ all ++ line ∷ [] = take_all 100 (all ++ line ∷ []) (omega (arith, more, short)) in
    ap (λ (l : List RefusedLine). l ++ line ∷ []) (is ∙ all-of) ∙ sym some

-- a line behind as many as are kept
pub kept_full : (first all : List RefusedLine) (line : RefusedLine) → first ≡ take 100 all → 100 ≤ length first → first ≡ take 100 (all ++ line ∷ [])
kept_full first all line is full =
    let len : length first ≡ min 100 (length all) = ap length is ∙ length-take 100 all in
    is ∙ sym (take-append-le 100 all (line ∷ []) (omega (arith, len, full)))

pub keep_so : {E : Type 0} (result : Result (Unit {0}) E) (old new all : List RefusedLine) (line : RefusedLine) → OnOk result (new ≡ old ++ line ∷ []) → length old < 100 → old ≡ take 100 all
    → OnOk result (new ≡ take 100 (all ++ line ∷ []))
keep_so (Ok done) old new all line pushed few is = pushed ∙ kept_more old all line is few
keep_so (Err fault) old new all line pushed few is = tt

-- one more line
pub listed_more : (old new : RefusedLines) (all : List RefusedLine) (line : RefusedLine) → Lists old all → new.first ≡ take 100 (all ++ line ∷ []) → new.count ≡ old.count + 1
    → Lists new (all ++ line ∷ [])
listed_more old new all line lists first count =
    let more : length (all ++ line ∷ []) ≡ length all + 1 = length-append all (line ∷ []) in
    record { first = first; count = omega (arith, count, more, lists.count) }

-- ---- one line

-- a line that is read
pub line_read : (number : ℕ) (bytes : List ℕ) (old new : Draft) (kept : RefusedLines) (before after : ℕ) →
    (line_of old bytes).gives ≡ Ok new → after ≡ before → IsLineJudged number bytes old new kept kept before after
line_read number bytes old new kept before after is same = record {
  answer = None;
  left = sym (ap (λ r. left_by old r) is);
  lists = λ all lists. subst (λ (l : List RefusedLine). Lists kept l) (sym (ap (λ r. all ++ refused_in number bytes r) is ∙ append-nil all)) lists;
  builds = same;
  few = omega arith;
}

-- a line that is refused
pub line_refused : (number : ℕ) (bytes : List ℕ) (old new : Draft) (kept now : RefusedLines) (before after : ℕ) (last : Kept) (refusal : LineRefusal) (kind : CfgKind) →
    Fails (line_of old bytes) before after last (cause_of refusal) → IsTold refusal kind → new ≡ old →
    ((all : List RefusedLine) → Lists kept all → Lists now (all ++ record { line = number; kind = kind; text = bytes } ∷ [])) → now.count ≤ kept.count + 1 →
    IsLineJudged number bytes old new kept now before after
line_refused number bytes old new kept now before after last (refusals.Refused given) kind fails told same lists few =
    let is : (line_of old bytes).gives ≡ Err kind = fails.0 ∙ ap (λ k. Err k) (sym told) in
    record {
      answer = None;
      left = same ∙ sym (ap (λ r. left_by old r) is);
      lists = λ all l. subst (λ (ls : List RefusedLine). Lists now ls) (sym (ap (λ r. all ++ refused_in number bytes r) is)) (lists all l);
      builds = fails.1;
      few = few;
    }
line_refused number bytes old new kept now before after last refusals.Pattern kind fails told same lists few =
    let r = line_of old bytes in
    let is : judged r (Some fails.number) ≡ Err kind = ap (λ o. refused_by kinds.Pattern r.gives o) fails.asked ∙ ap (λ k. Err k) (sym told) in
    record {
      answer = Some fails.number;
      left = same ∙ sym (ap (λ r. left_by old r) is);
      lists = λ all l. subst (λ (ls : List RefusedLine). Lists now ls) (sym (ap (λ r. all ++ refused_in number bytes r) is)) (lists all l);
      builds = subst (λ o. IsCounted o before after) (sym fails.asked) fails.rose;
      few = few;
    }
line_refused number bytes old new kept now before after last refusals.OutOfMemory kind fails told same lists few = absurd told

-- ---- lines in turn

-- what was judged so far stands in front of what is left, whatever is answered there
pub record Walks (all rest : List Answer → Walk) (refused : List RefusedLine) (unbuilt : List (ℕ × Pattern)) : Type 0 where
  pub answers : List Answer
  pub leads : (later : List Answer) → all (answers ++ later) ≡ onto refused unbuilt (rest later)

pub walks_begin : (all : List Answer → Walk) → Walks all all [] []
walks_begin all = record { answers = []; leads = λ later. refl }

onto_onto : (refused more : List RefusedLine) (unbuilt others : List (ℕ × Pattern)) (walk : Walk) → onto refused unbuilt (onto more others walk) ≡ onto (refused ++ more) (unbuilt ++ others) walk
onto_onto refused more unbuilt others walk =
    let first : refused ++ (more ++ walk.refused) ≡ (refused ++ more) ++ walk.refused = sym (append_assoc refused more walk.refused) in
    let second : unbuilt ++ (others ++ walk.unbuilt) ≡ (unbuilt ++ others) ++ walk.unbuilt = sym (append_assoc unbuilt others walk.unbuilt) in
    let made : List RefusedLine → List (ℕ × Pattern) → Walk = λ r u. record { refused = r; unbuilt = u; draft = walk.draft } in
    ap (λ r. made r (unbuilt ++ (others ++ walk.unbuilt))) first ∙ ap (λ u. made ((refused ++ more) ++ walk.refused) u) second

pub walks_on : (all : List Answer → Walk) (number : ℕ) (draft next : Draft) (now others : List (List ℕ)) (line : List ℕ) (answer : Answer) (refused : List RefusedLine) (unbuilt : List (ℕ × Pattern)) →
    now ≡ line ∷ others → next ≡ left_by draft (judged (line_of draft line) answer) → Walks all (λ answers. walk_from number draft now answers) refused unbuilt →
    Walks all (λ answers. walk_from (number + 1) next others answers) (refused ++ refused_in number line (judged (line_of draft line) answer)) (unbuilt ++ unbuilt_at number (unbuilt_in (line_of draft line) answer))
unfolding walk_from
walks_on all number draft next now others line answer refused unbuilt cut is walks =
    let Q : List (List ℕ) → Type 0 = λ ls. Walks all (λ answers. walk_from number draft ls answers) refused unbuilt in
    let h = subst Q cut walks in
    let j = judged (line_of draft line) answer in
    let u = unbuilt_at number (unbuilt_in (line_of draft line) answer) in
    record {
      answers = h.answers ++ answer ∷ [];
      leads = λ later.
          ap all (append_assoc h.answers (answer ∷ []) later) ∙ h.leads (answer ∷ later)
          ∙ ap (λ d. onto refused unbuilt (onto (refused_in number line j) u (walk_from (number + 1) d others later))) (sym is)
          ∙ onto_onto refused (refused_in number line j) unbuilt u (walk_from (number + 1) next others later);
    }

-- ---- the builder's count

rose_more : (n before mid after : ℕ) → (before + n ≤ mid) ⊎ (2 ^ 64 - 1 ≤ mid) → Rose mid after → (before + (n + 1) ≤ after) ⊎ (2 ^ 64 - 1 ≤ after)
rose_more n before mid after (inl some) (inl more) = inl (omega arith)
rose_more n before mid after (inl some) (inr most) = inr most
rose_more n before mid after (inr most) (inl more) = inr (omega arith)
rose_more n before mid after (inr full) (inr most) = inr most

pub counted_more : (unbuilt : List (ℕ × Pattern)) (number before mid after : ℕ) (found : Option Pattern) → Counted (length unbuilt) before mid → IsCounted found mid after
    → Counted (length (unbuilt ++ unbuilt_at number found)) before after
counted_more unbuilt number before mid after None counted same =
    rw append-nil (subst (λ n. Counted (length unbuilt) before n) (sym same) counted)
counted_more unbuilt number before mid after (Some pattern) counted rose =
    let more : length (unbuilt ++ (number, pattern) ∷ []) ≡ length unbuilt + 1 = length-append unbuilt ((number, pattern) ∷ []) in
    subst (λ n. Counted n before after) (sym more) (record { none = λ zero. absurd (omega arith); some = rose_more (length unbuilt) before mid after counted.some rose })

-- no line is left
pub walks_end : (all : List Answer → Walk) (rest : List ℕ) (number : ℕ) (draft : Draft) (refused : List RefusedLine) (unbuilt : List (ℕ × Pattern)) → length rest ≡ 0 →
    Walks all (λ answers. walk_from number draft (lines rest) answers) refused unbuilt → (answers : List Answer) × (all answers ≡ record { refused = refused; unbuilt = unbuilt; draft = draft })
unfolding walk_from
walks_end all [] number draft refused unbuilt none walks =
    let made : List RefusedLine → List (ℕ × Pattern) → Walk = λ r u. record { refused = r; unbuilt = u; draft = draft } in
    (walks.answers ++ [], walks.leads [] ∙ ap (λ r. made r (unbuilt ++ [])) (append-nil refused) ∙ ap (λ u. made refused u) (append-nil unbuilt))
walks_end all (x ∷ rest) number draft refused unbuilt none walks = absurd (omega arith)

-- ---- a loop over lines

-- the lines so far are judged, and these are left
pub record Going (text rest : List ℕ) (number : ℕ) (draft : Draft) (kept : RefusedLines) (before now : ℕ) : Type 0 where
  pub refused : List RefusedLine
  pub unbuilt : List (ℕ × Pattern)
  pub walks : Walks (λ answers. walk_of text answers) (λ answers. walk_from number draft (lines rest) answers) refused unbuilt
  pub lists : Lists kept refused
  pub counted : Counted (length unbuilt) before now

pub going_begin : (text : List ℕ) (kept : RefusedLines) (count : ℕ) → Lists kept [] → Going text text 1 start kept count count
going_begin text kept count lists = record {
  refused = [];
  unbuilt = [];
  walks = walks_begin (λ answers. walk_of text answers);
  lists = lists;
  counted = counted_none count;
}

pub going_on : (text rest others line : List ℕ) (number : ℕ) (draft next : Draft) (kept now : RefusedLines) (before mid after : ℕ) → lines rest ≡ line ∷ lines others →
    Going text rest number draft kept before mid → IsLineJudged number line draft next kept now mid after → Going text others (number + 1) next now before after
going_on text rest others line number draft next kept now before mid after cut going judges = record {
  refused = going.refused ++ refused_in number line (judged (line_of draft line) judges.answer);
  unbuilt = going.unbuilt ++ unbuilt_at number (unbuilt_in (line_of draft line) judges.answer);
  walks = walks_on (λ answers. walk_of text answers) number draft next (lines rest) (lines others) line judges.answer going.refused going.unbuilt cut judges.left going.walks;
  lists = judges.lists going.refused going.lists;
  counted = counted_more going.unbuilt number before mid after (unbuilt_in (line_of draft line) judges.answer) going.counted judges.builds;
}

pub going_end : (text rest : List ℕ) (number : ℕ) (draft : Draft) (kept : RefusedLines) (before now : ℕ) (verdict : Verdict) → length text ≤ 1048576 → length rest ≡ 0 →
    Going text rest number draft kept before now → ((all : List RefusedLine) → Lists kept all → EndsSo all (whole draft) verdict) → Judges text before now verdict
going_end text rest number draft kept before now verdict short none going ends =
    let ended = walks_end (λ answers. walk_of text answers) rest number draft going.refused going.unbuilt none going.walks in
    judged_whole text ended.0 going.refused going.unbuilt draft before now verdict short ended.1 going.counted (ends going.refused going.lists)

-- ---- what code gives

-- a line that is refused, where it could be kept
pub line_refused_so : {E : Type 0} (number : ℕ) (bytes : List ℕ) (old new : Draft) (kept now : RefusedLines) (before after : ℕ) (last : Kept) (refusal : LineRefusal) (kind : CfgKind) (result : Result (Unit {0}) E) →
    Fails (line_of old bytes) before after last (cause_of refusal) → IsTold refusal kind → new ≡ old →
    ((all : List RefusedLine) → Lists kept all → OnOk result (Lists now (all ++ record { line = number; kind = kind; text = bytes } ∷ []))) → now.count ≤ kept.count + 1 →
    OnOk result (IsLineJudged number bytes old new kept now before after)
line_refused_so number bytes old new kept now before after last refusal kind (Ok done) fails told same lists few =
    line_refused number bytes old new kept now before after last refusal kind fails told same lists few
line_refused_so number bytes old new kept now before after last refusal kind (Err fault) fails told same lists few = tt

-- the configuration is refused as a whole
pub told_whole : (meaning : Result Config CfgKind) (refusal : LineRefusal) (kind : CfgKind) → parts.Fails refusal meaning → IsTold refusal kind → meaning ≡ Err kind
told_whole meaning (refusals.Refused given) kind fails told = fails ∙ ap (λ k. Err k) (sym told)
told_whole meaning refusals.Pattern kind fails told = absurd fails
told_whole meaning refusals.OutOfMemory kind fails told = absurd told

pub ends_refused : (all : List RefusedLine) (meaning : Result Config CfgKind) (kind : CfgKind) (refused : RefusedLines) → meaning ≡ Err kind →
    Lists refused (all ++ record { line = 0; kind = kind; text = [] } ∷ []) → EndsSo all meaning (Refused refused)
ends_refused all meaning kind refused is lists =
    let more : length (all ++ refused_whole kind) ≡ length all + 1 = length-append all (refused_whole kind) in
    subst (λ m. EndsSo all m (Refused refused)) (sym is) (lists, omega (arith, more))

-- no line is refused, or some line is
pub ends_accepted : (all : List RefusedLine) (config : Config) (refused : RefusedLines) → refused.count ≡ 0 → Lists refused all → EndsSo all (Ok config) (Accepted config)
ends_accepted [] config refused none lists = (refl, refl)
ends_accepted (line ∷ all) config refused none lists = let count = lists.count in absurd (omega arith)

pub ends_kept : (all : List RefusedLine) (config : Config) (refused : RefusedLines) → (refused.count ≡ 0 → ⊥) → Lists refused all → EndsSo all (Ok config) (Refused refused)
ends_kept all config refused some lists =
    let count = lists.count in
    let more : length (all ++ []) ≡ length all = ap length (append-nil all) in
    (subst (λ (l : List RefusedLine). Lists refused l) (sym (append-nil all)) lists, omega (arith, more, count, some))

pub going_end_so : {E : Type 0} (text rest : List ℕ) (number : ℕ) (draft : Draft) (kept : RefusedLines) (before now : ℕ) (result : Result Verdict E) → length text ≤ 1048576 → length rest ≡ 0 →
    Going text rest number draft kept before now → ((all : List RefusedLine) → Lists kept all → IfOk result (EndsSo all (whole draft))) → IfOk result (Judges text before now)
going_end_so text rest number draft kept before now (Ok verdict) short none going ends = going_end text rest number draft kept before now verdict short none going ends
going_end_so text rest number draft kept before now (Err fault) short none going ends = tt

pub judged_long_so : {E : Type 0} (text : List ℕ) (count : ℕ) (result : Result Verdict E) → 1048576 < length text → IfOk result (EndsSo [] (Err kinds.Limit)) → IfOk result (Judges text count count)
judged_long_so text count (Ok verdict) long ends = judged_long text count verdict long ends
judged_long_so text count (Err fault) long ends = tt

pub ruleset judging = (
  kept_full,
  keep_so,
  listed_more,
  line_read,
  line_refused_so,
  told_whole,
  ends_refused,
  ends_accepted,
  ends_kept,
  going_begin,
  judged_long_so,
)
