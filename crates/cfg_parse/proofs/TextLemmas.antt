-- Reading the lines of a text one after the other, as a loop does.
use Rattle.std.proofs.Common.{◌≡◌, ℕ, ◌+◌, ◌≤◌, ◌<◌, List, [], ◌∷◌, ◌++◌, map, cond, length, Option, Some, None, Result, Ok, Err, refl, sym, ap, ◌∙◌, subst, arith}
use Rattle.std.specs.Prelude.{slice_get, option_map, IsSomeAnd}
use Rattle.std.specs.Str.Lines.{lines}
use Rattle.std.proofs.lemmas.Bool.{le-ltb, lt-ltb}
use Rattle.std.proofs.lemmas.Option.{slice_get-map}
use Rattle.http_rules.specs.declared.config.Config.{Config}
use Rattle.px_pattern.specs.Pattern.{Pattern}
use Rattle.px_pattern.specs.Refusals.{Kept, Rose}
use Rattle.cfg_expr.specs.Reading.{Fails}
use Rattle.cfg_expr.proofs.PublicLaws.{found_behind, found_before}
use Rattle.cfg_parse.specs.declared.fault.CfgKind.{CfgKind}
use Rattle.cfg_parse.specs.declared.fault.CfgKind.TheVariants.{Limit}
use Rattle.cfg_parse.specs.declared.fault.CfgFault.{CfgFault}
use Rattle.cfg_parse.specs.declared.fault.LineRefusal.{LineRefusal}
use Rattle.cfg_parse.specs.declared.fault.LineRefusal.TheVariants as refusals
use Rattle.cfg_parse.specs.declared.draft.Draft.{Draft}
use Rattle.cfg_parse.specs.Reading as parts
use Rattle.cfg_parse.specs.Asking.{cause_of}
use Rattle.cfg_parse.specs.Limits.{most_text}
use Rattle.cfg_parse.specs.Draft.{start}
use Rattle.cfg_parse.specs.Lines.{line_of}
use Rattle.cfg_parse.specs.Whole.{Placed, Refusal, later_asks, placed_gives, lines_from, of_text, after_lines, of_lines, whole, read_whole, refused_at, config_of, pattern_at, fault_at, Configures, Loads}
use Rattle.cfg_parse.proofs.WholeLemmas.{whole-valid}

-- what is left gives what all gives, and asks for nothing that all does not ask for
pub record Leads (all left : Placed Draft) : Type 0 where
  pub gives : all.gives ≡ left.gives
  pub asks : (n : ℕ) (q : ℕ × Pattern) → slice_get left.asks n ≡ Some q → (m : ℕ) × (slice_get all.asks m ≡ Some q)

pub leads_begin : (all : Placed Draft) → Leads all all
leads_begin all = record { gives = refl; asks = λ n q h. (n, h) }

-- the text is not too long
abbrev too_long : Placed Config
too_long = record { asks = []; gives = Err (0, Limit) }

short_read : (text : List ℕ) → length text ≤ 1048576 → read_whole text ≡ of_lines (lines_from 1 start (lines text))
unfolding read_whole
short_read text short =
    ap (λ b. cond b too_long (of_lines (lines_from 1 start (lines text)))) (le-ltb most_text (length text) short)

-- a line that was read leads on
pub leads_on : (all : Placed Draft) (number : ℕ) (draft next : Draft) (now others : List (List ℕ)) (line : List ℕ) → now ≡ line ∷ others →
    (line_of draft line).gives ≡ Ok next → Leads all (lines_from number draft now) → Leads all (lines_from (number + 1) next others)
unfolding lines_from
leads_on all number draft next now others line cut is leads =
    let Q : List (List ℕ) → Type 0 = λ ls. Leads all (lines_from number draft ls) in
    let h = subst Q cut leads in
    let r = line_of draft line in
    let behind = λ (d : Draft). lines_from (number + 1) d others in
    record {
      gives = h.gives ∙ ap (λ g. placed_gives number g behind) is;
      asks = λ n q found.
          let inside : slice_get (later_asks r.gives behind) n ≡ Some q = ap (λ g. slice_get (later_asks g behind) n) is ∙ found in
          let later = found_behind (map (λ p. (number, p)) r.asks) (later_asks r.gives behind) n q inside in
          h.asks later.0 q later.1;
    }

-- no line is left
pub leads_end : (text rest : List ℕ) (number : ℕ) (draft : Draft) (before after : ℕ) (kept : Kept) (result : Result Config CfgFault) →
    length text ≤ 1048576 → length rest ≡ 0 → Leads (lines_from 1 start (lines text)) (lines_from number draft (lines rest)) → after ≡ before →
    Configures result (of_text (whole draft)) → Loads text before after kept result
unfolding lines_from config_of
leads_end text [] number draft before after kept result short none h same configures =
    let total : config_of text None ≡ of_text (whole draft) = ap (λ (read : Placed Config). read.gives) (short_read text short) ∙ ap after_lines h.gives in
    let Q : Result Config Refusal → Type 0 = λ meaning. Configures result meaning in
    record { r = None; configures = subst Q (sym total) configures; builds = same }
leads_end text (x ∷ rest) number draft before after kept result short none h same configures = absurd (omega arith)

-- a line that fails ends all
pub leads_out : (text : List ℕ) (number : ℕ) (draft : Draft) (now others : List (List ℕ)) (line : List ℕ) (before mid after : ℕ) (kept : Kept) (refusal : LineRefusal) →
    length text ≤ 1048576 → now ≡ line ∷ others → Leads (lines_from 1 start (lines text)) (lines_from number draft now) → mid ≡ before →
    Fails (line_of draft line) mid after kept (cause_of refusal) → Loads text before after kept (Err (fault_at number refusal))
unfolding lines_from config_of pattern_at
leads_out text number draft now others line before mid after kept (refusals.Refused kind) short cut leads same fails =
    let Q : List (List ℕ) → Type 0 = λ ls. Leads (lines_from 1 start (lines text)) (lines_from number draft ls) in
    let h = subst Q cut leads in
    let behind = λ (d : Draft). lines_from (number + 1) d others in
    let given : (lines_from 1 start (lines text)).gives ≡ Err (number, kind) = h.gives ∙ ap (λ g. placed_gives number g behind) fails.0 in
    record {
      r = None;
      configures = ap (λ (read : Placed Config). read.gives) (short_read text short) ∙ ap after_lines given;
      builds = fails.1 ∙ same;
    }
leads_out text number draft now others line before mid after kept refusals.Pattern short cut leads same fails =
    let Q : List (List ℕ) → Type 0 = λ ls. Leads (lines_from 1 start (lines text)) (lines_from number draft ls) in
    let h = subst Q cut leads in
    let r = line_of draft line in
    let behind = λ (d : Draft). lines_from (number + 1) d others in
    let placed : slice_get (map (λ p. (number, p)) r.asks) fails.number ≡ Some (number, fails.pattern) =
    slice_get-map (λ p. (number, p)) r.asks fails.number ∙ ap (option_map (λ p. (number, p))) fails.asked in
    let front = found_before (map (λ p. (number, p)) r.asks) (later_asks r.gives behind) fails.number (number, fails.pattern) placed in
    let found = h.asks front.0 (number, fails.pattern) front.1 in
    let asked : slice_get (read_whole text).asks found.0 ≡ Some (number, fails.pattern) =
    ap (λ (read : Placed Config). slice_get read.asks found.0) (short_read text short) ∙ found.1 in
    let Told : Option (ℕ × Pattern) → Type 0 = λ o. IsSomeAnd o (λ (line, p). kept ≡ Some (p.text, p.icase)) in
    record {
      r = Some found.0;
      configures = ap (refused_at (read_whole text)) asked;
      builds = (subst (λ n. Rose n after) same fails.rose, subst Told (sym asked) fails.is_last);
    }
leads_out text number draft now others line before mid after kept refusals.OutOfMemory short cut leads same fails =
    record { r = None; configures = tt; builds = fails ∙ same }

-- a text that is too long
pub refused_whole : (text : List ℕ) (count : ℕ) (kept : Kept) → 1048576 < length text → Loads text count count kept (Err (fault_at 0 (refusals.Refused Limit)))
unfolding config_of read_whole
refused_whole text count kept long =
    record {
      r = None;
      configures = ap (λ b. (cond b too_long (of_lines (lines_from 1 start (lines text)))).gives) (lt-ltb most_text (length text) long);
      builds = refl;
    }

-- ---- after all lines

-- what all lines come to is refused as line 0
pub refused_after : (meaning : Result Config CfgKind) (refusal : LineRefusal) → parts.Fails refusal meaning → Configures (Err (fault_at 0 refusal)) (of_text meaning)
refused_after meaning (refusals.Refused kind) fails = ap of_text fails
refused_after meaning refusals.Pattern fails = absurd fails
refused_after meaning refusals.OutOfMemory fails = tt

pub ruleset endings = (refused_after, whole-valid, refused_whole)
