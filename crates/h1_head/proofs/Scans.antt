-- A window that was looked at before.
use Rattle.std.proofs.Common.{◌≡◌, ℕ, ◌-◌, ◌<◌, ◌≤◌, List, [], ◌++◌, Bool, false, length, take, drop, refl, sym, ap, ◌∙◌, subst, arith}
use Rattle.std.specs.Prelude.{count_by}
use Rattle.std.specs.List.{list_any}
use Rattle.std.proofs.lemmas.List.{length-take-le, length-drop, take-append-drop, take_all, take-append-le, length-append}
use Rattle.http_model.specs.declared.Limits.{Limits}
use Rattle.h1_head.specs.Numbers.{most_lines}
use Rattle.h1_head.specs.Kind.{HeadKind}
use Rattle.h1_head.specs.Stream.{behind, HasNone}
use Rattle.h1_head.specs.Decides.{MayWait, is_line_feed}
use Rattle.h1_head.specs.declared.answer.HeadRead.{HeadRead}
use Rattle.h1_head.specs.declared.answer.HeadRead.TheVariants as answer
use Rattle.h1_head.specs.Answers.{IfMore}
use Rattle.h1_head.specs.Scanned.{IsScanned}
use Rattle.h1_head.proofs.Heads.{behind-append}
use Rattle.h1_head.proofs.Lawful.{IsLawful, no_short_head}
use Rattle.h1_head.proofs.Waits.{behind_again, waits_on}

-- where no line ended behind the bytes that were looked at, the window has no empty line in front, and still waits
pub still_alone : (K : HeadKind) (limits : Limits) (w : List ℕ) (n : ℕ) → IsScanned K limits w n → 2 ≤ n → behind w ≡ w
still_alone K limits w n scanned two =
    let front : List ℕ = take n w in
    let size = length-take-le n w scanned.within in
    let all = take-append-drop n w in
    sym (ap behind all)
    ∙ behind-append front (drop n w) (λ e. let len : length front ≡ 0 = ap length (sym scanned.alone ∙ e) in absurd (omega arith)) (λ e. let len : length front ≡ 1 = ap length (sym scanned.alone ∙ e) in absurd (omega arith))
    ∙ ap (λ (xs : List ℕ). xs ++ drop n w) scanned.alone ∙ all

pub still_waits : (K : HeadKind) → IsLawful K → (limits : Limits) (w : List ℕ) (n : ℕ) → IsScanned K limits w n → 2 ≤ n → length w < limits.bufsize → list_any is_line_feed (drop n w) ≡ false → MayWait K limits false w
still_waits K laws limits w n scanned two small none =
    let size = length-take-le n w scanned.within in
    let all = take-append-drop n w in
    subst (MayWait K limits false) all
    (waits_on K laws limits (take n w) (drop n w) scanned.waits scanned.alone (omega arith) none (subst (λ (xs : List ℕ). length xs < limits.bufsize) (sym all) small))

-- a window that waits was looked at to its end
pub all_scanned : (K : HeadKind) (limits : Limits) (whole : Bool) (w : List ℕ) (skip : ℕ) → drop skip w ≡ behind w → MayWait K limits whole w → IsScanned K limits (drop skip w) (length w - skip)
all_scanned K limits whole w skip lines waits =
    let v : List ℕ = drop skip w in
    let size : length v ≡ length w - skip = length-drop skip w in
    let all : take (length w - skip) v ≡ v = take_all (length w - skip) v (omega arith) in
    let alone : behind v ≡ v = ap behind lines ∙ behind_again w ∙ sym lines in
    let same : behind w ≡ behind v = sym lines ∙ sym alone in
    record {
      within = omega arith;
      alone = ap behind all ∙ alone ∙ sym all;
      waits = subst (MayWait K limits false) (sym all) (record {
        ended = λ e. absurd (cc);
        no_head = subst (HasNone K) same waits.no_head;
        short = subst (λ (xs : List ℕ). length xs < limits.bufsize) same waits.short;
        few_lines = subst (λ (xs : List ℕ). count_by is_line_feed xs < most_lines) same waits.few_lines;
      });
    }

pub scanned_more : (K : HeadKind) (limits : Limits) (window more : List ℕ) (n : ℕ) → IsScanned K limits window n → IsScanned K limits (window ++ more) n
scanned_more K limits window more n scanned =
    let size = length-append window more in
    let same : take n window ≡ take n (window ++ more) = sym (take-append-le n window more scanned.within) in
    record {
      within = omega (arith, scanned.within);
      alone = subst (λ (xs : List ℕ). behind xs ≡ xs) same scanned.alone;
      waits = subst (MayWait K limits false) same scanned.waits;
    }

pub scanned_none : (K : HeadKind) → IsLawful K → (limits : Limits) (window : List ℕ) → 1024 ≤ limits.bufsize → IsScanned K limits window 0
scanned_none K laws limits window least = record {
  within = omega arith;
  alone = refl;
  waits = record { ended = λ e. absurd (cc); no_head = no_short_head K laws [] (omega arith); short = omega arith; few_lines = omega arith };
}

pub on_more : (K : HeadKind) (limits : Limits) (whole : Bool) (w : List ℕ) (read : HeadRead) → IfMore read (λ skip. drop skip w ≡ behind w) → IfMore read (λ _. MayWait K limits whole w)
    → IfMore read (λ skip. IsScanned K limits (drop skip w) (length w - skip))
on_more K limits whole w (answer.More skip) lines waits = all_scanned K limits whole w skip lines waits
on_more K limits whole w (answer.Head used framing declared close) lines waits = tt
on_more K limits whole w (answer.Refuse code why) lines waits = tt
