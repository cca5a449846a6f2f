-- A window in which no line ended since the last look still waits.
use Rattle.std.proofs.Common.{◌≡◌, ℕ, ◌+◌, ◌<◌, ◌≤◌, inl, inr, List, [], ◌∷◌, ◌++◌, Bool, true, false, refl, sym, ap, ◌∙◌, subst, length, cond, arith}
use Rattle.std.specs.Prelude.{◌==◌, ◌&&◌, ◌||◌, count_by}
use Rattle.std.specs.List.{list_any}
use Rattle.std.proofs.lemmas.Bool.{cases_lt}
use Rattle.std.proofs.lemmas.List.Sums.{sum_by-cons, sum_by-append}
use Rattle.http_model.specs.declared.Limits.{Limits}
use Rattle.h1_head.specs.Numbers.{most_lines}
use Rattle.h1_head.specs.Kind.{HeadKind}
use Rattle.h1_head.specs.Stream.{behind, HasNone}
use Rattle.h1_head.specs.Decides.{MayWait, is_line_feed}
use Rattle.h1_head.specs.Feeds.{feeds}
use Rattle.h1_head.proofs.Heads.{feeds-append, behind-append}
use Rattle.h1_head.proofs.Lawful.{IsLawful}

-- no empty line stands behind the empty lines
pub behind_again : (xs : List ℕ) → behind (behind xs) ≡ behind xs
behind_again [] = refl
behind_again (a ∷ []) = by (a == 10) refl
  where
    by : (t : Bool) → t ≡ (a == 10) → behind (cond t [] (a ∷ [])) ≡ cond t [] (a ∷ [])
    by true e = refl
    by false e = ap (λ t. cond t [] (a ∷ [])) (sym e)
behind_again (a ∷ b ∷ xs) = by (behind_again (b ∷ xs)) (behind_again xs) (a == 10) (a == 13 && b == 10) refl refl
  where
    by : behind (behind (b ∷ xs)) ≡ behind (b ∷ xs) → behind (behind xs) ≡ behind xs → (t u : Bool) → t ≡ (a == 10) → u ≡ (a == 13 && b == 10)
        → behind (cond t (behind (b ∷ xs)) (cond u (behind xs) (a ∷ b ∷ xs))) ≡ cond t (behind (b ∷ xs)) (cond u (behind xs) (a ∷ b ∷ xs))
    by one two true u e f = one
    by one two false true e f = two
    by one two false false e f =
        ap (λ t. cond t (behind (b ∷ xs)) (cond (a == 13 && b == 10) (behind xs) (a ∷ b ∷ xs))) (sym e) ∙ ap (λ u. cond u (behind xs) (a ∷ b ∷ xs)) (sym f)

count_on : (more : List ℕ) → list_any is_line_feed more ≡ false → count_by is_line_feed more ≡ 0
count_on [] none = refl
count_on (b ∷ more) none =
    let one : count_by is_line_feed (b ∷ more) ≡ cond (is_line_feed b) 1 0 + count_by is_line_feed more = sum_by-cons (λ (x : ℕ). cond (is_line_feed x) 1 0) b more in
    let first : is_line_feed b ≡ false = or_first (is_line_feed b) (list_any is_line_feed more) none in
    let rest : count_by is_line_feed more ≡ 0 = count_on more (or_second (is_line_feed b) (list_any is_line_feed more) none) in
    one ∙ (λ i. cond (first i) 1 0 + rest i)
  where
    or_first : (x y : Bool) → (x || y) ≡ false → x ≡ false
    or_first true y e = e
    or_first false y e = refl

    or_second : (x y : Bool) → (x || y) ≡ false → y ≡ false
    or_second true y e = absurd (let both : true ≡ false = e in cc both)
    or_second false y e = e

no_head_on : (K : HeadKind) → IsLawful K → (w more : List ℕ) → behind (w ++ more) ≡ w ++ more → HasNone K w → list_any is_line_feed more ≡ false → HasNone K (w ++ more)
no_head_on K laws w more alone no_head none h rest parses =
    let blank = laws.unled (w ++ more) h rest parses alone in
    elim (cases_lt (length w) (K.size h)) [
      | inr long ↦ no_head h _ (laws.within w more h rest parses long)
      | inl short ↦
          let fewer : feeds w < 2 + K.count h = laws.lines w more h rest parses blank short in
          let all : 2 + K.count h ≤ feeds (w ++ more) = laws.full (w ++ more) h rest parses blank in
          let sum : feeds (w ++ more) ≡ feeds w + feeds more = feeds-append w more in
          let no_more : feeds more ≡ 0 = count_on more none in
          absurd (omega arith)
    ]

pub waits_on : (K : HeadKind) → IsLawful K → (limits : Limits) (w more : List ℕ) → MayWait K limits false w → behind w ≡ w → 2 ≤ length w → list_any is_line_feed more ≡ false → length (w ++ more) < limits.bufsize → MayWait K limits false (w ++ more)
waits_on K laws limits w more waits alone two none small =
    let all : behind (w ++ more) ≡ w ++ more =
    behind-append w more (λ e. let len : length w ≡ 0 = ap length (sym alone ∙ e) in absurd (omega arith)) (λ e. let len : length w ≡ 1 = ap length (sym alone ∙ e) in absurd (omega arith)) ∙ ap (λ xs. xs ++ more) alone in
    record {
      ended = λ e. absurd (cc);
      no_head = subst (HasNone K) (sym all) (no_head_on K laws w more all (subst (HasNone K) alone waits.no_head) none);
      short = subst (λ (xs : List ℕ). length xs < limits.bufsize) (sym all) small;
      few_lines =
          let before : count_by is_line_feed w < most_lines = subst (λ (xs : List ℕ). count_by is_line_feed xs < most_lines) alone waits.few_lines in
          let both : count_by is_line_feed (w ++ more) ≡ count_by is_line_feed w + count_by is_line_feed more = sum_by-append (λ (x : ℕ). cond (is_line_feed x) 1 0) w more in
          let no_more : count_by is_line_feed more ≡ 0 = count_on more none in
          subst (λ (xs : List ℕ). count_by is_line_feed xs < most_lines) (sym all) (omega arith);
    }

-- the empty lines in front go before or after more comes
pub behind_more : (xs more : List ℕ) → behind (behind xs ++ more) ≡ behind (xs ++ more)
behind_more [] more = refl
behind_more (a ∷ []) more = one (a == 10) refl more
  where
    one : (t : Bool) → t ≡ (a == 10) → (more : List ℕ) → behind (cond t [] (a ∷ []) ++ more) ≡ behind (a ∷ more)
    one false e more = refl
    one true e [] = ap (λ t. cond t [] (a ∷ [])) e
    one true e (m ∷ more) = ap (λ t. cond t (behind (m ∷ more)) (cond (a == 13 && m == 10) (behind more) (a ∷ m ∷ more))) e
behind_more (a ∷ b ∷ xs) more = by (behind_more (b ∷ xs) more) (behind_more xs more) (a == 10) (a == 13 && b == 10) refl refl
  where
    by : behind (behind (b ∷ xs) ++ more) ≡ behind ((b ∷ xs) ++ more) → behind (behind xs ++ more) ≡ behind (xs ++ more) → (t u : Bool) → t ≡ (a == 10) → u ≡ (a == 13 && b == 10)
        → behind (cond t (behind (b ∷ xs)) (cond u (behind xs) (a ∷ b ∷ xs)) ++ more) ≡ cond (a == 10) (behind (b ∷ (xs ++ more))) (cond (a == 13 && b == 10) (behind (xs ++ more)) (a ∷ b ∷ (xs ++ more)))
    by one two true u e f = one ∙ ap (λ t. cond t (behind (b ∷ (xs ++ more))) (cond (a == 13 && b == 10) (behind (xs ++ more)) (a ∷ b ∷ (xs ++ more)))) e
    by one two false true e f = two ∙ ap (λ u. cond u (behind (xs ++ more)) (a ∷ b ∷ (xs ++ more))) f ∙ ap (λ t. cond t (behind (b ∷ (xs ++ more))) (cond (a == 13 && b == 10) (behind (xs ++ more)) (a ∷ b ∷ (xs ++ more)))) e
    by one two false false e f = refl
