-- Texts and names of pairs.
use Rattle.std.proofs.Common.{◌≡◌, ℕ, zero, suc, ◌+◌, ◌<◌, Bool, true, false, ◌&&◌, List, [], ◌∷◌, map, drop, length, refl, ap, arith}
use Rattle.std.specs.Char.{to_ascii_lowercase}
use Rattle.std.specs.Str.{bytes_eq}
use Rattle.http_rules.specs.declared.rule.rule.Rule.{Rule}
use Rattle.cfg_print.specs.Pairs.{are_pairs, plain_count}

-- a test that fails where its last part does
last_fails : (a b : Bool) → b ≡ false → (a && b) ≡ false
last_fails true b fails = fails
last_fails false b fails = refl

-- texts that are not as long are not the same
pub uneven : (text name : List ℕ) → (length text ≡ length name → ⊥) → bytes_eq text (map to_ascii_lowercase name) ≡ false
uneven [] [] differ = absurd (differ refl)
uneven [] (y ∷ ys) differ = refl
uneven (x ∷ xs) [] differ = refl
uneven (x ∷ xs) (y ∷ ys) differ = last_fails _ _ (uneven xs ys (λ same. differ (ap (λ n. suc n) same)))

-- one more rule that stands in front of those of pairs
pub plain_more : (names : List (List ℕ)) (rules : List Rule) (at : ℕ) → at < length rules → are_pairs names (drop at rules) ≡ false
    → at + plain_count names (drop at rules) ≡ (at + 1) + plain_count names (drop (at + 1) rules)
unfolding plain_count
plain_more names [] at inside none = absurd (omega arith)
plain_more names (rule ∷ rules) zero inside none = rw none (omega arith)
plain_more names (rule ∷ rules) (suc at) inside none =
    let more : suc at + 1 ≡ suc (at + 1) = omega arith in
    let others : at + plain_count names (drop at rules) ≡ (at + 1) + plain_count names (drop (at + 1) rules) = plain_more names rules at (omega arith) none in
    rw more (omega (arith, others))

-- no rule stands in front of those of pairs
pub plain_found : (names : List (List ℕ)) (rules : List Rule) → 0 < length rules → are_pairs names rules ≡ true → plain_count names rules ≡ 0
unfolding plain_count
plain_found names [] some are = absurd (omega arith)
plain_found names (rule ∷ rules) some are = rw are refl
