-- A part somewhere in a name.
use Rattle.std.proofs.Common.{◌≡◌, ℕ, zero, suc, ◌+◌, ◌<◌, List, [], ◌∷◌, Bool, false, ◌||◌, length, drop, ap, sym, ◌∙◌, add-one, arith}
use Rattle.header_ops.specs.Matching.{begins_with, has_part}

past_one : (name part : List ℕ) (i : ℕ) → i < length name → begins_with (drop i name) part ≡ false → has_part (drop i name) part ≡ has_part (drop (suc i) name) part
past_one [] part i h f = absurd (omega arith)
past_one (b ∷ name) part zero h f = ap (λ (t : Bool). t || has_part name part) f
past_one (b ∷ name) part (suc i) h f = past_one name part i (omega arith) f

-- a name that doesn't begin with the part has it further on, or not at all
pub past : (name part : List ℕ) (i : ℕ) → i < length name → begins_with (drop i name) part ≡ false → has_part (drop (i + 1) name) part ≡ has_part (drop i name) part
past name part i h f = ap (λ (k : ℕ). has_part (drop k name) part) (add-one i) ∙ sym (past_one name part i h f)
