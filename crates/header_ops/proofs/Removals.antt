-- A block that goes, in a pass over a list.
use Rattle.std.proofs.Common.{◌≡◌, ℕ, zero, suc, ◌+◌, ◌<◌, ◌≤◌, List, [], ◌∷◌, ◌++◌, Bool, false, cond, not, length, take, drop, filter, refl, ap, sym, arith}
use Rattle.std.proofs.lemmas.List.Filters.{length-filter_both}
use Rattle.std.proofs.lemmas.List.Sums.{length-filter}
use Rattle.std.specs.Prelude.{remove, count_by}
use Rattle.http_model.specs.Block.{Block}
use Rattle.http_model.specs.Blocks.{block_at}

-- a block that doesn't pass goes, and the pass goes on at its place
pub removed : (p : Block → Bool) (bs : List Block) (i : ℕ) → i < length bs → p (block_at bs i) ≡ false
    → take i (remove bs i) ++ filter p (drop i (remove bs i)) ≡ take i bs ++ filter p (drop i bs)
removed p [] i h f = absurd (omega arith)
removed p (b ∷ bs) zero h f = sym (ap (λ (t : Bool). cond t (b ∷ filter p bs) (filter p bs)) f)
removed p (b ∷ bs) (suc i) h f = ap (λ (t : List Block). b ∷ t) (removed p bs i (omega arith) f)

-- its place is still within the list, or at its end
pub removed_within : (bs : List Block) (i : ℕ) → i < length bs → i ≤ length (remove bs i)
removed_within [] i h = absurd (omega arith)
removed_within (b ∷ bs) zero h = omega arith
removed_within (b ∷ bs) (suc i) h = omega (arith, removed_within bs i (omega arith))

-- those that go and those that stay are all
pub gone_and_kept : (p : Block → Bool) (bs : List Block) → count_by p bs + length (filter (λ b. not (p b)) bs) ≡ length bs
gone_and_kept p bs = omega (arith, length-filter_both p (λ b. not (p b)) (λ b. refl) bs, length-filter p bs)
