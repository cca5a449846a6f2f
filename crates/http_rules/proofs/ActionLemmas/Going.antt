-- Fields that go by their names, in a pass over the blocks.
use Rattle.std.proofs.Common.{◌≡◌, ℕ, zero, suc, ◌<◌, ◌≤◌, List, [], ◌∷◌, ◌++◌, Bool, true, false, cond, not, filter, refl, sym, ap, ◌∙◌, subst, length, take, drop, arith}
use Rattle.std.specs.Prelude.{remove}
use Rattle.http_model.specs.Block.{Block}
use Rattle.http_model.specs.Blocks.{load, block_at}
use Rattle.http_model.specs.Head.{StartLine, RequestLine as Asked, StatusLine, line_block, front_blocks}
use Rattle.px_sample.specs.Variables.{Variables}
use Rattle.http_rules.specs.declared.rule.action.DelBy.{DelBy}
use Rattle.http_rules.specs.declared.action.side.Side.{Side}
use Rattle.http_rules.specs.declared.action.stepped.Stepped.TheVariants.{Done}
use Rattle.http_rules.specs.Action.Given.{Env}
use Rattle.http_rules.specs.Action.Steps.{goes, without_meant, del_step}
use Rattle.http_rules.specs.Action.Going.{is_going, without_going}
use Rattle.http_rules.specs.Action.Outcome.{IsAt, Came}
use Rattle.http_rules.proofs.ActionLemmas.Fronts.{front_filtered}
use Rattle.http_rules.proofs.ActionLemmas.Came.{went}

-- a block that goes, and the pass goes on at its place
pub gone : (p : Block → Bool) (bs : List Block) (i : ℕ) → i < length bs → p (block_at bs i) ≡ false
    → take i (remove bs i) ++ filter p (drop i (remove bs i)) ≡ take i bs ++ filter p (drop i bs)
gone p [] i h f = absurd (omega arith)
gone p (b ∷ bs) zero h f = sym (ap (λ (t : Bool). cond t (b ∷ filter p bs) (filter p bs)) f)
gone p (b ∷ bs) (suc i) h f = ap (λ (t : List Block). b ∷ t) (gone p bs i (omega arith) f)

pub gone_within : (bs : List Block) (i : ℕ) → i < length bs → i ≤ length (remove bs i)
gone_within [] i h = absurd (omega arith)
gone_within (b ∷ bs) zero h = omega arith
gone_within (b ∷ bs) (suc i) h = omega (arith, gone_within bs i (omega arith))

-- fields that went
pub taken_out : (side : Side) (env : Env) (vars : Variables) (by : DelBy) (size : ℕ) (old new : List Block) → IsAt side env old vars → new ≡ without_going by old → load new ≤ size
    → Came side env (del_step size by env) Done new vars
taken_out side env vars by size old new at is fits =
    let made : new ≡ front_blocks (without_meant by env.head) env.body =
    is ∙ ap (without_going by) at.blocks_are
    ∙ front_filtered (λ b. not (is_going by b)) (λ f. not (goes by f)) (λ f. refl) line_stays refl (λ bytes. refl) env.head env.body
    in
    went side env vars (without_meant by env.head) size old new at made (subst (λ (bs : List Block). load bs ≤ size) made fits)
  where
    line_stays : (line : StartLine) → not (is_going by (line_block line)) ≡ true
    line_stays (Asked a b c) = refl
    line_stays (StatusLine a b c) = refl
