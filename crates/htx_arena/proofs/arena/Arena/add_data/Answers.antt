use Rattle.std.proofs.Common.{◌≡◌, ◌-◌, ◌∙◌, ap, sym, arith, ℕ, length}
use Rattle.htx_model.specs.Block.{kind_of}
use Rattle.htx_model.specs.Blocks.{block_at}
use Rattle.htx_arena.proofs.arena.Arena.add_data.Goals as goal

pub add_behind-requires : goal.add_behind-requires
add_behind-requires c =
    let now = c.args.self.now in
    let any = c.ends_in_data.ensures.any c.if-ends_in_data.true in
    let len = c.len.ensures in
    let at_is : length now.blocks - 1 ≡ c.len.result - 1 = omega arith in
    record { last = omega arith; «data» = sym (ap (λ (i : ℕ). kind_of (block_at now.blocks i)) at_is) ∙ c.ends_in_data.ensures.«data» c.if-ends_in_data.true }
