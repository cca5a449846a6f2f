use Rattle.std.proofs.Common.{◌≡◌, ◌-◌, ◌∙◌, ap, sym, arith, suc, ℕ, length}
use Rattle.htx_model.specs.Block.{kind_of}
use Rattle.htx_model.specs.Blocks.{block_at}
use Rattle.htx_model.proofs.PublicLaws.{overhead-other, overhead-none}
use Rattle.htx_arena.proofs.DataLemmas.{not_true, not_false}
use Rattle.htx_arena.proofs.arena.Arena.ends_in_data.Goals as goal

pub returns-then-count-eq0 : goal.returns-then-count-eq0
returns-then-count-eq0 c =
    let count = c.len-count.ensures in
    let none = c.if-count-eq0.true in
    record { any = λ h. absurd (not_true h); «data» = λ h. absurd (not_true h); other = λ h. overhead-none c.args.self.now.blocks (omega arith) }

pub returns-in-Data : goal.returns-in-Data
returns-in-Data c =
    let now = c.args.self.now in
    let count = c.len-count.ensures in
    let some = c.if-count-eq0.false in
    let last : length now.blocks - 1 ≡ c.len-count.result - 1 = omega arith in
    record { any = λ h. omega arith; «data» = λ h. ap (λ (i : ℕ). kind_of (block_at now.blocks i)) last ∙ sym c.kind.ensures ∙ c.in-Data.is; other = λ h. absurd (not_false h) }

pub returns-in_default : goal.returns-in_default
returns-in_default c =
    let now = c.args.self.now in
    let count = c.len-count.ensures in
    let some = c.if-count-eq0.false in
    let last : length now.blocks ≡ suc (c.len-count.result - 1) = omega arith in
    record { any = λ h. absurd (not_true h); «data» = λ h. absurd (not_true h); other = λ h. overhead-other now.blocks (c.len-count.result - 1) last (λ e. c.in_default.not-Data (c.kind.ensures ∙ e)) }
