use Rattle.std.proofs.Common.{ap, arith, refl, length}
use Rattle.htx_model.specs.Blocks.{block_at}
use Rattle.htx_arena.proofs.LayoutLemmas.ReplaceLemmas.{field_long, with_value_long}
use Rattle.htx_arena.proofs.ChangeLemmas.{set-fits}
use Rattle.htx_arena.proofs.DataLemmas.{not_true}
use Rattle.htx_arena.proofs.arena.Arena.replace_value.Goals as goal

pub returns-then-value-free-clause-fits : goal.returns-then-value-free-clause-fits
returns-then-value-free-clause-fits c =
    let s = c.args.self.now in
    let b = block_at s.blocks c.args.at in
    let q = set-fits s.size s.blocks c.args.at c.free.result _ _ c.requires.within c.free.ensures.room (with_value_long b c.args.value.now c.requires.field) in
    let long = field_long b c.requires.field in
    let old = ap length c.value.ensures in
    let over = c.if-value-free.true in
    (λ h. absurd (not_true h), λ fits. let all = q.0 fits in absurd (omega arith))

pub set_value-requires : goal.set_value-requires
set_value-requires c =
    let old = ap length c.value.ensures in
    let room = c.free.ensures.room in
    let under = c.if-value-free.false in
    record { within = c.requires.within; field = c.requires.field; fits = omega arith }

pub returns-clause-fits : goal.returns-clause-fits
returns-clause-fits c =
    let s = c.args.self.now in
    let b = block_at s.blocks c.args.at in
    let q = set-fits s.size s.blocks c.args.at c.free.result _ _ c.requires.within c.free.ensures.room (with_value_long b c.args.value.now c.requires.field) in
    let long = field_long b c.requires.field in
    let old = ap length c.value.ensures in
    let under = c.if-value-free.false in
    (λ h. q.1 (omega arith), λ h. refl)
