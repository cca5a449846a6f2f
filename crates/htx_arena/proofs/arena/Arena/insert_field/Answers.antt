use Rattle.std.proofs.Common.{◌∙◌, ap, arith, ℕ}
use Rattle.htx_model.specs.Block.{payload_len}
use Rattle.htx_arena.specs.Layout.Addresses.{inserted}
use Rattle.htx_arena.proofs.LayoutLemmas.ReplaceLemmas.{field_len}
use Rattle.htx_arena.proofs.arena.Arena.insert_field.Goals as goal

pub put-requires-clause-fits : goal.put-requires-clause-fits
put-requires-clause-fits c =
    let long = ap payload_len c.field.ensures ∙ field_len c.args.kind c.args.name.now c.args.value.now c.requires.kind in
    let room = c.free-room.ensures.room in
    let under = c.if-name-value.false in
    omega arith

pub returns-clause-addrs : goal.returns-clause-addrs
returns-clause-addrs c = c.put.ensures.addrs ∙ ap (λ (k : ℕ). (inserted c.args.self.now c.args.at k).addrs) (ap payload_len c.field.ensures ∙ field_len c.args.kind c.args.name.now c.args.value.now c.requires.kind)

pub returns-clause-front : goal.returns-clause-front
returns-clause-front c = c.put.ensures.front ∙ ap (λ (k : ℕ). (inserted c.args.self.now c.args.at k).front) (ap payload_len c.field.ensures ∙ field_len c.args.kind c.args.name.now c.args.value.now c.requires.kind)
