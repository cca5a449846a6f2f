use Rattle.std.proofs.Common.{◌++◌, ◌∙◌, ap, arith, List, ℕ, []}
use Rattle.std.proofs.lemmas.List.{append-nil}
use Rattle.htx_model.specs.Block.{block}
use Rattle.htx_arena.proofs.LayoutLemmas.ReplaceLemmas.{field_len}
use Rattle.htx_arena.proofs.LayoutLemmas.CodeLemmas.{IsMade, field_made}
use Rattle.htx_arena.proofs.layout.new_block.NewBlock.field.Goals as goal

pub invariant_of-result : goal.invariant_of-result
invariant_of-result c =
    let n = c.args.name.now in
    let v = c.args.value.now in
    let m : IsMade (block c.args.kind n v []) c.field-info.result.0 c.new-payload.result = field_made c.args.kind n v c.field-info.result.0 c.new-payload.result c.requires.kind c.requires.named c.requires.short c.requires.small c.field-info.ensures (c.new-payload.ensures ∙ ap (λ (x : List ℕ). n ++ x) (append-nil v)) in
    let long = m.long in
    record { tells = m.tells; some = let named = c.requires.named in let all = field_len c.args.kind n v c.requires.kind in omega arith }

pub returns : goal.returns
returns c =
    let n = c.args.name.now in
    let v = c.args.value.now in
    let m : IsMade (block c.args.kind n v []) c.field-info.result.0 c.new-payload.result = field_made c.args.kind n v c.field-info.result.0 c.new-payload.result c.requires.kind c.requires.named c.requires.short c.requires.small c.field-info.ensures (c.new-payload.ensures ∙ ap (λ (x : List ℕ). n ++ x) (append-nil v)) in
    m.is
