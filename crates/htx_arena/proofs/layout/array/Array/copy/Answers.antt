use Rattle.std.proofs.Common.{◌∙◌, sym, arith}
use Rattle.htx_model.specs.Blocks.{block_at}
use Rattle.htx_arena.proofs.LayoutLemmas.CodeLemmas.{described}
use Rattle.htx_arena.proofs.LayoutLemmas.WholeLemmas.{numbers, at}
use Rattle.htx_arena.proofs.layout.array.Array.copy.Goals as goal

pub copied-requires : goal.copied-requires
copied-requires c =
    let t = at c.self.inside c.args.self.now c.args.at c.self.invariant c.self.view_is c.requires in
    let num = numbers c.self.inside c.args.self.now c.self.invariant c.self.view_is in
    let m = described (block_at c.args.self.now.blocks c.args.at) c.info.result.0 c.payload.result.now c.info.ensures.is (c.payload.ensures ∙ sym t.bytes) in
    let long = m.long in
    let some = t.some in
    let weighs = t.weighs in
    let most = num.most in
    let fits = num.fits in
    record { tells = m.tells; some = omega arith; small = omega arith }

pub returns : goal.returns
returns c =
    let t = at c.self.inside c.args.self.now c.args.at c.self.invariant c.self.view_is c.requires in
    c.copied.ensures ∙ (described (block_at c.args.self.now.blocks c.args.at) c.info.result.0 c.payload.result.now c.info.ensures.is (c.payload.ensures ∙ sym t.bytes)).is
