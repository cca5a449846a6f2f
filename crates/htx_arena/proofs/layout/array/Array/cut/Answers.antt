use Rattle.std.proofs.Common.{◌-◌, ◌∙◌, ap, arith, set}
use Rattle.htx_model.specs.Block.{payload_len}
use Rattle.htx_model.specs.Blocks.{block_at}
use Rattle.htx_model.proofs.PublicLaws.{data_is}
use Rattle.htx_arena.specs.Layout.Contents.{Contents}
use Rattle.htx_arena.proofs.LayoutLemmas.ReplaceLemmas.{data_code}
use Rattle.htx_arena.proofs.LayoutLemmas.WholeLemmas.{at}
use Rattle.htx_arena.proofs.LayoutLemmas.PlaceLemmas.{trimmed, cut_of}
use Rattle.htx_arena.proofs.layout.array.Array.cut.Goals as goal

pub overflow_sub-info : goal.overflow_sub-info
overflow_sub-info c =
    let code = data_code (block_at c.args.self.now.blocks c.args.at) c.info-info.result.0 c.info-info.ensures.is c.requires.kind in
    let part = c.requires.part in
    omega arith

pub trim-requires : goal.trim-requires
trim-requires c =
    let a = c.self.inside in
    let t = at a c.args.self.now c.args.at c.self.invariant c.self.view_is c.requires.within in
    let m = cut_of a c.args.self.now c.args.at c.args.n c.info-info.result.0 c.self.invariant c.self.view_is c.requires.within c.info-info.ensures.is c.requires.kind c.requires.part in
    let laid = c.self.invariant.laid in
    let len = t.len in
    let sum = m.sum in
    record { sound = laid.sound; small = laid.most; within = t.small; part = omega arith; len = omega arith }

pub overflow_sub-self : goal.overflow_sub-self
overflow_sub-self c =
    let t = at c.self.inside c.args.self.now c.args.at c.self.invariant c.self.view_is c.requires.within in
    let weighs = t.weighs in
    let long = ap payload_len (data_is (block_at c.args.self.now.blocks c.args.at) c.requires.kind) in
    let part = c.requires.part in
    omega arith

pub invariant_of-self : goal.invariant_of-self
invariant_of-self c =
    let a = c.self.inside in
    let s = c.args.self.now in
    let m = cut_of a s c.args.at c.args.n c.info-info.result.0 c.self.invariant c.self.view_is c.requires.within c.info-info.ensures.is c.requires.kind c.requires.part in
    let t = at a s c.args.at c.self.invariant c.self.view_is c.requires.within in
    let weighs = t.weighs in
    let sum = m.sum in
    (trimmed a s c.args.at c.args.n (c.info-info.result.0 - c.args.n) c.trim.new.space c.self.invariant c.self.view_is c.requires.within m.some m.sum m.made.tells c.trim.ensures).whole _ (omega arith)

pub returns : goal.returns
returns c =
    let a = c.self.inside in
    let s = c.args.self.now in
    let m = cut_of a s c.args.at c.args.n c.info-info.result.0 c.self.invariant c.self.view_is c.requires.within c.info-info.ensures.is c.requires.kind c.requires.part in
    let r = trimmed a s c.args.at c.args.n (c.info-info.result.0 - c.args.n) c.trim.new.space c.self.invariant c.self.view_is c.requires.within m.some m.sum m.made.tells c.trim.ensures in
    record { blocks = r.blocks ∙ ap (set s.blocks c.args.at) m.made.is; size = r.size; addrs = r.addrs; front = ap (λ (x : Contents). x.front) c.self.view_is }
