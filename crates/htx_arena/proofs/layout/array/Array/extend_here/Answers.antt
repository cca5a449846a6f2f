use Rattle.std.proofs.Common.{ℕ, ap, subst, arith, refl, length}
use Rattle.std.specs.Prelude.{IfSome}
use Rattle.htx_arena.specs.declared.space.space.Desc.{Desc}
use Rattle.htx_arena.specs.Layout.Sound.{StaysLow}
use Rattle.htx_arena.proofs.LayoutLemmas.WholeLemmas.{at}
use Rattle.htx_arena.proofs.LayoutLemmas.PlaceLemmas.{may_extend, extended}
use Rattle.htx_arena.proofs.layout.array.Array.extend_here.Goals as goal

pub rewrite-requires : goal.rewrite-requires
rewrite-requires c =
    let g = may_extend c.self.inside c.args.self.now c.args.at c.args.info.0 (length c.args.piece.now) c.args.front c.self.invariant c.self.view_is c.requires.within c.requires.len c.requires.stays in
    let len = (at c.self.inside c.args.self.now c.args.at c.self.invariant c.self.view_is c.requires.within).len in
    let keep = c.payload_len-keep.ensures.len in
    let sum = c.requires.len in
    let long = ap length c.one-more.ensures in
    record { can = g.can; part = omega arith; len = omega arith }

pub ends_with-self-inside-requires : goal.ends_with-self-inside-requires
ends_with-self-inside-requires c =
    let g = may_extend c.self.inside c.args.self.now c.args.at c.args.info.0 (length c.args.piece.now) c.args.front c.self.invariant c.self.view_is c.requires.within c.requires.len c.requires.stays in
    let room = g.can.room in
    let most = c.self.invariant.laid.most in
    let addr = ap (λ (d : Desc). d.addr) c.descriptor-own.ensures in
    let told = c.payload_len.ensures in
    omega arith

pub invariant_of-self : goal.invariant_of-self
invariant_of-self c =
    let a = c.self.inside in
    let addr = ap (λ (d : Desc). d.addr) c.descriptor-own.ensures in
    let told = c.payload_len.ensures in
    let e = c.ends_with-self-inside.ensures in
    let top = e.top in
    (extended a c.args.self.now c.args.at c.args.info.0 c.args.front c.payload_len-keep.result c.one-more.result c.args.piece.now c.rewrite.new.space c.self.invariant c.self.view_is c.requires.within c.requires.len c.requires.stays c.requires.tells c.requires.fits c.payload_len-keep.ensures.len c.one-more.ensures c.rewrite.ensures).whole _ c.ends_with-self-inside.result refl e.front (omega arith) (subst (λ (x : ℕ). IfSome c.ends_with-self-inside.result.low (StaysLow a.ends (record { addr = x; front = c.args.front }))) addr e.low)

pub returns : goal.returns
returns c =
    let e = extended c.self.inside c.args.self.now c.args.at c.args.info.0 c.args.front c.payload_len-keep.result c.one-more.result c.args.piece.now c.rewrite.new.space c.self.invariant c.self.view_is c.requires.within c.requires.len c.requires.stays c.requires.tells c.requires.fits c.payload_len-keep.ensures.len c.one-more.ensures c.rewrite.ensures in
    record { blocks = e.blocks; size = e.size; addrs = e.addrs; front = c.ends_with-self-inside.ensures.front }
