use Rattle.std.proofs.Common.{◌∙◌, ap, arith}
use Rattle.htx_model.specs.Blocks.{load}
use Rattle.htx_model.proofs.PublicLaws.{load-remove}
use Rattle.htx_arena.specs.Layout.Raw.{block_in, blocks_of}
use Rattle.htx_arena.proofs.LayoutLemmas.RawLemmas.{length-listed}
use Rattle.htx_arena.proofs.LayoutLemmas.TellLemmas.{len_told}
use Rattle.htx_arena.proofs.LayoutLemmas.TopLemmas.{top_gone}
use Rattle.htx_arena.proofs.LayoutLemmas.KnownLemmas.{known_gone}
use Rattle.htx_arena.proofs.LayoutLemmas.WholeLemmas.{at}
use Rattle.htx_arena.proofs.layout.array.Array.unlist.Goals as goal

pub overflow_sub-self-2 : goal.overflow_sub-self-2
overflow_sub-self-2 c =
    let weighs = (at c.self.inside c.args.self.now c.args.at c.self.invariant c.self.view_is c.requires).weighs in
    let len = c.payload_len-len.ensures.len in
    omega arith

pub invariant_of-self : goal.invariant_of-self
invariant_of-self c =
    let a = c.self.inside in
    let i = c.args.at in
    let t = at c.self.inside c.args.self.now c.args.at c.self.invariant c.self.view_is c.requires in
    let small = t.small in
    let is = c.payload_len-len.ensures.len in
    let len = t.len in
    let count = length-listed (block_in a.space) a.count in
    let less = load-remove (blocks_of a.space a.count) i (omega arith) in
    let old = len_told a.space a.count i c.self.invariant.laid.told small in
    let loaded = c.self.invariant.loaded in
    let now = ap load c.unlist.ensures.blocks in
    let size = c.unlist.ensures.size in
    let fits = c.self.invariant.fits in
    let e = c.ends_behind-self-inside.ensures in
    record { laid = e.laid; loaded = omega arith; topped = e.topped; known = e.known; fits = omega arith }

pub ends_behind-self-inside-requires : goal.ends_behind-self-inside-requires
ends_behind-self-inside-requires c =
    let a = c.self.inside in
    let t = at c.self.inside c.args.self.now c.args.at c.self.invariant c.self.view_is c.requires in
    let laid = c.unlist.ensures.laid a.ends.front c.self.invariant.laid in
    let end = c.end_at-end.ensures.value in
    let told = (c.self.invariant.laid.told.told c.args.at t.small).len in
    record {
      laid = laid;
      stayed = λ below. top_gone a.space c.unlist.new.space a.count c.args.at a.ends.top a.ends.front c.self.invariant.laid.told c.self.invariant.topped t.small c.unlist.ensures.blocks c.unlist.ensures.addrs laid (omega arith);
      known = known_gone a.space c.unlist.new.space a.count a.ends.front c.addr-addr.result c.args.at a.ends.low c.low_without-self-inside.result c.self.invariant.known t.small (c.addr-addr.ensures ∙ t.addr) c.unlist.ensures.addrs c.low_without-self-inside.ensures.kept c.low_without-self-inside.ensures.below;
    }
