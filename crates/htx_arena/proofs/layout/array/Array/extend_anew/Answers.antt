use Rattle.std.proofs.Common.{◌++◌, ◌∙◌, ap, sym, arith, set}
use Rattle.htx_arena.specs.declared.space.space.Desc.{Desc}
use Rattle.htx_arena.specs.Layout.Raw.{block_of, info_len}
use Rattle.htx_arena.specs.Layout.Longer.{longer_bytes}
use Rattle.htx_arena.specs.declared.layout.longer.Longer.{Longer}
use Rattle.htx_arena.specs.Layout.Contents.{Contents}
use Rattle.htx_arena.specs.Layout.Addresses.{placed_anew}
use Rattle.htx_arena.proofs.LayoutLemmas.WholeLemmas.{numbers, at, whole_set}
use Rattle.htx_arena.proofs.LayoutLemmas.PlaceLemmas.{anew}
use Rattle.htx_arena.proofs.layout.array.Array.extend_anew.Goals as goal

pub overflow_sub-added : goal.overflow_sub-added
overflow_sub-added c =
    let is = c.payload_len-2.ensures.len in
    let all = c.payload_len.ensures in
    let longer = c.requires.longer in
    let sum = c.requires.len in
    omega arith

pub extend-self-inside-requires : goal.extend-self-inside-requires
extend-self-inside-requires c =
    let l : Longer = record { from = c.descriptor-from.result.addr; kept = c.args.kept; info = c.args.info; more = c.args.more } in
    let q = anew c.self.inside c.args.self.now c.args.at l c.self.invariant c.self.view_is c.requires.within (ap (λ (d : Desc). d.addr) c.descriptor-from.ensures) c.requires.some c.requires.part c.requires.kept_tells c.requires.len c.requires.tells c.requires.fits in
    record {
      laid = c.self.invariant.laid;
      topped = c.self.invariant.topped;
      known = c.self.invariant.known;
      within = (at c.self.inside c.args.self.now c.args.at c.self.invariant c.self.view_is c.requires.within).small;
      longer = q.longer;
      own = ap (λ (d : Desc). d.addr) c.descriptor-from.ensures;
      part = q.part;
      fits = q.fits;
    }

pub invariant_of-self : goal.invariant_of-self
invariant_of-self c =
    let a = c.self.inside in
    let i = c.args.at in
    let info = c.args.info.0 in
    let num = numbers a c.args.self.now c.self.invariant c.self.view_is in
    let l : Longer = record { from = c.descriptor-from.result.addr; kept = c.args.kept; info = c.args.info; more = c.args.more } in
    let q = anew c.self.inside c.args.self.now c.args.at l c.self.invariant c.self.view_is c.requires.within (ap (λ (d : Desc). d.addr) c.descriptor-from.ensures) c.requires.some c.requires.part c.requires.kept_tells c.requires.len c.requires.tells c.requires.fits in
    let t = at a c.args.self.now i c.self.invariant c.self.view_is c.requires.within in
    let len = t.len in
    let is = c.payload_len-2.ensures.len in
    let all = c.payload_len.ensures in
    let longer = c.requires.longer in
    let e = c.extend-self-inside.ensures in
    let size = e.size in
    let fits = c.requires.fits in
    let whole_size = num.size in
    let loaded = num.loaded in
    whole_set a.space c.extend-self-inside.new.space a.count i a.load _ _ (info_len info) (block_of info (longer_bytes a.space l)) c.self.invariant.laid.told c.self.invariant.loaded t.small e.blocks q.longer.tells.len e.laid (omega arith) e.topped e.known (omega arith)

pub returns : goal.returns
returns c =
    let view = c.self.view_is in
    let i = c.args.at in
    let info = c.args.info.0 in
    let l : Longer = record { from = c.descriptor-from.result.addr; kept = c.args.kept; info = c.args.info; more = c.args.more } in
    let q = anew c.self.inside c.args.self.now c.args.at l c.self.invariant c.self.view_is c.requires.within (ap (λ (d : Desc). d.addr) c.descriptor-from.ensures) c.requires.some c.requires.part c.requires.kept_tells c.requires.len c.requires.tells c.requires.fits in
    let e = c.extend-self-inside.ensures in
    record {
      blocks = e.blocks ∙ (λ j. set ((ap (λ (s : Contents). s.blocks) view) j) i (block_of info (sym q.bytes j ++ c.args.more.now)));
      size = e.size ∙ ap (λ (s : Contents). s.size) view;
      addrs = e.addrs ∙ ap (λ (s : Contents). (placed_anew s i (info_len info)).addrs) view;
      front = e.front ∙ ap (λ (s : Contents). (placed_anew s i (info_len info)).front) view;
    }
