use Rattle.std.proofs.Common.{◌≡◌, ◌+◌, subst, sym, ap, ℕ, arith, ◌∙◌}
use Rattle.htx_arena.specs.declared.space.space.Desc.{Desc}
use Rattle.htx_arena.specs.Space.Windows.{desc_at}
use Rattle.htx_arena.specs.Layout.Raw.{info_len, len_in}
use Rattle.htx_arena.specs.Layout.Sound.{end_of}
use Rattle.htx_arena.proofs.LayoutLemmas.PackLemmas.{Packing, packing_begins, next_can_move, packing_goes_on, packing_shifts, packing_ends, packing_up_to, packing_total, packing_top}
use Rattle.htx_arena.proofs.layout.pack.defrag.Goals as goal

pub loop-index-init : goal.loop-index-init
loop-index-init c = packing_begins c.args.space.now c.args.count c.requires.sound

pub pull-requires : goal.pull-requires
pull-requires c = next_can_move c.args.space.now c.loop-index.space c.args.count c.loop-index.from c.loop-index.to c.in-Some.index c.loop-index.invariant c.requires.sound c.requires.filled c.in-Some.ensures

pub loop-index-preserved : goal.loop-index-preserved
loop-index-preserved c =
    let raw = c.args.space.now in
    let cur = c.loop-index.space in
    let n = c.args.count in
    let i = c.in-Some.index in
    let to = c.loop-index.to in
    let on = packing_goes_on raw cur c.pull.new.space n c.loop-index.from to i c.loop-index.invariant c.requires.sound c.requires.filled c.requires.told c.in-Some.ensures c.pull.ensures in
    let len : c.payload_len-len.result ≡ len_in cur i = c.payload_len-len.ensures ∙ ap (λ (d : Desc). info_len d.info) c.descriptor-desc.ensures in
    let end : c.descriptor-desc.result.addr + c.payload_len-len.result ≡ end_of (desc_at cur i) = let addr = ap (λ (d : Desc). d.addr) c.descriptor-desc.ensures in omega arith in
    subst (λ (e : ℕ). Packing raw c.pull.new.space n e (to + c.payload_len-len.result)) (sym end) (subst (λ (l : ℕ). Packing raw c.pull.new.space n (end_of (desc_at cur i)) (to + l)) (sym len) on)

pub returns-clause-shifted : goal.returns-clause-shifted
returns-clause-shifted c = packing_shifts c.args.space.now c.loop-index.space c.args.count c.loop-index.from c.loop-index.to c.loop-index.invariant

pub returns-clause-addrs : goal.returns-clause-addrs
returns-clause-addrs c = packing_ends c.args.space.now c.loop-index.space c.args.count c.loop-index.from c.loop-index.to c.loop-index.invariant c.requires.filled c.in_default.ensures

pub returns-clause-total : goal.returns-clause-total
returns-clause-total c = packing_total c.args.space.now c.loop-index.space c.args.count c.loop-index.from c.loop-index.to c.loop-index.invariant c.in_default.ensures

pub returns-clause-up_to : goal.returns-clause-up_to
returns-clause-up_to c = packing_up_to c.args.space.now c.loop-index.space c.args.count c.loop-index.from c.loop-index.to c.loop-index.invariant c.in_default.ensures

pub returns-clause-topped : goal.returns-clause-topped
returns-clause-topped c = packing_top c.args.space.now c.loop-index.space c.args.count c.loop-index.from c.loop-index.to c.loop-index.invariant c.requires.told c.in_default.ensures
