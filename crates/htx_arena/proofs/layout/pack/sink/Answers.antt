use Rattle.std.proofs.Common.{◌≡◌, ◌+◌, subst, sym, ◌∙◌, ℕ, List, arith}
use Rattle.htx_arena.specs.Layout.Moves.{sunk}
use Rattle.htx_arena.proofs.LayoutLemmas.SinkLemmas.{Sinking, turned, sinking_begins, sinking_goes_on, sinking_ends}
use Rattle.htx_arena.proofs.layout.pack.sink.Goals as goal

pub loop-i-init : goal.loop-i-init
loop-i-init c =
    let raw = c.args.space.now in
    let now : c.rotate.new.self ≡ turned raw c.args.index c.args.end = cc in
    subst (λ (s : List ℕ). Sinking raw s c.args.count c.args.index c.args.end 0) (sym now) (sinking_begins raw c.args.count c.args.index c.args.end c.requires)

pub loop-i-preserved : goal.loop-i-preserved
loop-i-preserved c =
    let raw = c.args.space.now in
    let cur = c.loop-i.space in
    let k = c.loop-i.i in
    let d = c.lowered-new.result in
    let small = c.loop-i-test.true in
    let room = c.requires.room in
    let old = c.descriptor-old.ensures ∙ c.loop-i.invariant.rest k (omega arith) small in
    let own = c.descriptor-own.ensures in
    let len = c.payload_len-len.ensures in
    let lowered = c.lowered-new.ensures in
    let is : d ≡ sunk raw c.args.index c.args.end k = cc in
    subst (λ (s : List ℕ). Sinking raw s c.args.count c.args.index c.args.end (k + 1)) (sym c.set_descriptor.ensures)
    (sinking_goes_on raw cur c.args.count c.args.index c.args.end k d c.loop-i.invariant (omega arith) small is (omega arith) (omega arith))

pub returns : goal.returns
returns c = sinking_ends c.args.space.now c.loop-i.space c.args.count c.args.index c.args.end c.loop-i.i c.requires c.loop-i.invariant (omega arith)
