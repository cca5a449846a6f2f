use Rattle.std.proofs.Common.{rules, ◌≡◌, ◌+◌, ◌-◌, max, arith, ap, sym, ◌∙◌, Some}
use Rattle.htx_arena.specs.declared.space.space.Desc.{Desc}
use Rattle.htx_arena.proofs.LayoutLemmas.ScanLemmas.{top_from_all, top_step, low_from, low_skipped, low_taken, merged}
use Rattle.htx_arena.proofs.LayoutLemmas.TopLemmas.{is_top}
use Rattle.htx_arena.proofs.layout.scan.ends_of.Goals as goal
use Rattle.htx_arena.proofs.layout.scan.ends_of.Goals.{then-front-addr, else-front-addr}

pub loop-i-preserved : goal.loop-i-preserved
loop-i-preserved c =
    let raw = c.args.space.now in
    let n = c.args.count in
    let i = c.loop-i.i in
    let addr = ap (λ (d : Desc). d.addr) c.descriptor-addr.ensures in
    let most : c.max-top.result ≡ max c.loop-i.top c.end_at.result = search rules in
    let rest = low_from raw c.args.front (i + 1) (n - (i + 1)) in
    record {
      told = top_step raw n i c.loop-i.top c.max-top.result _ c.loop-i-test.true (most ∙ ap (max c.loop-i.top) c.end_at.ensures.value) c.loop-i.invariant.told;
      small = omega (arith, c.end_at.ensures.small);
      least = elim c.if-front-addr.branch [
        | then-front-addr w ↦ ap (λ r. merged r rest) (w.low-is ∙ ap Some w.lesser.ensures) ∙ sym (low_taken raw c.args.front n i c.descriptor-addr.result.addr c.loop-i.low (omega arith) (omega arith) addr) ∙ c.loop-i.invariant.least
        | else-front-addr w ↦ ap (λ r. merged r rest) w.low-is ∙ sym (low_skipped raw c.args.front n i c.loop-i.low (omega arith) (omega arith)) ∙ c.loop-i.invariant.least
      ];
    }

pub returns-clause-topped : goal.returns-clause-topped
returns-clause-topped c =
    let none = top_from_all c.args.space.now c.args.count c.loop-i.i (omega arith) in
    let all : c.loop-i.top ≡ max c.loop-i.top 0 = omega arith in
    is_top c.args.space.now c.args.count c.loop-i.top c.requires.laid.sound c.requires.laid.told (all ∙ sym (ap (max c.loop-i.top) none) ∙ c.loop-i.invariant.told)
