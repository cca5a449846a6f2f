use Rattle.std.proofs.Common.{◌≡◌, ◌+◌, ◌-◌, arith, ◌∙◌, sym}
use Rattle.px_sample.specs.Slot.{len_of}
use Rattle.px_sample.proofs.SlotLemmas.{total_more}
use Rattle.px_sample.proofs.FoundLemmas.{found_here, lookup_more}
use Rattle.px_sample.proofs.shelf.find.Goals as goal

pub returns-then-eq-clause-found : goal.returns-then-eq-clause-found
returns-then-eq-clause-found c =
    let len : c.loop-index.at + c.index-slots-index.result.name - c.loop-index.at ≡ c.index-slots-index.result.name = omega arith in
    found_here _ _ _ _ _ _ c.loop-index-test.true c.index-slots-index.is c.loop-index.invariant.starts c.loop-index.invariant.rest (rw len at (sym c.eq.ensures ∙ c.if-eq.true))

pub loop-index-preserved : goal.loop-index-preserved
loop-index-preserved c =
    let len : c.loop-index.at + c.index-slots-index.result.name - c.loop-index.at ≡ c.index-slots-index.result.name = omega arith in
    let sum : (c.loop-index.at + c.index-slots-index.result.name) + c.index-slots-index.result.value ≡ c.loop-index.at + len_of c.index-slots-index.result = omega arith in
    record {
      starts = sum ∙ total_more _ _ _ _ c.loop-index-test.true c.index-slots-index.is c.loop-index.invariant.starts;
      rest = rw sum (lookup_more _ _ _ _ _ _ c.loop-index-test.true c.index-slots-index.is c.loop-index.invariant.starts c.loop-index.invariant.rest (rw len at (sym c.eq.ensures ∙ c.if-eq.false)));
    }
