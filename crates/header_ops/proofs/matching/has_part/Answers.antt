use Rattle.std.proofs.Common.{◌≡◌, ◌-◌, ℕ, List, false, length, take, drop, ap, sym, ◌∙◌, arith}
use Rattle.std.proofs.lemmas.List.{length-drop, take_all}
use Rattle.header_ops.specs.Matching.{begins_with}
use Rattle.header_ops.proofs.Parts.{past}
use Rattle.header_ops.proofs.matching.has_part.Goals as goal

pub loop-at-preserved : goal.loop-at-preserved
loop-at-preserved c =
    let at : ℕ = c.loop-at.at in
    let name : List ℕ = c.args.name.now in
    let whole : take (length name - at) (drop at name) ≡ drop at name = take_all (length name - at) (drop at name) (omega (arith, length-drop at name)) in
    let here : begins_with (drop at name) c.args.part.now ≡ false =
    ap (λ (xs : List ℕ). begins_with xs c.args.part.now) (sym whole) ∙ sym c.begins_with.ensures ∙ c.if-begins_with.false
    in
    past name c.args.part.now at (omega arith) here ∙ c.loop-at.invariant
