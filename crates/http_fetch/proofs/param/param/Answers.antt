use Rattle.std.proofs.Common.{rules, ◌≡◌, ◌<◌, ◌∙◌, ℕ, List, None, ap, sym, arith, drop, take, length}
use Rattle.std.proofs.lemmas.List.{take_rest, drop-drop}
use Rattle.http_fetch.specs.Param.{param, value_of_param}
use Rattle.http_fetch.proofs.Params.{found_here, found_behind, found_nowhere}
use Rattle.http_fetch.proofs.param.param.Goals as goal

pub returns-in-Some : goal.returns-in-Some
returns-in-Some c =
    sym (found_here c.args.name.now c.parts.rest.now c.part_len-len.result c.in-Some.value.now c.part_len-len.ensures.count (sym c.in-Some.ensures)) ∙ c.parts.invariant

pub returns-then-len-rest : goal.returns-then-len-rest
returns-then-len-rest c =
    let none : value_of_param c.args.name.now (take c.part_len-len.result c.parts.rest.now) ≡ None = search rules in
    sym (found_nowhere c.args.name.now c.parts.rest.now c.part_len-len.result c.part_len-len.ensures.count c.if-len-rest.true none) ∙ c.parts.invariant

pub parts-preserved : goal.parts-preserved
parts-preserved c =
    let rest : List ℕ = c.parts.rest.now in
    let len : ℕ = c.part_len-len.result in
    let none : value_of_param c.args.name.now (take len rest) ≡ None = search rules in
    let less : len < length rest = omega (arith, c.part_len-len.ensures.within, c.if-len-rest.false) in
    ap (param c.args.name.now) (take_rest c.split_at.result.1.now 1 ∙ ap (drop 1) c.split_at.ensures.back ∙ drop-drop 1 len rest)
    ∙ sym (found_behind c.args.name.now rest len c.part_len-len.ensures.count less none) ∙ c.parts.invariant
