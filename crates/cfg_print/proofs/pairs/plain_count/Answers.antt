use Rattle.std.proofs.Common.{◌≡◌, ◌<◌, length, drop, sym, ◌∙◌, arith}
use Rattle.std.proofs.lemmas.List.{length-drop}
use Rattle.cfg_print.specs.Pairs as spec
use Rattle.cfg_print.proofs.PairLemmas.{plain_more, plain_found}
use Rattle.cfg_print.proofs.pairs.plain_count.Goals as goal

pub returns-then-are_pairs_at-clause-count : goal.returns-then-are_pairs_at-clause-count
returns-then-are_pairs_at-clause-count c =
    let some : 0 < length (drop c.loop-at.at c.args.rules.now) = simp length-drop (omega arith) in
    let none : spec.plain_count c.args.names.now (drop c.loop-at.at c.args.rules.now) ≡ 0 =
    plain_found c.args.names.now (drop c.loop-at.at c.args.rules.now) some (sym c.are_pairs_at.ensures ∙ c.if-are_pairs_at.true) in
    omega (arith, c.loop-at.invariant)

pub loop-at-preserved : goal.loop-at-preserved
loop-at-preserved c =
    sym (plain_more c.args.names.now c.args.rules.now c.loop-at.at (omega arith) (sym c.are_pairs_at.ensures ∙ c.if-are_pairs_at.false)) ∙ c.loop-at.invariant
