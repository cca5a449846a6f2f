use Rattle.std.proofs.Common.{arith, sym, ◌∙◌}
use Rattle.std.proofs.lemmas.Int.{to_z-of_z}
use Rattle.std.specs.List.{list_any}
use Rattle.acl_eval.specs.Matches.{number_matches}
use Rattle.acl_eval.proofs.Trying.{goes_on, decides, none_left}
use Rattle.acl_eval.proofs.matching.matches_a_number.Goals as goal

pub returns-then-matches_number : goal.returns-then-matches_number
returns-then-matches_number c =
    let number = c.ranges.number in
    let found = simp to_z-of_z at c.matches_number.ensures in
    let left = simp to_z-of_z at c.loop-at.invariant in
    decides (number_matches c.args.number) c.args.values.now c.loop-at.at c.get.result.now (list_any (number_matches c.args.number) c.args.values.now) c.get.ensures (sym c.if-matches_number.true ∙ found) left

pub loop-at-preserved : goal.loop-at-preserved
loop-at-preserved c =
    let number = c.ranges.number in
    let found = simp to_z-of_z at c.matches_number.ensures in
    let left = simp to_z-of_z at c.loop-at.invariant in
    simp to_z-of_z
    (goes_on (number_matches c.args.number) c.args.values.now c.loop-at.at c.get.result.now (list_any (number_matches c.args.number) c.args.values.now) c.get.ensures (sym c.if-matches_number.false ∙ found) left)

pub returns : goal.returns
returns c =
    let number = c.ranges.number in
    let left = simp to_z-of_z at c.loop-at.invariant in
    none_left (number_matches c.args.number) c.args.values.now c.loop-at.at (list_any (number_matches c.args.number) c.args.values.now) (omega arith) left
