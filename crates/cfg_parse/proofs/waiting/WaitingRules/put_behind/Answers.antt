use Rattle.std.proofs.Common.{◌≡◌, ◌+◌, ◌≤◌, ◌<◌, ◌∷◌, ◌++◌, List, length, ap, arith, length-append}
use Rattle.std.specs.Vec.Iter.{into_iter_items}
use Rattle.http_rules.specs.declared.rule.rule.Rule.{Rule}
use Rattle.cfg_parse.proofs.waiting.WaitingRules.put_behind.Goals as goal

-- where one is left, there is room in front of it
room : (put more first all : List Rule) (rule : Rule) (rest : List Rule) → put ++ more ≡ first ++ all → more ≡ rule ∷ rest → length first + length all ≤ 4294967295 → length put < 4294967295
room put more first all rule rest is left few =
    let sums : length (put ++ more) ≡ length (first ++ all) = ap length is in
    let front : length (put ++ more) ≡ length put + length more = length-append put more in
    let whole : length (first ++ all) ≡ length first + length all = length-append first all in
    let one = ap length left in
    omega arith

pub push-requires : goal.push-requires
push-requires c =
    let same = c.into_iter-rule-iterator.ensures.into_iter_gives.0 in
    let view = c.self.view_is in
    let asked = c.requires in
    let few : length c.args.rules.now + length (into_iter_items c.into_iter-rule-iterator.result) ≤ 4294967295 = grind arith in
    room c.loop-rule.rules (into_iter_items c.loop-rule.rule-iterator) c.args.rules.now (into_iter_items c.into_iter-rule-iterator.result) c.in-Some.rule (into_iter_items c.next.new.self) c.loop-rule.invariant.0 c.in-Some.ensures.steps.0 few
