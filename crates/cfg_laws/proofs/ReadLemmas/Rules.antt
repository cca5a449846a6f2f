-- A rule that is read can be said again.
use Rattle.std.proofs.Common.{◌≡◌, ℕ, true, List, Ok}
use Rattle.std.proofs.lemmas.Bool.{and_from}
use Rattle.std.specs.Prelude.{Option}
use Rattle.acl_eval.specs.declared.condition.Cond.{Cond}
use Rattle.http_rules.specs.declared.rule.action.ActionName.{ActionName}
use Rattle.http_rules.specs.declared.rule.action.Direction.{Direction}
use Rattle.http_rules.specs.declared.rule.rule.Rule.{Rule}
use Rattle.http_rules.specs.Rule.Actions.{action_named}
use Rattle.cfg_expr.specs.declared.side.Side.{Side}
use Rattle.cfg_expr.specs.declared.condition.written.AclLine.{AclLine}
use Rattle.cfg_expr.specs.Reading.{plain, ◌>>=◌}
use Rattle.cfg_expr.specs.Condition.Conditions.{rule_end}
use Rattle.cfg_parse.specs.declared.action.parts.ActionParts.{ActionParts}
use Rattle.cfg_parse.specs.Action.Faults.{RuleReading, of_text, argument}
use Rattle.cfg_parse.specs.Action.Names.{placed, side_of}
use Rattle.cfg_parse.specs.Action.Arguments.{Words}
use Rattle.cfg_parse.specs.Action.Actions.{action_parts, made_of}
use Rattle.cfg_parse.specs.Action.Rules.{rule_made, rule_of}
use Rattle.cfg_laws.specs.SpelledActions.{is_spelled_action}
use Rattle.cfg_laws.specs.Laws.Read.{AreSpelledLines}
use Rattle.cfg_laws.specs.Laws.ReadRules.{AreFewOfEach, is_spelled_end, is_spelled_rule}
use Rattle.cfg_laws.proofs.ReadLemmas.Steps.{Gives, gives_so, gives_behind}
use Rattle.cfg_laws.proofs.ReadLemmas.Arguments.{any_behind, text_gives}
use Rattle.cfg_laws.proofs.ReadLemmas.Actions.{are_said, parts_said, parts_give, made_give}
use Rattle.cfg_laws.proofs.ReadLemmas.Terms.{ends_give}

made_said : (side : Side) (parts : ActionParts) (end : Option Cond) → are_said side parts ≡ true → is_spelled_end side end ≡ true → Gives (is_spelled_rule side) (rule_made parts end).gives
made_said side parts end said is = gives_behind (is_spelled_action side) (is_spelled_rule side) (made_of parts) (λ action. plain (Ok (record { action = action; cond = end }))) (made_give side parts said)
    (λ action own. and_from (is_spelled_action side action) (is_spelled_end side end) own is)

of_parts : Direction → List AclLine → ActionParts × Words → RuleReading Rule
of_parts direction lines parts = of_text (rule_end (side_of direction) lines parts.1) >>= rule_made parts.0

of_name : Direction → List AclLine → List ℕ × Words → ActionName → RuleReading Rule
of_name direction lines word name = action_parts direction name word.0 word.1 >>= of_parts direction lines

of_word : Direction → List AclLine → List ℕ × Words → RuleReading Rule
of_word direction lines word = plain (placed direction (action_named word.0)) >>= of_name direction lines word

parts_behind : (direction : Direction) (lines : List AclLine) (parts : ActionParts × Words) → AreSpelledLines (side_of direction) lines → AreFewOfEach lines → parts_said (side_of direction) parts ≡ true
    → Gives (is_spelled_rule (side_of direction)) (of_parts direction lines parts).gives
unfolding of_parts
parts_behind direction lines parts h few said =
    let side = side_of direction in
    gives_behind (is_spelled_end side) (is_spelled_rule side) (of_text (rule_end side lines parts.1)).gives (rule_made parts.0)
    (text_gives (is_spelled_end side) (rule_end side lines parts.1).gives (ends_give side lines parts.1 h few)) (λ end is. made_said side parts.0 end said is)

rule_gives : (direction : Direction) (lines : List AclLine) (words : Words) → AreSpelledLines (side_of direction) lines → AreFewOfEach lines → Gives (is_spelled_rule (side_of direction)) (rule_of direction lines words).gives
unfolding rule_of of_name of_word of_parts
rule_gives direction lines words h few =
    let side = side_of direction in
    any_behind (is_spelled_rule side) (argument words) (of_word direction lines)
    (λ word. any_behind (is_spelled_rule side) (placed direction (action_named word.0)) (of_name direction lines word)
    (λ name. gives_behind (parts_said side) (is_spelled_rule side) (action_parts direction name word.0 word.1).gives (of_parts direction lines) (parts_give direction name word.0 word.1)
    (λ parts said. parts_behind direction lines parts h few said)))

-- as a law
pub rules_spelled : (direction : Direction) (lines : List AclLine) (words : Words) (rule : Rule) → AreSpelledLines (side_of direction) lines → AreFewOfEach lines
    → (rule_of direction lines words).gives ≡ Ok rule → is_spelled_rule (side_of direction) rule ≡ true
rules_spelled direction lines words rule h few is = gives_so (is_spelled_rule (side_of direction)) (rule_of direction lines words).gives rule (rule_gives direction lines words h few) is
