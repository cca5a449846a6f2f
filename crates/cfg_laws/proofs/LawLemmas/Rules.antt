-- Rules as they are spelled, and read.
use Rattle.std.proofs.Common.{◌≡◌, ℕ, true, cond, List, [], ◌∷◌, ◌++◌, ap, ◌∙◌}
use Rattle.std.proofs.lemmas.List.{append-nil}
use Rattle.std.specs.Prelude.{Option, Some, Err}
use Rattle.px_pattern.specs.Pattern.{Pattern}
use Rattle.acl_eval.specs.declared.condition.Cond.{Cond}
use Rattle.http_rules.specs.declared.rule.action.ActionName.{ActionName}
use Rattle.http_rules.specs.declared.rule.action.Direction.{Direction}
use Rattle.http_rules.specs.declared.rule.action.Action.{Action}
use Rattle.http_rules.specs.declared.rule.rule.Rule.{Rule}
use Rattle.http_rules.specs.Rule.Actions.{name_of, action_named, stands_in}
use Rattle.http_rules.specs.Rule.Valid.{IsGoodRule}
use Rattle.cfg_expr.specs.declared.side.Side.{Side}
use Rattle.cfg_expr.specs.declared.condition.written.AclLine.{AclLine}
use Rattle.cfg_expr.specs.Condition.Conditions.{rule_end}
use Rattle.cfg_expr.specs.Reading.{plain, ◌>>=◌}
use Rattle.cfg_expr.specs.Faults.{TextReading}
use Rattle.cfg_parse.specs.declared.action.fault.RuleKind.TheVariants.{Keyword}
use Rattle.cfg_parse.specs.declared.action.parts.ActionParts.{ActionParts}
use Rattle.cfg_parse.specs.Action.Faults.{Read, RuleReading, of_text}
use Rattle.cfg_parse.specs.Action.Names.{placed, side_of}
use Rattle.cfg_parse.specs.Action.Arguments.{Words}
use Rattle.cfg_parse.specs.Action.Actions.{action_parts, made_of}
use Rattle.cfg_parse.specs.Action.Rules.{rule_made, rule_of}
use Rattle.cfg_print.specs.Actions.{action_words}
use Rattle.cfg_laws.specs.SpelledActions.{is_spelled_action, ends_action}
use Rattle.cfg_laws.specs.Laws.Rules.{action_patterns}
use Rattle.cfg_laws.proofs.LawLemmas.Convs.{found}
use Rattle.cfg_laws.proofs.LawLemmas.ActionWords.{gives, behind, left, told}
use Rattle.cfg_laws.proofs.LawLemmas.Actions.{parts_of, action_made, spoken}

abbrev with_cond : Action → Option Cond → Rule
with_cond action cond = record { action = action; cond = cond }

-- what is read behind an action
abbrev ending : Side → List AclLine → ActionParts × Words → RuleReading Rule
ending side lines known = of_text (rule_end side lines known.1) >>= λ cond. rule_made known.0 cond

-- what is read behind the name of an action
abbrev behind_name : Direction → List AclLine → (word : List ℕ) → (others : Words) → Read ActionName → RuleReading Rule
behind_name direction lines word others name = plain name >>= λ n. action_parts direction n word others >>= ending (side_of direction) lines

placed_back : (direction : Direction) (word : List ℕ) (name : ActionName) → action_named word ≡ Some name → stands_in direction name ≡ true → placed direction (action_named word) ≡ told name
placed_back direction word name is stands = ap (λ (n : Option ActionName). placed direction n) is ∙ ap (λ t. cond t (told name) (Err Keyword)) stands

rule_read : (direction : Direction) (lines : List AclLine) (word : List ℕ) (others ends : Words) (name : ActionName) (asks : List Pattern) (known : ActionParts) (action : Action) (cond : Option Cond)
    → placed direction (action_named word) ≡ told name → action_parts direction name word others ≡ gives asks (left known ends) → made_of known ≡ told action → rule_end (side_of direction) lines ends ≡ found [] cond
    → rule_of direction lines (word ∷ others) ≡ gives asks (with_cond action cond)
unfolding rule_of
rule_read direction lines word others ends name asks known action cond placed_is read made last =
    ap (λ (n : Read ActionName). behind_name direction lines word others n) placed_is
    ∙ ap (λ (r : RuleReading (ActionParts × Words)). r >>= ending (side_of direction) lines) read
    ∙ ap (λ (r : TextReading (Option Cond)). behind asks (of_text r >>= λ c. rule_made known c)) last
    ∙ ap (λ (a : Read Action). behind asks (plain a >>= λ x. plain (told (with_cond x cond)))) made
    ∙ ap (λ l. gives l (with_cond action cond)) (append-nil asks)

-- a rule is read back
pub rule_back : (direction : Direction) (lines : List AclLine) (rule : Rule) (ends : Words) → IsGoodRule direction rule
    → is_spelled_action (side_of direction) rule.action ≡ true → ends_action ends ≡ true → rule_end (side_of direction) lines ends ≡ found [] rule.cond
    → rule_of direction lines (action_words rule.action ++ ends) ≡ gives (action_patterns rule.action) rule
rule_back direction lines rule ends good h sense last =
    let is = spoken direction rule.action ends good.good h sense in
    ap (λ (words : Words). rule_of direction lines words) is.words
    ∙ rule_read direction lines is.word is.others ends (name_of rule.action) (action_patterns rule.action) (parts_of rule.action) rule.action rule.cond
    (placed_back direction is.word (name_of rule.action) is.named good.stands) is.read (action_made rule.action good.good) last
