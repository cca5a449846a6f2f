use Rattle.std.proofs.Common.{◌≡◌, ◌∙◌, Ok, ap, refl, List, ℕ}
use Rattle.std.specs.Prelude.{Option}
use Rattle.acl_eval.specs.declared.condition.Cond.{Cond}
use Rattle.http_rules.specs.declared.rule.action.ActionName.{ActionName}
use Rattle.http_rules.specs.declared.rule.rule.Rule.{Rule}
use Rattle.http_rules.specs.Rule.Actions.{stands_in}
use Rattle.cfg_expr.specs.Condition.Conditions.{rule_end}
use Rattle.cfg_expr.specs.Reading.{plain, ◌>>=◌}
use Rattle.cfg_expr.proofs.PublicLaws.{fails_behind, fails_first}
use Rattle.cfg_parse.specs.declared.action.parts.ActionParts.{ActionParts}
use Rattle.cfg_parse.specs.Action.Faults.{RuleReading, of_text, argument}
use Rattle.http_rules.specs.Rule.Actions.{action_named}
use Rattle.cfg_parse.specs.Action.Names.{placed, side_of}
use Rattle.cfg_parse.specs.Action.Arguments.{Words}
use Rattle.cfg_parse.specs.Action.Actions.{action_parts, made_of}
use Rattle.cfg_parse.specs.Action.Rules.{rule_of}
use Rattle.cfg_parse.proofs.action.rules.read_rule.Goals as goal

pub returns-in-Err-clause-reads : goal.returns-in-Err-clause-reads
unfolding rule_of
returns-in-Err-clause-reads g c =
    let last : ActionParts × Words → Option Cond → RuleReading Rule = λ parts cond.
    plain (made_of parts.0) >>= λ action. plain (Ok (record { action = action; cond = cond })) in
    let behind_parts : ActionParts × Words → RuleReading Rule = λ parts. of_text (rule_end (side_of c.args.direction) c.args.lines.now parts.1) >>= last parts in
    let behind_name : List ℕ × Words → ActionName → RuleReading Rule = λ word name. action_parts c.args.direction name word.0 word.1 >>= behind_parts in
    let behind_word : List ℕ × Words → RuleReading Rule = λ word. plain (placed c.args.direction (action_named word.0)) >>= behind_name word in
    fails_behind (plain (argument c.args.words)) behind_word (c.in_ok-word.word.now, c.in_ok-word.others) _ _ _ _ _ c.in_ok-word.ensures refl
    (fails_behind (plain (placed c.args.direction (action_named c.in_ok-word.word.now))) (behind_name (c.in_ok-word.word.now, c.in_ok-word.others)) c.in_ok-name.name _ _ _ _ _ c.in_ok-name.ensures.gives refl
    (fails_behind (action_parts c.args.direction c.in_ok-name.name c.in_ok-word.word.now c.in_ok-word.others) behind_parts (c.in_ok-parts.parts, c.in_ok-parts.others) _ _ _ _ _ c.in_ok-parts.ensures.reads.0 c.in_ok-parts.ensures.reads.1
    (fails_first (of_text (rule_end (side_of c.args.direction) c.args.lines.now c.in_ok-parts.others)) (last (c.in_ok-parts.parts, c.in_ok-parts.others)) _ _ _ _
    (rw c.side_of.ensures at c.in-Err.ensures))))

pub returns-in_ok-rule-in-Ok-clause-good : goal.returns-in_ok-rule-in-Ok-clause-good
returns-in_ok-rule-in-Ok-clause-good g c =
    let named = c.in_ok-rule-in-Ok.ensures.good c.in_ok-name.name c.in_ok-parts.ensures.good in
    record { stands = ap (stands_in c.args.direction) named.is ∙ c.in_ok-name.ensures.good; good = named.good }
