-- Actions as they are spelled, and read.
use Rattle.std.proofs.Common.{◌≡◌, ℕ, true, cond, List, [], ◌∷◌, ◌++◌, refl, ap, ◌∙◌}
use Rattle.std.proofs.lemmas.List.{append-nil}
use Rattle.std.specs.Prelude.{Option, Some, Err, codes}
use Rattle.px_pattern.specs.Pattern.{Pattern}
use Rattle.px_sample.specs.declared.scope.Scope.{Scope}
use Rattle.http_rules.specs.declared.rule.action.ActionName.TheVariants as names
use Rattle.http_rules.specs.declared.rule.action.Direction.{Direction}
use Rattle.http_rules.specs.declared.rule.action.Action.{Action}
use Rattle.http_rules.specs.declared.rule.action.Action.TheVariants as actions
use Rattle.http_rules.specs.declared.rule.reply.Payload.{Payload}
use Rattle.http_rules.specs.declared.rule.reply.Hdr.{Hdr}
use Rattle.http_rules.specs.Rule.Actions.{name_of, action_named, field_action, line_action, other_action}
use Rattle.http_rules.specs.Rule.Valid.{IsGoodAction, IsGoodReturn}
use Rattle.cfg_expr.specs.Reading.{plain}
use Rattle.cfg_parse.specs.declared.action.fault.RuleKind.TheVariants.{Argument}
use Rattle.cfg_parse.specs.declared.action.parts.ActionParts.{ActionParts}
use Rattle.cfg_parse.specs.declared.action.parts.ActionParts.TheVariants as parts
use Rattle.cfg_parse.specs.Action.Faults.{Read, RuleReading}
use Rattle.cfg_parse.specs.Action.Names.{side_of}
use Rattle.cfg_parse.specs.Action.Arguments.{Words}
use Rattle.cfg_parse.specs.Action.Plain.{Behind}
use Rattle.cfg_parse.specs.Action.Actions.{field_at, whole, action_parts, made_of}
use Rattle.cfg_print.specs.Actions.{variable_word, action_words}
use Rattle.cfg_laws.specs.SpelledActions.{is_spelled_action, ends_action}
use Rattle.cfg_laws.specs.Laws.Rules.{action_patterns}
use Rattle.cfg_laws.proofs.LawLemmas.ActionWords.{gives, left, told}
use Rattle.cfg_laws.proofs.LawLemmas.ActionFields.{made_back, replaced_back, set_back, changed_back, deleted_back}
use Rattle.cfg_laws.proofs.LawLemmas.ActionCodes.{denied_back, status_back, switch_back, unset_back, set_var_back}
use Rattle.cfg_laws.proofs.LawLemmas.Redirects.{options_of, redirect_back}
use Rattle.cfg_laws.proofs.LawLemmas.Returns.{replies, return_back}

-- ---- what is read of an action

-- what is known of an action in front of its condition
abbrev pub parts_of : Action → ActionParts
parts_of (actions.Redirect to code drop_query append_slash) = parts.Redirect (options_of to (Some code) drop_query append_slash)
parts_of (actions.Return status content_type payload hdrs) = parts.Return (replies (Some status) content_type payload hdrs)
parts_of action = parts.Whole action

returned : (status : ℕ) (content_type : Option (List ℕ)) (payload : Option Payload) (hdrs : List Hdr) → IsGoodReturn status content_type payload hdrs
    → made_of (parts.Return (replies (Some status) content_type payload hdrs)) ≡ told (actions.Return status content_type payload hdrs)
returned status content_type payload hdrs good = ap (λ t. cond t (Err Argument) (told (actions.Return status content_type payload hdrs))) good.typed

-- it makes the action
pub action_made : (action : Action) → IsGoodAction action → made_of (parts_of action) ≡ told action
action_made actions.Allow good = refl
action_made (actions.Deny code) good = refl
action_made (actions.AddHeader name fmt) good = refl
action_made (actions.SetHeader name fmt) good = refl
action_made (actions.DelHeader by) good = refl
action_made (actions.ReplaceHeader name pat fmt) good = refl
action_made (actions.ReplaceValue name pat fmt) good = refl
action_made (actions.SetMethod fmt) good = refl
action_made (actions.SetPath fmt) good = refl
action_made (actions.SetPathq fmt) good = refl
action_made (actions.SetUri fmt) good = refl
action_made (actions.SetQuery fmt) good = refl
action_made (actions.ReplacePath pat fmt) good = refl
action_made (actions.ReplacePathq pat fmt) good = refl
action_made (actions.ReplaceUri pat fmt) good = refl
action_made (actions.SetStatus code reason) good = refl
action_made (actions.Redirect to code drop_query append_slash) good = refl
action_made (actions.Return status content_type payload hdrs) good = returned status content_type payload hdrs good
action_made (actions.SetVar scope name expr) good = refl
action_made (actions.UnsetVar scope name) good = refl
action_made (actions.StrictMode on) good = refl

-- ---- words

-- The first word of an action in front of other words, and those behind it: the word names the action, and the others are its arguments.
pub record IsSpoken (direction : Direction) (action : Action) (rest : Words) : Type 0 where
  pub word : List ℕ
  pub others : Words
  pub words : action_words action ++ rest ≡ word ∷ others
  pub named : action_named word ≡ Some (name_of action)
  pub read : action_parts direction (name_of action) word others ≡ gives (action_patterns action) (left (parts_of action) rest)

-- an action that no options make
whole_back : (asks : List Pattern) (action : Action) (rest : Words) (r : RuleReading Behind) → r ≡ gives asks (left action rest) → whole r ≡ gives asks (left (parts.Whole action) rest)
whole_back asks action rest r h = ap (λ (s : RuleReading Behind). whole s) h ∙ ap (λ l. gives l (left (parts.Whole action) rest)) (append-nil asks)

-- the same where nothing is asked for
plain_back : (action : Action) (rest : Words) (r : Read Behind) → r ≡ told (left action rest) → whole (plain r) ≡ gives [] (left (parts.Whole action) rest)
plain_back action rest r h = ap (λ (s : Read Behind). whole (plain s)) h

-- a word with a variable names its action
set_var_named : (scope : Scope) (name : List ℕ) → action_named (variable_word (codes "set-var") scope name) ≡ Some names.SetVar
unfolding field_action line_action other_action
set_var_named scope name = refl

unset_var_named : (scope : Scope) (name : List ℕ) → action_named (variable_word (codes "unset-var") scope name) ≡ Some names.UnsetVar
unfolding field_action line_action other_action
unset_var_named scope name = refl

-- an action is read back
pub spoken : (direction : Direction) (action : Action) (rest : Words) → IsGoodAction action → is_spelled_action (side_of direction) action ≡ true → ends_action rest ≡ true → IsSpoken direction action rest
unfolding action_words action_patterns is_spelled_action action_parts field_at field_action line_action other_action
spoken direction actions.Allow rest good h ends = record { word = codes "allow"; others = rest; words = refl; named = refl; read = refl }
spoken direction (actions.Deny code) rest good h ends =
    record { word = codes "deny"; others = _; words = refl; named = refl; read = plain_back _ rest _ (denied_back direction code rest good) }
spoken direction (actions.AddHeader name fmt) rest good h ends =
    record { word = codes "add-header"; others = _; words = refl; named = refl; read = whole_back _ _ rest _ (made_back actions.AddHeader (side_of direction) name fmt rest good h) }
spoken direction (actions.SetHeader name fmt) rest good h ends =
    record { word = codes "set-header"; others = _; words = refl; named = refl; read = whole_back _ _ rest _ (made_back actions.SetHeader (side_of direction) name fmt rest good h) }
spoken direction (actions.DelHeader by) rest good h ends =
    record { word = codes "del-header"; others = _; words = refl; named = refl; read = whole_back _ _ rest _ (deleted_back by rest good h ends) }
spoken direction (actions.ReplaceHeader name pat fmt) rest good h ends =
    record { word = codes "replace-header"; others = _; words = refl; named = refl; read = whole_back _ _ rest _ (replaced_back actions.ReplaceHeader (side_of direction) name pat fmt rest good h) }
spoken direction (actions.ReplaceValue name pat fmt) rest good h ends =
    record { word = codes "replace-value"; others = _; words = refl; named = refl; read = whole_back _ _ rest _ (replaced_back actions.ReplaceValue (side_of direction) name pat fmt rest good h) }
spoken direction (actions.SetMethod fmt) rest good h ends =
    record { word = codes "set-method"; others = _; words = refl; named = refl; read = whole_back _ _ rest _ (set_back (side_of direction) names.SetMethod fmt (actions.SetMethod fmt) rest refl refl h) }
spoken direction (actions.SetPath fmt) rest good h ends =
    record { word = codes "set-path"; others = _; words = refl; named = refl; read = whole_back _ _ rest _ (set_back (side_of direction) names.SetPath fmt (actions.SetPath fmt) rest refl refl h) }
spoken direction (actions.SetPathq fmt) rest good h ends =
    record { word = codes "set-pathq"; others = _; words = refl; named = refl; read = whole_back _ _ rest _ (set_back (side_of direction) names.SetPathq fmt (actions.SetPathq fmt) rest refl refl h) }
spoken direction (actions.SetUri fmt) rest good h ends =
    record { word = codes "set-uri"; others = _; words = refl; named = refl; read = whole_back _ _ rest _ (set_back (side_of direction) names.SetUri fmt (actions.SetUri fmt) rest refl refl h) }
spoken direction (actions.SetQuery fmt) rest good h ends =
    record { word = codes "set-query"; others = _; words = refl; named = refl; read = whole_back _ _ rest _ (set_back (side_of direction) names.SetQuery fmt (actions.SetQuery fmt) rest refl refl h) }
spoken direction (actions.ReplacePath pat fmt) rest good h ends =
    record { word = codes "replace-path"; others = _; words = refl; named = refl; read = whole_back _ _ rest _ (changed_back (side_of direction) names.ReplacePath pat fmt (actions.ReplacePath pat fmt) rest refl refl h) }
spoken direction (actions.ReplacePathq pat fmt) rest good h ends =
    record { word = codes "replace-pathq"; others = _; words = refl; named = refl; read = whole_back _ _ rest _ (changed_back (side_of direction) names.ReplacePathq pat fmt (actions.ReplacePathq pat fmt) rest refl refl h) }
spoken direction (actions.ReplaceUri pat fmt) rest good h ends =
    record { word = codes "replace-uri"; others = _; words = refl; named = refl; read = whole_back _ _ rest _ (changed_back (side_of direction) names.ReplaceUri pat fmt (actions.ReplaceUri pat fmt) rest refl refl h) }
spoken direction (actions.SetStatus code reason) rest good h ends =
    record { word = codes "set-status"; others = _; words = refl; named = refl; read = plain_back _ rest _ (status_back code reason rest good ends) }
spoken direction (actions.Redirect to code drop_query append_slash) rest good h ends =
    record { word = codes "redirect"; others = _; words = refl; named = refl; read = redirect_back (side_of direction) to code drop_query append_slash rest good h ends }
spoken direction (actions.Return status content_type payload hdrs) rest good h ends =
    record { word = codes "return"; others = _; words = refl; named = refl; read = return_back (side_of direction) status content_type payload hdrs rest good h ends }
spoken direction (actions.SetVar scope name expr) rest good h ends =
    record { word = variable_word (codes "set-var") scope name; others = _; words = refl; named = set_var_named scope name; read = whole_back _ _ rest _ (set_var_back (side_of direction) scope name expr rest good h) }
spoken direction (actions.UnsetVar scope name) rest good h ends =
    record { word = variable_word (codes "unset-var") scope name; others = _; words = refl; named = unset_var_named scope name; read = plain_back _ rest _ (unset_back scope name rest good) }
spoken direction (actions.StrictMode on) rest good h ends =
    record { word = codes "strict-mode"; others = _; words = refl; named = refl; read = plain_back _ rest _ (switch_back on rest) }
