-- Rules that leave the variables of the session alone.
use Rattle.std.specs.Prelude.{◌≡◌, List, [], ◌∷◌, Bool, true, false, ◌||◌}
use Rattle.px_sample.specs.Variables.{Variables}
use Rattle.px_sample.specs.declared.scope.Scope.{Scope}
use Rattle.px_sample.specs.declared.scope.Scope.TheVariants.{Sess, Txn, Req, Res}
use Rattle.http_rules.specs.declared.config.Config.{Config}
use Rattle.http_rules.specs.declared.rule.action.Action.{Action}
use Rattle.http_rules.specs.declared.rule.action.Action.TheVariants as actions
use Rattle.http_rules.specs.declared.rule.rule.Rule.{Rule}

abbrev pub is_session : Scope → Bool
is_session Sess = true
is_session Txn = false
is_session Req = false
is_session Res = false

-- the action sets a variable of the session, or takes one out
abbrev pub turns_session : Action → Bool
turns_session (actions.SetVar scope name expr) = is_session scope
turns_session (actions.UnsetVar scope name) = is_session scope
turns_session action = false

-- some rule of them does
abbrev pub some_turn : List Rule → Bool
some_turn [] = false
some_turn (rule ∷ rules) = turns_session rule.action || some_turn rules

-- no rule of a configuration does
pub record IsSteady (cfg : Config) : Type 0 where
  pub request : some_turn cfg.request ≡ false
  pub response : some_turn cfg.response ≡ false
  pub after : some_turn cfg.after ≡ false

-- none is there but those of the session
pub record IsClear (vars : Variables) : Type 0 where
  pub txn : vars.txn ≡ []
  pub req : vars.req ≡ []
  pub res : vars.res ≡ []
