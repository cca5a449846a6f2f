-- Which actions answer by themselves.
use Rattle.std.specs.Prelude.{Bool, true, false}
use Rattle.http_rules.specs.declared.rule.action.Action.{Action}
use Rattle.http_rules.specs.declared.rule.action.Action.TheVariants as actions

-- The action answers by itself: it makes a reply or fails, and no later rule runs.
abbrev pub answers : Action → Bool
answers (actions.Redirect to code drop_query append_slash) = true
answers (actions.Return status content_type payload hdrs) = true
answers action = false
