-- What one rule makes of an environment.
use Rattle.std.specs.Prelude.{ℕ, List, [], ◌∷◌, Result, Ok, Err}
use Rattle.http_model.specs.declared.Why.{Why}
use Rattle.http_model.specs.Head.{Message}
use Rattle.http_rules.specs.declared.rule.action.Action.{Action}
use Rattle.http_rules.specs.declared.rule.action.Action.TheVariants as actions
use Rattle.http_rules.specs.Action.Given.{Env}
use Rattle.http_rules.specs.Action.Edits.{Step}
use Rattle.http_rules.specs.Action.Steps.{steps_of}
use Rattle.http_rules.specs.Action.Replies.{redirected, returned}

-- One for the next rule, no further rule, a reply, a refusal, or a failure, with the environment in front of the failing step.
pub data Act : Type 0 where
  Next : Env → Act
  Stop : Act
  Replies : Message → Act
  Denies : (code : ℕ) → Act
  Fails : Why → Env → Act

-- what a step leaves: its head and its variables; all else stays as it was
abbrev pub left_by : (env next : Env) → Env
left_by env next = record { is_request = env.is_request; head = next.head; body = env.body; method = env.method; vars = next.vars }

-- what comes behind a step: a step that fails decides, and undoes nothing
abbrev pub after_step : Env → Result Env Why → (Env → Act) → Act
after_step env (Ok next) others = others (left_by env next)
after_step env (Err why) others = Fails why env

-- steps in turn
abbrev pub run_steps : List Step → Env → Act
run_steps [] env = Next env
run_steps (step ∷ steps) env = after_step env (step env) (run_steps steps)

-- a reply, or why there is none
abbrev pub replying : Env → Result Message Why → Act
replying env (Ok m) = Replies m
replying env (Err why) = Fails why env

-- what an action makes of an environment
unfoldable pub act : (size : ℕ) → Action → Env → Act
act size actions.Allow env = Stop
act size (actions.Deny code) env = Denies code
act size (actions.Redirect to code drop_query append_slash) env = replying env (redirected size to code drop_query append_slash env)
act size (actions.Return status content_type payload hdrs) env = replying env (returned size status content_type payload hdrs env)
act size action env = run_steps (steps_of size action env) env
