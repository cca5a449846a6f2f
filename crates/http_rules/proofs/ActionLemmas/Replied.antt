-- What an action that answers came to.
use Rattle.std.proofs.Common.{◌≡◌, ℕ, List, Bool, refl, sym, subst}
use Rattle.std.specs.Prelude.{Result, Ok, Err, Option}
use Rattle.http_model.specs.declared.Why.{Why}
use Rattle.http_model.specs.Block.{Block}
use Rattle.http_model.specs.Head.{Message}
use Rattle.http_rules.specs.declared.rule.action.Action.{Action}
use Rattle.http_rules.specs.declared.rule.action.Action.TheVariants as actions
use Rattle.http_rules.specs.declared.rule.reply.RedirectTo.{RedirectTo}
use Rattle.http_rules.specs.declared.rule.reply.Payload.{Payload}
use Rattle.http_rules.specs.declared.rule.reply.Hdr.{Hdr}
use Rattle.http_rules.specs.declared.action.stepped.Stepped.{Stepped}
use Rattle.http_rules.specs.declared.action.stepped.Stepped.TheVariants.{Done, Failed}
use Rattle.http_rules.specs.Action.Given.{Env}
use Rattle.http_rules.specs.Action.Replies.{redirected, returned}
use Rattle.http_rules.specs.Action.Acts.{act, replying}
use Rattle.http_rules.specs.Action.Outcome.{Answers}
use Rattle.http_rules.specs.Action.Does.{Replied}

replied : (env : Env) (r : Result Message Why) (step : Stepped) (reply : List Block) → Answers r step reply → Replied env (replying env r) step reply
replied env (Ok m) Done reply h = h
replied env (Err why) (Failed told) reply h = (h.0, refl, h.1)
replied env r step reply h = absurd h

pub redirects : (env : Env) (size : ℕ) (action : Action) (to : RedirectTo) (code : ℕ) (drop_query append_slash : Bool) (step : Stepped) (reply : List Block)
    → action ≡ actions.Redirect to code drop_query append_slash → Answers (redirected size to code drop_query append_slash env) step reply → Replied env (act size action env) step reply
unfolding act
redirects env size action to code drop_query append_slash step reply is h =
    subst (λ (a : Action). Replied env (act size a env) step reply) (sym is) (replied env (redirected size to code drop_query append_slash env) step reply h)

pub returns : (env : Env) (size : ℕ) (action : Action) (status : ℕ) (content_type : Option (List ℕ)) (payload : Option Payload) (hdrs : List Hdr) (step : Stepped) (reply : List Block)
    → action ≡ actions.Return status content_type payload hdrs → Answers (returned size status content_type payload hdrs env) step reply → Replied env (act size action env) step reply
unfolding act
returns env size action status content_type payload hdrs step reply is h =
    subst (λ (a : Action). Replied env (act size a env) step reply) (sym is) (replied env (returned size status content_type payload hdrs env) step reply h)
