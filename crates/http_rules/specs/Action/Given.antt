-- What fetches give, and the texts of formats, on the environment that rules run on.
use Rattle.std.specs.Prelude.{ℕ, List, Bool, true, false, Option}
use Rattle.htx_model.specs.Block.{Block}
use Rattle.http_model.specs.Head.{front_blocks}
use Rattle.session_model.specs.Env as model
use Rattle.px_sample.specs.Sample.{Value}
use Rattle.px_sample.specs.Variables.{Variables}
use Rattle.px_sample.specs.declared.fetch.Fetch.{Fetch}
use Rattle.px_expr.specs.Expr as exprs
use Rattle.px_expr.specs.declared.expr.Expr.{Expr}
use Rattle.log_format.specs.Format as formats
use Rattle.log_format.specs.declared.fmt.Fmt.{Fmt}
use Rattle.acl_eval.specs.Condition as conditions
use Rattle.acl_eval.specs.declared.condition.Cond.{Cond}
use Rattle.http_fetch.specs.Fetches.{request_samples, response_samples}

-- what rules run on, with the variables of the four scopes
abbrev pub Env : Type 0
Env = model.Env Variables

-- what fetches give of a message in an array: of a request, or of an answer to a request of this method
abbrev pub given_at : (is_request : Bool) → (method : List ℕ) → List Block → Variables → Fetch → List (Option Value)
given_at true method blocks vars = request_samples (record { blocks = blocks; vars = vars })
given_at false method blocks vars = response_samples (record { blocks = blocks; method = method; vars = vars })

-- what they give on an environment
abbrev pub given : Env → Fetch → List (Option Value)
given env = given_at env.is_request env.method (front_blocks env.head env.body) env.vars

-- the text of a format, where a buffer holds so many bytes
abbrev pub text_on : (size : ℕ) → Env → Fmt → List ℕ
text_on size env fmt = formats.text size (given env) fmt

-- the sample of an expression
abbrev pub sample_on : (size : ℕ) → Env → Expr → Option Value
sample_on size env expr = exprs.sample size (given env) expr

-- whether a condition holds
abbrev pub holds_on : (size : ℕ) → Env → Cond → Bool
holds_on size env cond = conditions.holds size (given env) cond
