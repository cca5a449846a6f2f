-- What lines before this one have set is within its limits.
use Rattle.std.specs.Prelude.{ℕ, ◌≤◌, IfSome}
use Rattle.std.specs.List.{AllByRecursion}
use Rattle.http_model.specs.Sizes.{least_size, most_size}
use Rattle.http_rules.specs.declared.rule.action.Direction.TheVariants.{Request, Response, After}
use Rattle.http_rules.specs.Valid.{HasPort, HasHost, IsVersion, IsPath, IsScript, IsParam, IsChain}
use Rattle.http_rules.specs.Rule.Valid.{AreRules, IsGoodRule}
use Rattle.cfg_parse.specs.declared.draft.ApplicationLines.{ApplicationLines}
use Rattle.cfg_parse.specs.declared.draft.Draft.{Draft}

-- the same of how an application is asked
pub record IsSoundApplication (lines : ApplicationLines) : Type 0 where
  pub root : IfSome lines.root IsPath
  pub index : IfSome lines.index IsPath
  pub script : IfSome lines.script IsScript
  pub params : AllByRecursion IsParam lines.params

pub record IsSound (draft : Draft) : Type 0 where
  pub bufsize : IfSome draft.bufsize (λ n. (least_size ≤ n) × (n ≤ most_size))
  pub bind : IfSome draft.bind HasPort
  pub server : IfSome draft.server (λ a. HasPort a × HasHost a)
  pub send_proxy : IfSome draft.send_proxy IsVersion
  pub application : IsSoundApplication draft.application
  pub request : AreRules Request draft.request
  pub response : AreRules Response draft.response
  pub after : AreRules After draft.after
  pub param_rules : AllByRecursion (IsGoodRule Request) draft.param_rules
  pub req_filters : IsChain draft.req_filters
  pub res_filters : IsChain draft.res_filters
  pub forwarding : IfSome draft.forwarding (IsGoodRule Request)
