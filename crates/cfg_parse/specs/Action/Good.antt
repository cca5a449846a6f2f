-- Arguments of actions that a configuration may have, while they are read.
use Rattle.std.specs.Prelude.{◌≡◌, true, false, not, ◌&&◌, IfSome, is_some}
use Rattle.std.specs.List.{AllByRecursion}
use Rattle.http_rules.specs.declared.rule.action.ActionName.{ActionName}
use Rattle.http_rules.specs.declared.rule.action.ActionName.TheVariants as names
use Rattle.http_rules.specs.declared.rule.action.Action.{Action}
use Rattle.http_rules.specs.Rule.Actions.{name_of}
use Rattle.http_rules.specs.Rule.Valid.{IsGoodAction, IsMadeName, IsCode, is_redirect_code, may_drop_query, may_append_slash}
use Rattle.cfg_parse.specs.declared.action.redirect.RedirectOptions.{RedirectOptions}
use Rattle.cfg_parse.specs.declared.action.returns.ReturnOptions.{ReturnOptions}
use Rattle.cfg_parse.specs.declared.action.parts.ActionParts.{ActionParts}
use Rattle.cfg_parse.specs.declared.action.parts.ActionParts.TheVariants.{Whole, Redirect, Return}
use Rattle.cfg_parse.specs.Action.Redirects.{goes_with}
use Rattle.cfg_parse.specs.Action.Returns.{has_no_body}

-- the action has this name, and arguments that it may have
pub record IsNamed (name : ActionName) (action : Action) : Type 0 where
  pub is : name_of action ≡ name
  pub good : IsGoodAction action

-- a code of redirects, and options that go with the location
pub record AreRedirectOptions (options : RedirectOptions) : Type 0 where
  pub code : IfSome options.code (λ code. is_redirect_code code ≡ true)
  pub drops : (options.drop_query && not (goes_with may_drop_query options.to)) ≡ false
  pub appends : (options.append_slash && not (goes_with may_append_slash options.to)) ≡ false

-- a code of replies, a payload only where the status has a body, fields that a rule may make
pub record AreReturnOptions (options : ReturnOptions) : Type 0 where
  pub status : IfSome options.status (IsCode 200 599)
  pub sent : (is_some options.payload && has_no_body options.status) ≡ false
  pub fields : AllByRecursion (λ hdr. IsMadeName hdr.name) options.hdrs

-- what is known of an action of this name
abbrev pub AreGoodParts : ActionName → ActionParts → Type 0
AreGoodParts name (Whole action) = IsNamed name action
AreGoodParts name (Redirect options) = (name ≡ names.Redirect) × AreRedirectOptions options
AreGoodParts name (Return options) = (name ≡ names.Return) × AreReturnOptions options
