-- Which rules are valid: those that loading gives, and that the layers above take.
use Rattle.std.specs.Prelude.{◌≡◌, ℕ, ◌≤◌, List, length, Bool, true, false, not, ◌&&◌, ◌||◌, ◌==◌, Option, IsSome, IfSome, is_some}
use Rattle.std.specs.List.{list_any, list_all, AllByRecursion}
use Rattle.std.specs.Char.{is_ascii_alphanumeric}
use Rattle.std.specs.Str.{bytes_eq, str_to_ascii_lowercase}
use Rattle.http_model.specs.Sizes.{most_name}
use Rattle.http_model.specs.Finish.{framing_names}
use Rattle.px_bytes.specs.Tokens.{is_token}
use Rattle.http_rules.specs.declared.rule.action.Direction.{Direction}
use Rattle.http_rules.specs.declared.rule.reply.RedirectTo.{RedirectTo}
use Rattle.http_rules.specs.declared.rule.reply.RedirectTo.TheVariants.{Location, Prefix, Scheme}
use Rattle.http_rules.specs.declared.rule.reply.Payload.{Payload}
use Rattle.http_rules.specs.declared.rule.reply.Hdr.{Hdr}
use Rattle.http_rules.specs.declared.rule.action.DelBy.{DelBy}
use Rattle.http_rules.specs.declared.rule.action.DelBy.TheVariants.{Str, Beg, End, Sub, Reg}
use Rattle.http_rules.specs.declared.rule.action.Action.{Action}
use Rattle.http_rules.specs.declared.rule.action.Action.TheVariants as actions
use Rattle.http_rules.specs.declared.rule.rule.Rule.{Rule}
use Rattle.http_rules.specs.Rule.Actions.{stands_in, name_of}

-- a name in a rule: a token of 1 to 255 bytes in lower case
pub record IsName (name : List ℕ) : Type 0 where
  pub some : 1 ≤ length name
  pub short : length name ≤ most_name
  pub token : is_token name ≡ true
  pub lower : str_to_ascii_lowercase name ≡ name

-- a name of a field that a rule may make: one that frames no message and does not speak of its connection
pub record IsMadeName (name : List ℕ) : Type 0 where
  pub named : IsName name
  pub free : list_any (λ framing. bytes_eq framing name) framing_names ≡ false

-- a code within bounds
pub record IsCode (least most code : ℕ) : Type 0 where
  pub from : least ≤ code
  pub to : code ≤ most

-- a status with which no body is sent (RFC 9110 sections 15.3.5 and 15.4.5)
abbrev pub is_bodiless : ℕ → Bool
is_bodiless status = status == 204 || status == 304

-- what `del-header` is told names by: a name or a part of one
abbrev pub IsGoodDel : DelBy → Type 0
IsGoodDel (Str text) = IsName text
IsGoodDel (Beg text) = IsName text
IsGoodDel (End text) = IsName text
IsGoodDel (Sub text) = IsName text
IsGoodDel (Reg pat) = Unit {0}

-- a status that a rule may set
pub record IsSetStatus (code : ℕ) : Type 0 where
  pub code_is : IsCode 200 999 code
  pub with_body : is_bodiless code ≡ false

-- the codes of redirects
abbrev pub is_redirect_code : ℕ → Bool
is_redirect_code code = code == 301 || (code == 302 || (code == 303 || (code == 307 || code == 308)))

-- which options go with which location
abbrev pub may_drop_query : RedirectTo → Bool
may_drop_query (Location fmt) = false
may_drop_query (Prefix fmt) = true
may_drop_query (Scheme fmt) = true

abbrev pub may_append_slash : RedirectTo → Bool
may_append_slash (Location fmt) = false
may_append_slash (Prefix fmt) = true
may_append_slash (Scheme fmt) = false

pub record IsGoodRedirect (to : RedirectTo) (code : ℕ) (drop_query append_slash : Bool) : Type 0 where
  pub code_is : is_redirect_code code ≡ true
  pub drops : drop_query && not (may_drop_query to) ≡ false
  pub appends : append_slash && not (may_append_slash to) ≡ false

-- a payload has a type, and none goes with a status without a body
pub record IsGoodReturn (status : ℕ) (content_type : Option (List ℕ)) (payload : Option Payload) (hdrs : List Hdr) : Type 0 where
  pub status_is : IsCode 200 599 status
  pub typed : is_some payload && not (is_some content_type) ≡ false
  pub sent : is_some payload && is_bodiless status ≡ false
  pub names : AllByRecursion (λ hdr. IsMadeName hdr.name) hdrs

-- a byte of a variable's name
abbrev pub is_variable_byte : ℕ → Bool
is_variable_byte b = is_ascii_alphanumeric b || (b == 95 || b == 46)

-- a name of a variable: letters, digits, `_` and `.`, at least one of them
pub record IsVariableName (name : List ℕ) : Type 0 where
  pub some : 1 ≤ length name
  pub bytes : list_all is_variable_byte name ≡ true

-- The arguments of an action are such as a configuration may have. Texts and patterns are.
abbrev pub IsGoodAction : Action → Type 0
IsGoodAction (actions.Deny code) = IsCode 400 599 code
IsGoodAction (actions.AddHeader name fmt) = IsMadeName name
IsGoodAction (actions.SetHeader name fmt) = IsMadeName name
IsGoodAction (actions.DelHeader by) = IsGoodDel by
IsGoodAction (actions.ReplaceHeader name pat fmt) = IsMadeName name
IsGoodAction (actions.ReplaceValue name pat fmt) = IsMadeName name
IsGoodAction (actions.SetStatus code reason) = IsSetStatus code
IsGoodAction (actions.Redirect to code drop_query append_slash) = IsGoodRedirect to code drop_query append_slash
IsGoodAction (actions.Return status content_type payload hdrs) = IsGoodReturn status content_type payload hdrs
IsGoodAction (actions.SetVar scope name expr) = IsVariableName name
IsGoodAction (actions.UnsetVar scope name) = IsVariableName name
IsGoodAction action = Unit {0}

-- the action stands in this direction with such arguments
pub record IsGoodRule (direction : Direction) (rule : Rule) : Type 0 where
  pub stands : stands_in direction (name_of rule.action) ≡ true
  pub good : IsGoodAction rule.action

-- the rules of one direction: at most 1024
pub record AreRules (direction : Direction) (rules : List Rule) : Type 0 where
  pub each : AllByRecursion (IsGoodRule direction) rules
  pub few : length rules ≤ 1024
