-- What `redirect` and `return` send, by what the code is told.
use Rattle.std.specs.Prelude.{ℕ, List, Result}
use Rattle.http_model.specs.declared.Why.{Why}
use Rattle.http_model.specs.Head.{Message}
use Rattle.uri_parts.specs.Target.{TargetParts}
use Rattle.http_rules.specs.declared.action.redirect.Destination.{Destination}
use Rattle.http_rules.specs.declared.action.returning.Returned.{Returned}
use Rattle.http_rules.specs.Action.Given.{Env}
use Rattle.http_rules.specs.Action.Replies.{location_by, redirected, returned}

-- the location of a redirect, by the text of its format, the first Host value and the parts of the target
abbrev pub location_of : Destination → (text host : List ℕ) → TargetParts → List ℕ
location_of told text host parts = location_by told.to.now told.drop_query told.append_slash text host parts

-- the redirect
abbrev pub redirect_of : (size : ℕ) → Destination → Env → Result Message Why
redirect_of size told env = redirected size told.to.now told.code told.drop_query told.append_slash env

-- the reply of a `return`
abbrev pub reply_of : (size : ℕ) → Returned → Env → Result Message Why
reply_of size told env = returned size told.status told.content_type.now told.payload.now told.hdrs.now env
