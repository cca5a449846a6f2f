-- The lives of variables (Configuration Manual, section 2.8).
use Rattle.px_sample.specs.Variables.{Variables, clear_scope}
use Rattle.px_sample.specs.declared.scope.Scope.TheVariants.{Txn, Req, Res}

-- When an exchange begins: those of the session go on, those of the exchange and of its rules are gone.
abbrev pub renewed : Variables → Variables
renewed vars = clear_scope (clear_scope (clear_scope vars Txn) Req) Res

-- when the first rules run on an answer, a reply or a refusal: those of the request's rules are gone
abbrev pub answering : Variables → Variables
answering vars = clear_scope (clear_scope vars Req) Res
