use Rattle.std.proofs.Common.{◌≡◌, ◌++◌, sym, subst}
use Rattle.http_model.specs.Reading.{Refused}
use Rattle.h1_head.specs.declared.answer.Side.{Side}
use Rattle.h1_head.specs.Answers.{IfRefuse}
use Rattle.h1_head.specs.Sides.{kind_of}
use Rattle.h1_head.specs.Stream.{HeadOf}
use Rattle.h1_head.specs.Decides.{OnEachStream, RefusesFor, WhereLong, IsTooLong}
use Rattle.h1_head.proofs.sides.read_head.Goals as goal

pub returns-in-Request-clause-refused : goal.returns-in-Request-clause-refused
returns-in-Request-clause-refused c =
    subst (λ (s : Side). IfRefuse c.read_request.result (λ code _. OnEachStream c.args.whole (λ more. HeadOf (kind_of s) c.args.limits (c.args.window.now ++ more) (Refused code))))
    (sym c.in-Request.is) c.read_request.ensures.refused

pub returns-in-Response-clause-refused : goal.returns-in-Response-clause-refused
returns-in-Response-clause-refused c =
    subst (λ (s : Side). IfRefuse c.read_response.result (λ code _. OnEachStream c.args.whole (λ more. HeadOf (kind_of s) c.args.limits (c.args.window.now ++ more) (Refused code))))
    (sym c.in-Response.is) c.read_response.ensures.refused

pub returns-in-Request-clause-code : goal.returns-in-Request-clause-code
returns-in-Request-clause-code c =
    subst (λ (s : Side). IfRefuse c.read_request.result (λ code why. code ≡ (kind_of s).code why)) (sym c.in-Request.is) c.read_request.ensures.code

pub returns-in-Response-clause-code : goal.returns-in-Response-clause-code
returns-in-Response-clause-code c =
    subst (λ (s : Side). IfRefuse c.read_response.result (λ code why. code ≡ (kind_of s).code why)) (sym c.in-Response.is) c.read_response.ensures.code

pub returns-in-Request-clause-why : goal.returns-in-Request-clause-why
returns-in-Request-clause-why c =
    subst (λ (s : Side). IfRefuse c.read_request.result (λ _ why. RefusesFor (kind_of s) c.args.limits c.args.whole c.args.window.now why)) (sym c.in-Request.is) c.read_request.ensures.why

pub returns-in-Response-clause-why : goal.returns-in-Response-clause-why
returns-in-Response-clause-why c =
    subst (λ (s : Side). IfRefuse c.read_response.result (λ _ why. RefusesFor (kind_of s) c.args.limits c.args.whole c.args.window.now why)) (sym c.in-Response.is) c.read_response.ensures.why

pub returns-in-Request-clause-long : goal.returns-in-Request-clause-long
returns-in-Request-clause-long c =
    subst (λ (s : Side). IfRefuse c.read_request.result (λ _ why. WhereLong why (IsTooLong (kind_of s) c.args.limits c.args.whole c.args.window.now))) (sym c.in-Request.is) c.read_request.ensures.long

pub returns-in-Response-clause-long : goal.returns-in-Response-clause-long
returns-in-Response-clause-long c =
    subst (λ (s : Side). IfRefuse c.read_response.result (λ _ why. WhereLong why (IsTooLong (kind_of s) c.args.limits c.args.whole c.args.window.now))) (sym c.in-Response.is) c.read_response.ensures.long
