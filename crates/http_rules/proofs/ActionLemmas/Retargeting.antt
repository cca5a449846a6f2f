-- A part of a target in which a pattern matches.
use Rattle.std.proofs.Common.{◌≡◌, ℕ, List, sym, ap, ◌∙◌, subst}
use Rattle.std.specs.Prelude.{Some, Result}
use Rattle.http_model.specs.declared.Why.{Why}
use Rattle.http_model.specs.Block.{Block}
use Rattle.http_model.specs.Head.{StartLine}
use Rattle.px_pattern.specs.Pattern.{Pattern}
use Rattle.px_sample.specs.Variables.{Variables}
use Rattle.htx_view.specs.Lines.{request_in}
use Rattle.log_format.specs.declared.fmt.Fmt.{Fmt}
use Rattle.http_rules.specs.declared.action.side.Side.{Side}
use Rattle.http_rules.specs.declared.action.stepped.Stepped.{Stepped}
use Rattle.http_rules.specs.declared.action.part.TargetPart.{TargetPart}
use Rattle.http_rules.specs.declared.action.filled.Filled.{Filled}
use Rattle.http_rules.specs.Action.Given.{Env}
use Rattle.http_rules.specs.Action.Lines.{made_of, on_request, part_of, with_part, sent_to}
use Rattle.http_rules.specs.Action.Steps.{replace_part}
use Rattle.http_rules.specs.Action.Replacing.{by_match}
use Rattle.http_rules.specs.Action.Filling.{edited_by}
use Rattle.http_rules.specs.Action.Outcome.{IsAt, Came}
use Rattle.http_rules.proofs.ActionLemmas.Lines.{asked, line_is}

-- what is made of the parts of a line is what is made of the line
pub of_parts : (side : Side) (env : Env) (vars : Variables) (make : (method target version : List ℕ) → Result Env Why) (step : Stepped) (old new : List Block) (m t v : List ℕ)
    → IsAt side env old vars → request_in old ≡ Some (m, t, v) → Came side env (on_request env make) step new vars → Came side env (make m t v) step new vars
of_parts side env vars make step old new m t v at is came =
    subst (λ (l : StartLine). Came side env (made_of l env make) step new vars) (line_is side env vars old m t v at is) came

-- a part by what came of it
pub repart : (side : Side) (env : Env) (vars : Variables) (size : ℕ) (part : TargetPart) (pat : Pattern) (fmt : Fmt) (text held : List ℕ) (f g : Filled) (step : Stepped) (old new : List Block) (m t v : List ℕ)
    → IsAt side env old vars → request_in old ≡ Some (m, t, v) → text ≡ part_of part t → ((make : List ℕ → Result Env Why) → by_match size env pat fmt text make ≡ edited_by f held env make) → f ≡ g
    → Came side env (edited_by g held env (λ x. sent_to size env m (with_part part t x) v)) step new vars → Came side env (replace_part size part pat fmt env) step new vars
repart side env vars size part pat fmt text held f g step old new m t v at is same filled told came =
    asked side env vars (λ method target version. by_match size env pat fmt (part_of part target) (λ x. sent_to size env method (with_part part target x) version)) step old new m t v at is
    (subst (λ (p : List ℕ). Came side env (by_match size env pat fmt p (λ x. sent_to size env m (with_part part t x) v)) step new vars) same
    (subst (λ (r : Result Env Why). Came side env r step new vars)
    (sym (filled (λ x. sent_to size env m (with_part part t x) v) ∙ ap (λ (h : Filled). edited_by h held env (λ x. sent_to size env m (with_part part t x) v)) told)) came))
