-- Start lines in the blocks of a head.
use Rattle.std.proofs.Common.{◌≡◌, ℕ, List, ◌∷◌, ◌++◌, Bool, true, false, cond, sym, ap, ◌∙◌, subst}
use Rattle.std.specs.Prelude.{Option, Some, unwrap_or, Result, Err}
use Rattle.http_model.specs.declared.Why.{Why}
use Rattle.http_model.specs.declared.Why.TheVariants.{Bytes}
use Rattle.std.proofs.lemmas.Bool.{false≢true}
use Rattle.http_model.specs.Block.{Block}
use Rattle.http_model.specs.Head.{StartLine, RequestLine, StatusLine, line_block}
use Rattle.px_sample.specs.Variables.{Variables}
use Rattle.htx_view.specs.Lines.{request_in}
use Rattle.http_rules.specs.declared.action.side.Side.{Side}
use Rattle.http_rules.specs.declared.action.stepped.Stepped.{Stepped}
use Rattle.http_rules.specs.Action.Given.{Env}
use Rattle.http_rules.specs.Action.Edits.{edited}
use Rattle.http_rules.specs.Action.Lines.{made_of, on_request, with_line, is_target, sent_to, retargeted}
use Rattle.http_rules.specs.Action.Outcome.{IsAt, Came}

a_request : (line : StartLine) (rest : List Block) (m t v : List ℕ) → request_in (line_block line ∷ rest) ≡ Some (m, t, v) → line ≡ RequestLine m t v
a_request (RequestLine a b c) rest m t v is =
    let parts : (a, b, c) ≡ (m, t, v) = ap (λ (o : Option (List ℕ × List ℕ × List ℕ)). unwrap_or o (m, t, v)) is in
    ap (λ (x : List ℕ × List ℕ × List ℕ). RequestLine x.0 x.1 x.2) parts
a_request (StatusLine a b c) rest m t v is = absurd cc

-- the line of an environment whose blocks begin with a request line
pub line_is : (side : Side) (env : Env) (vars : Variables) (old : List Block) (m t v : List ℕ) → IsAt side env old vars → request_in old ≡ Some (m, t, v) → env.head.line ≡ RequestLine m t v
line_is side env vars old m t v at is = a_request env.head.line _ m t v (sym (ap request_in at.blocks_are) ∙ is)

-- what is made of the line is made of its parts
pub asked : (side : Side) (env : Env) (vars : Variables) (make : (method target version : List ℕ) → Result Env Why) (step : Stepped) (old new : List Block) (m t v : List ℕ)
    → IsAt side env old vars → request_in old ≡ Some (m, t, v) → Came side env (make m t v) step new vars → Came side env (on_request env make) step new vars
asked side env vars make step old new m t v at is came =
    subst (λ (l : StartLine). Came side env (made_of l env make) step new vars) (sym (line_is side env vars old m t v at is)) came

-- a target that was made is sent
pub sent : (side : Side) (env : Env) (vars : Variables) (size : ℕ) (make : List ℕ → List ℕ) (held : List ℕ) (step : Stepped) (old new : List Block) (m t v : List ℕ)
    → IsAt side env old vars → request_in old ≡ Some (m, t, v) → is_target (make t) ≡ true → held ≡ make t
    → Came side env (edited size env (with_line env.head (RequestLine m held v))) step new vars → Came side env (retargeted size env make) step new vars
sent side env vars size make held step old new m t v at is good made came =
    asked side env vars (λ method target version. sent_to size env method (make target) version) step old new m t v at is (by (is_target (make t)) good)
  where
    by : (b : Bool) → b ≡ true → Came side env (cond b (edited size env (with_line env.head (RequestLine m (make t) v))) (Err Bytes)) step new vars
    by true e = subst (λ (x : List ℕ). Came side env (edited size env (with_line env.head (RequestLine m x v))) step new vars) made came
    by false e = absurd (false≢true e)
