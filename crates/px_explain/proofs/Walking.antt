-- What is told while an exchange is walked through.
use Rattle.std.proofs.Common.{◌≡◌, ℕ, List, [], refl, sym, ap, subst, ◌∙◌}
use Rattle.std.proofs.lemmas.List.{append-nil}
use denote.Ref.{Bor}
use Rattle.http_model.specs.Block.{Block}
use Rattle.http_model.specs.declared.Why.{Why}
use Rattle.http_model.specs.Head.{Head, Message, head_blocks, message_blocks}
use Rattle.session_model.specs.Env.{Pass, Reply, Deny, Fail, request_env, response_env}
use Rattle.px_sample.specs.Variables.{Variables}
use Rattle.http_rules.specs.declared.config.Config.{Config}
use Rattle.http_rules.specs.declared.action.side.Side.{Side}
use Rattle.http_rules.specs.declared.action.side.Side.TheVariants.{Request, Answer}
use Rattle.http_rules.specs.declared.verdict.Verdict.{Verdict}
use Rattle.http_rules.specs.declared.verdict.Verdict.TheVariants as verdicts
use Rattle.http_rules.specs.Action.Given.{Env}
use Rattle.http_rules.specs.Action.Outcome.{IsAt}
use Rattle.http_rules.specs.Rules.{Comes}
use Rattle.http_rules.specs.Run.{Leaves}
use Rattle.px_explain.specs.declared.telling.RuleList.{RuleList}
use Rattle.px_explain.specs.declared.walk.Teller.{Teller}
use Rattle.px_explain.specs.declared.walk.Walk.{Walk}
use Rattle.px_explain.specs.Entry.{TraceEntry}
use Rattle.px_explain.specs.Shown.{Adds}
use Rattle.px_explain.specs.Told.{ToldOf}
use Rattle.px_explain.specs.Traced.{Traced, behind_lines, refused, replied}
use Rattle.px_explain.specs.Walked.{Tells}
use Rattle.px_explain.proofs.Shown.{adds_more}

-- more was told behind lines
pub tells_behind : (old mid new : Walk) (answer : ℕ) (lines : List TraceEntry) (rest : Traced) → Adds old.teller.trail mid.teller.trail lines → Tells mid new answer rest → Tells old new answer (behind_lines lines rest)
tells_behind old mid new answer lines rest e t =
    record { lines = adds_more old.teller.trail mid.teller.trail new.teller.trail lines rest.lines e t.lines; status = t.status }

-- a refusal of the same method and variables
pub refused_as : (cfg : Config) (old new : Walk) (answer code : ℕ) (method asked : List ℕ) (vars now : Variables) → method ≡ asked → vars ≡ now → Tells old new answer (refused cfg code method vars) → Tells old new answer (refused cfg code asked now)
refused_as cfg old new answer code method asked vars now m v t =
    subst (λ (x : Variables). Tells old new answer (refused cfg code asked x)) v (subst (λ (x : List ℕ). Tells old new answer (refused cfg code x vars)) m t)

-- a reply
pub replied_as : (cfg : Config) (old new : Walk) (answer : ℕ) (m : Message) (method asked : List ℕ) (vars now : Variables) → method ≡ asked → vars ≡ now → Tells old new answer (replied cfg m method vars) → Tells old new answer (replied cfg m asked now)
replied_as cfg old new answer message method asked vars now m v t =
    subst (λ (x : Variables). Tells old new answer (replied cfg message asked x)) v (subst (λ (x : List ℕ). Tells old new answer (replied cfg message x vars)) m t)

-- what rules were told of, by the size of the arrays and the verdict
pub told_so : (a b : ℕ) (list : RuleList) (side : Side) (env : Env) (before : Teller) (verdict is : Verdict) (teller : Teller) (blocks reply : List Block) → a ≡ b → verdict ≡ is
    → ToldOf list side a env before verdict teller blocks reply → ToldOf list side b env before is teller blocks reply
told_so a b list side env before verdict is teller blocks reply sized same t =
    subst (λ (v : Verdict). ToldOf list side b env before v teller blocks reply) same (subst (λ (n : ℕ). ToldOf list side n env before verdict teller blocks reply) sized t)

-- ---- a head stands in an array for its rules

pub answer_at : (bor : Bor (List ℕ)) (method : List ℕ) (head : Head) (vars : Variables) (blocks : List Block) → bor.now ≡ method → blocks ≡ head_blocks head → IsAt (Answer bor) (response_env vars method head) blocks vars
answer_at bor method head vars blocks same is = record { on = (refl, sym same); blocks_are = is ∙ sym (append-nil (head_blocks head)); vars_are = refl }

pub request_at : (head : Head) (vars : Variables) (blocks : List Block) → blocks ≡ head_blocks head → IsAt Request (request_env vars head) blocks vars
request_at head vars blocks is = record { on = refl; blocks_are = is ∙ sym (append-nil (head_blocks head)); vars_are = refl }

-- ---- what rules came to, by their verdict

-- this on an environment that stands in the array
pub record Left (side : Side) (comes : Comes) (by : Env → Comes) (blocks : List Block) (vars : Variables) : Type 0 where
  pub left : Env
  pub is : comes ≡ by left
  pub at : IsAt side left blocks vars

pub passes : (side : Side) (comes : Comes) (blocks reply : List Block) (vars : Variables) → Leaves side comes verdicts.Pass blocks vars reply → Left side comes (λ left. Pass left) blocks vars
passes side (Pass left) blocks reply vars h = record { left = left; is = refl; at = h.0 }
passes side (Reply m left) blocks reply vars h = absurd h
passes side (Deny code left) blocks reply vars h = absurd h
passes side (Fail why left) blocks reply vars h = absurd h

-- no reply stands there
pub passes_silent : (side : Side) (comes : Comes) (blocks reply : List Block) (vars : Variables) → Leaves side comes verdicts.Pass blocks vars reply → reply ≡ []
passes_silent side (Pass left) blocks reply vars h = h.1
passes_silent side (Reply m left) blocks reply vars h = absurd h
passes_silent side (Deny code left) blocks reply vars h = absurd h
passes_silent side (Fail why left) blocks reply vars h = absurd h

pub denies : (side : Side) (comes : Comes) (told : ℕ) (blocks reply : List Block) (vars : Variables) → Leaves side comes (verdicts.Deny told) blocks vars reply → Left side comes (λ left. Deny told left) blocks vars
denies side (Pass left) told blocks reply vars h = absurd h
denies side (Reply m left) told blocks reply vars h = absurd h
denies side (Deny code left) told blocks reply vars h = record { left = left; is = ap (λ (x : ℕ). Deny x left) (sym h.0); at = h.1 }
denies side (Fail why left) told blocks reply vars h = absurd h

pub fails : (side : Side) (comes : Comes) (told : Why) (blocks reply : List Block) (vars : Variables) → Leaves side comes (verdicts.Fail told) blocks vars reply → Left side comes (λ left. Fail told left) blocks vars
fails side (Pass left) told blocks reply vars h = absurd h
fails side (Reply m left) told blocks reply vars h = absurd h
fails side (Deny code left) told blocks reply vars h = absurd h
fails side (Fail why left) told blocks reply vars h = record { left = left; is = ap (λ (x : Why). Fail x left) (sym h.0); at = h.1 }

-- a reply, which stands to be said
pub record LeftReply (side : Side) (comes : Comes) (blocks reply : List Block) (vars : Variables) : Type 0 where
  pub message : Message
  pub left : Env
  pub is : comes ≡ Reply message left
  pub at : IsAt side left blocks vars
  pub stands : reply ≡ message_blocks message

pub replies : (side : Side) (comes : Comes) (blocks reply : List Block) (vars : Variables) → Leaves side comes verdicts.Reply blocks vars reply → LeftReply side comes blocks reply vars
replies side (Pass left) blocks reply vars h = absurd h
replies side (Reply m left) blocks reply vars h = record { message = m; left = left; is = refl; at = h.0; stands = h.1 }
replies side (Deny code left) blocks reply vars h = absurd h
replies side (Fail why left) blocks reply vars h = absurd h
