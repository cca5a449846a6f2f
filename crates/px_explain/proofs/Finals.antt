-- What becomes of a server's final head that its rules passed.
use Rattle.std.proofs.Common.{inl, inr, ◌≡◌, ◌≤◌, ℕ, List, [], Bool, true, false, refl, sym, ap, subst, ◌∙◌}
use Rattle.std.specs.Prelude.{Option, Some, nat_le, ◌↔◌, not, ◌&&◌}
use Rattle.std.proofs.lemmas.Bool.{cases_Bool, le-leb, leb-true, false≢true}
use denote.Ref.{Bor}
use Rattle.std.proofs.lemmas.List.{append-nil}
use Rattle.http_model.specs.Block.{Block}
use Rattle.http_model.specs.Blocks.{load}
use Rattle.http_model.specs.declared.Framing.{Framing}
use Rattle.http_model.specs.Head.{Head, head_blocks, front_blocks}
use Rattle.http_model.specs.Finish.{finish_response, response_framing}
use Rattle.http_model.specs.Reading.{Received}
use Rattle.session_model.specs.Asking.{Asker}
use Rattle.session_model.specs.Answering.{declared_for, finished_response, response_fits, response_declares_too_much}
use Rattle.session_model.specs.Env.{Pass, Amended, Edited}
use Rattle.session_model.specs.Meaning.{declares_too_much, is_bodiless}
use Rattle.px_sample.specs.Variables.{Variables}
use Rattle.http_rules.specs.declared.config.Config.{Config}
use Rattle.http_rules.specs.declared.rule.rule.Rule.{Rule}
use Rattle.http_rules.specs.declared.action.side.Side.TheVariants.{Answer}
use Rattle.http_rules.specs.Action.Given.{Env}
use Rattle.http_rules.specs.Action.Outcome.{IsAt}
use Rattle.http_rules.specs.Rules.{Comes, rules_of, after_of, amended_by}
use Rattle.forward_core.specs.Meaning.Product.{filters_of, meaning_of, replaces}
use Rattle.px_explain.specs.declared.answering.Finish.{Finish}
use Rattle.px_explain.specs.declared.heads.Head.{Head as FoundHead}
use Rattle.px_explain.specs.declared.trace.Which.TheVariants.{After}
use Rattle.px_explain.specs.declared.walk.Walk.{Walk}
use Rattle.px_explain.specs.Shown.{Adds}
use Rattle.px_explain.specs.Told.{told}
use Rattle.px_explain.specs.Traced.{Traced, code_of, plain_code, answer_code, passed}
use Rattle.px_explain.specs.Walked.{Tells, IsMeant, IsLeft, Finishes}
use Rattle.px_explain.proofs.Methods.{head_alone}
use Rattle.px_explain.proofs.Replies.{Passed, BodyStays}

-- the head that rules left of one with no body behind it stands there alone
pub head_left : (size : ℕ) (rules : List Rule) (env left : Env) (blocks : List Block) → BodyStays → env.body ≡ [] → rules_of size rules env ≡ Pass left → blocks ≡ front_blocks left.head left.body → blocks ≡ head_blocks left.head
head_left size rules env left blocks stays alone passed is = head_alone blocks left.head left.body is (stays size rules env left passed ∙ alone)

-- what the rules of responses left stands there for those on all that the client is sent
pub left_at : (bor : Bor (List ℕ)) (asker : Asker) (env : Env) (walk : Walk) → bor.now ≡ walk.method.bytes → walk.method.bytes ≡ asker.method → IsLeft asker env walk → IsAt (Answer bor) env walk.msg.blocks walk.teller.vars
left_at bor asker env walk same is l =
    record {
      on = (l.answers, l.method ∙ (sym is ∙ sym same));
      blocks_are = l.blocks ∙ (sym (append-nil (head_blocks env.head)) ∙ ap (λ (b : List ℕ). front_blocks env.head b) (sym l.body));
      vars_are = l.vars;
    }

module _ (cfg : Config) (asker : Asker) (received : Received) (env : Env) where
  -- whether its declared length passes a limit, by what is kept of the head
  pub is_long : (head : FoundHead) (long : Bool) → IsMeant received head → long ≡ (declares_too_much (filters_of cfg.res_filters) head.declared && not (is_bodiless head.framing)) → response_declares_too_much (meaning_of cfg) received ≡ long
  is_long head long m is =
      sym (is ∙ (ap (λ (d : Option ℕ). declares_too_much (filters_of cfg.res_filters) d && not (is_bodiless head.framing)) m.declared
      ∙ ap (λ (f : Framing). declares_too_much (filters_of cfg.res_filters) received.declared && not (is_bodiless f)) m.framing))

  -- the rules on all that the client is sent ran on it
  pub amends : (old new : Walk) (answer : ℕ) → response_declares_too_much (meaning_of cfg) received ≡ false → Adds old.teller.trail new.teller.trail (told After cfg.limits.bufsize cfg.after env)
      → answer ≡ answer_code cfg asker received (after_of cfg.limits.bufsize cfg.after env) → Tells old new answer (passed cfg asker received env)
  amends old new answer e lines is =
      let same : passed cfg asker received env ≡ record { lines = told After cfg.limits.bufsize cfg.after env; answer = Some (answer_code cfg asker received (after_of cfg.limits.bufsize cfg.after env)) } = rw e refl in
      subst (λ (x : Traced). Tells old new answer x) (sym same) (record { lines = lines; status = ap (λ (n : ℕ). Some n) is })

  module _ (stays : BodyStays) (alone : env.body ≡ []) (blocks : List Block) (now : Variables) (p : Passed (rules_of cfg.limits.bufsize cfg.after env) blocks now) where
    edits : after_of cfg.limits.bufsize cfg.after env ≡ Edited p.left.head p.left.vars
    edits = ap (λ (c : Comes). amended_by c) p.is

    -- the head that they left stands there
    pub stands : blocks ≡ head_blocks p.left.head
    stands = head_left cfg.limits.bufsize cfg.after env p.left blocks stays alone p.is p.blocks_are

    module _ (finish : Finish) (f : Finishes cfg asker received finish) where
      finished : finish_response p.left.head finish.framing finish.declared finish.close ≡ finished_response (meaning_of cfg) asker received p.left.head
      finished =
          ap (λ (x : Framing). finish_response p.left.head x finish.declared finish.close) f.framing
          ∙ (ap (λ (x : Option ℕ). finish_response p.left.head (response_framing (replaces cfg.res_filters) asker.is_http_11 received.framing) x finish.close) f.declared
          ∙ ap (λ (x : Bool). finish_response p.left.head (response_framing (replaces cfg.res_filters) asker.is_http_11 received.framing) (declared_for (meaning_of cfg) asker received) x) f.close)

      -- whether it fits as it is finished
      pub fits_so : (size : ℕ) → size ≡ cfg.limits.bufsize → (fits : Bool) → ((fits ≡ true) ↔ (load (head_blocks (finish_response p.left.head finish.framing finish.declared finish.close)) ≤ size)) → response_fits (meaning_of cfg) asker received p.left.head ≡ fits
      fits_so size sized fits h =
          sym (ap (λ (x : Head). nat_le (load (head_blocks x)) cfg.limits.bufsize) finished) ∙ (ap (λ (n : ℕ). nat_le (load (head_blocks (finish_response p.left.head finish.framing finish.declared finish.close))) n) (sym sized) ∙ by fits h)
        where
          by : (b : Bool) → ((b ≡ true) ↔ (load (head_blocks (finish_response p.left.head finish.framing finish.declared finish.close)) ≤ size)) → nat_le (load (head_blocks (finish_response p.left.head finish.framing finish.declared finish.close))) size ≡ b
          by true k = le-leb (load (head_blocks (finish_response p.left.head finish.framing finish.declared finish.close))) size (k.0 refl)
          by false k =
              elim (cases_Bool (nat_le (load (head_blocks (finish_response p.left.head finish.framing finish.declared finish.close))) size)) [
                | inl within ↦ absurd (false≢true (k.1 (leb-true (load (head_blocks (finish_response p.left.head finish.framing finish.declared finish.close))) size within)))
                | inr past ↦ past
              ]

      -- it doesn't
      pub code_long : response_fits (meaning_of cfg) asker received p.left.head ≡ false → answer_code cfg asker received (after_of cfg.limits.bufsize cfg.after env) ≡ plain_code
      code_long tight = ap (λ (a : Amended Variables). answer_code cfg asker received a) edits ∙ rw tight refl

      -- it does
      pub code_sent : response_fits (meaning_of cfg) asker received p.left.head ≡ true → answer_code cfg asker received (after_of cfg.limits.bufsize cfg.after env) ≡ code_of p.left.head.line
      code_sent fit = ap (λ (a : Amended Variables). answer_code cfg asker received a) edits ∙ rw fit refl
