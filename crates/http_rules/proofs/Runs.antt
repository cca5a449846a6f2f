-- A run of rules, rule by rule.
use Rattle.std.proofs.Common.{◌≡◌, ℕ, zero, suc, ◌+◌, ◌≤◌, List, [], ◌∷◌, Bool, true, false, cond, refl, sym, ap, ◌∙◌, subst, length, drop, arith, add-one}
use Rattle.std.specs.Prelude.{slice_get, Some, not, ◌&&◌}
use Rattle.std.specs.List.{AllByRecursion}
use Rattle.std.proofs.Math.ListN.{drop_of_length-le}
use Rattle.http_model.specs.declared.Why.{Why}
use Rattle.http_model.specs.Block.{Block}
use denote.Ref.{Bor}
use Rattle.std.proofs.lemmas.List.{append-nil}
use Rattle.http_model.specs.Head.{Head, head_blocks, front_blocks}
use Rattle.http_rules.specs.declared.rule.action.Direction.{Direction}
use Rattle.http_rules.specs.Rule.Valid.{IsGoodAction, IsGoodRule}
use Rattle.session_model.specs.Env.{Pass, Reply, Deny, Fail, request_env, response_env}
use Rattle.px_sample.specs.Variables.{Variables}
use Rattle.http_rules.specs.declared.rule.action.Action.{Action}
use Rattle.http_rules.specs.declared.rule.rule.Rule.{Rule}
use Rattle.http_rules.specs.Action.Given.{Env}
use Rattle.http_rules.specs.declared.action.side.Side.{Side}
use Rattle.http_rules.specs.declared.action.side.Side.TheVariants.{Request, Answer}
use Rattle.http_rules.specs.declared.action.act.Acted.{Acted}
use Rattle.http_rules.specs.declared.action.act.Acted.TheVariants as acted
use Rattle.http_rules.specs.Action.Acts.{Act, Next, Stop, Replies, Denies, Fails, act}
use Rattle.http_rules.specs.Action.Does.{Does}
use Rattle.http_rules.specs.Action.Outcome.{IsAt, IsOn, IsFront}
use Rattle.http_rules.specs.declared.verdict.Ruled.{Ruled}
use Rattle.http_rules.specs.declared.verdict.Ruled.TheVariants.{Goes, Ends}
use Rattle.http_rules.specs.declared.verdict.Verdict.{Verdict as Answered}
use Rattle.http_rules.specs.declared.verdict.Verdict.TheVariants as verdicts
use Rattle.http_rules.specs.Rules.{Comes, answers, mode_after, runs, behind, by_rule, walk, rules_of}
use Rattle.http_rules.specs.Run.{Leaves, GoesOn, EndsRules, RuleLeaves, ruled_by, told_by, IsHead}
use Rattle.http_rules.specs.declared.step.Step.{Step}
use Rattle.http_rules.specs.declared.step.Step.TheVariants as steps
use Rattle.http_rules.specs.Steps.{Course, Onward, Over, course_by, course_of}

-- a rule that does not run
pub passed_over : (side : Side) (size : ℕ) (rule : Rule) (strict : Bool) (env : Env) (blocks : List Block) (vars : Variables)
    → IsAt side env blocks vars → runs size rule.cond env ≡ false → RuleLeaves side size rule strict env (Goes steps.Passed strict) blocks vars
passed_over side size rule strict env blocks vars at off =
    record {
      next = env;
      at_next = at;
      course = ap (λ (t : Bool). cond t (course_by strict rule.action env (act size rule.action env)) (Onward steps.Passed strict env)) off;
      others = λ rest. ap (λ (t : Bool). cond t (behind strict rule.action env (act size rule.action env) rest) (rest strict env)) off;
    }

-- one that does
pub ran : (side : Side) (size : ℕ) (rule : Rule) (strict : Bool) (env : Env) (done : Acted) (blocks : List Block) (vars : Variables)
    → Does side env (act size rule.action env) done blocks vars → runs size rule.cond env ≡ true → RuleLeaves side size rule strict env (ruled_by strict rule.action done) blocks vars
ran side size rule strict env done blocks vars does on = by (act size rule.action env) done refl does
  where
    known : (o : Act) → act size rule.action env ≡ o → (rest : Bool → Env → Comes) → by_rule size rule strict env rest ≡ behind strict rule.action env o rest
    known o e rest =
        ap (λ (t : Bool). cond t (behind strict rule.action env (act size rule.action env) rest) (rest strict env)) on
        ∙ ap (λ (x : Act). behind strict rule.action env x rest) e

    taken : (o : Act) → act size rule.action env ≡ o → course_of size rule strict env ≡ course_by strict rule.action env o
    taken o e =
        ap (λ (t : Bool). cond t (course_by strict rule.action env (act size rule.action env)) (Onward steps.Passed strict env)) on
        ∙ ap (λ (x : Act). course_by strict rule.action env x) e

    failed : (t : Bool) (why told : Why) (left : Env) → (not strict && not (answers rule.action)) ≡ t → act size rule.action env ≡ Fails why left → told ≡ why → IsAt side left blocks vars
        → RuleLeaves side size rule strict env (cond t (Goes (steps.Skipped told) strict) (Ends (verdicts.Fail told))) blocks vars
    failed true why told left off e same at =
        record { next = left; at_next = at; course = taken (Fails why left) e ∙ ap (λ (t : Bool). cond t (Onward (steps.Skipped why) strict left) (Over (steps.Fail why) (Fail why left))) off ∙ ap (λ (w : Why). Onward (steps.Skipped w) strict left) (sym same); others = λ rest. known (Fails why left) e rest ∙ ap (λ (t : Bool). cond t (rest strict left) (Fail why left)) off }
    failed false why told left off e same at =
        record { comes = Fail why left; leaves = (same, at, refl); course = taken (Fails why left) e ∙ ap (λ (t : Bool). cond t (Onward (steps.Skipped why) strict left) (Over (steps.Fail why) (Fail why left))) off ∙ ap (λ (w : Why). Over (steps.Fail w) (Fail why left)) (sym same); whatever = λ rest. known (Fails why left) e rest ∙ ap (λ (t : Bool). cond t (rest strict left) (Fail why left)) off }

    by : (o : Act) (d : Acted) → act size rule.action env ≡ o → Does side env o d blocks vars → RuleLeaves side size rule strict env (ruled_by strict rule.action d) blocks vars
    by (Next next) acted.Next e h = record { next = next; at_next = h; course = taken (Next next) e; others = known (Next next) e }
    by Stop acted.Stop e h = record { comes = Pass env; leaves = (h, refl); course = taken Stop e; whatever = known Stop e }
    by (Denies code) (acted.Deny told) e h = record { comes = Deny code env; leaves = (h.0, h.1, refl); course = taken (Denies code) e ∙ ap (λ (n : ℕ). Over (steps.Deny n) (Deny code env)) (sym h.0); whatever = known (Denies code) e }
    by (Fails why left) (acted.Failed told) e h = failed (not strict && not (answers rule.action)) why told left refl e h.0 h.1
    by o d e h = absurd h

-- the rules from a place on begin with the one that stands there
drop_get : (rules : List Rule) (at : ℕ) (rule : Rule) → slice_get rules at ≡ Some rule → drop at rules ≡ rule ∷ drop (suc at) rules
drop_get [] at rule is = cc
drop_get (r ∷ rules) zero rule is = let same : r ≡ rule = cc in ap (λ (x : Rule). x ∷ rules) same
drop_get (r ∷ rules) (suc at) rule is = drop_get rules at rule is

-- what holds of each rule holds of the one at a place
pub at_place : (P : Rule → Type 0) (rules : List Rule) (at : ℕ) (rule : Rule) → slice_get rules at ≡ Some rule → AllByRecursion P rules → P rule
at_place P [] at rule is all = cc
at_place P (r ∷ rules) zero rule is all = let same : r ≡ rule = cc in subst P same all.0
at_place P (r ∷ rules) (suc at) rule is all = at_place P rules at rule is all.1

-- where a run stands: on an environment of which the rules that are left make what all make of the first
pub record Reached (side : Side) (size : ℕ) (rules : List Rule) (env : Env) (at : ℕ) (strict : Bool) (blocks : List Block) (vars : Variables) : Type 0 where
  pub now : Env
  pub at_now : IsAt side now blocks vars
  pub left : walk size (drop at rules) strict now ≡ rules_of size rules env

pub begins : (side : Side) (size : ℕ) (rules : List Rule) (env : Env) (blocks : List Block) (vars : Variables) → IsAt side env blocks vars → Reached side size rules env 0 true blocks vars
begins side size rules env blocks vars at = record { now = env; at_now = at; left = refl }

pub first_rule : (size : ℕ) (rules : List Rule) (at : ℕ) (rule : Rule) (strict : Bool) (now : Env) → slice_get rules at ≡ Some rule
    → walk size (drop at rules) strict now ≡ by_rule size rule strict now (walk size (drop (suc at) rules))
first_rule size rules at rule strict now is = ap (λ (rs : List Rule). walk size rs strict now) (drop_get rules at rule is)

-- a rule behind which the next one runs
pub goes_on : (side : Side) (size : ℕ) (rules : List Rule) (env : Env) (at : ℕ) (rule : Rule) (told : Step) (strict mode : Bool) (old new : List Block) (vars left_vars : Variables)
    → slice_get rules at ≡ Some rule → (r : Reached side size rules env at strict old vars) → RuleLeaves side size rule strict r.now (Goes told mode) new left_vars
    → Reached side size rules env (at + 1) mode new left_vars
goes_on side size rules env at rule told strict mode old new vars left_vars is r on =
    let same : at + 1 ≡ suc at = omega arith in
    record {
      now = on.next;
      at_now = on.at_next;
      left =
          ap (λ (n : ℕ). walk size (drop n rules) mode on.next) same ∙ sym (on.others (walk size (drop (suc at) rules)))
          ∙ sym (first_rule size rules at rule strict r.now is) ∙ r.left;
    }

-- one that decides
pub ends : (side : Side) (size : ℕ) (rules : List Rule) (env : Env) (at : ℕ) (rule : Rule) (strict : Bool) (verdict : Answered) (old new : List Block) (vars left_vars : Variables)
    → slice_get rules at ≡ Some rule → (r : Reached side size rules env at strict old vars) → RuleLeaves side size rule strict r.now (Ends verdict) new left_vars
    → Leaves side (rules_of size rules env) verdict new left_vars []
ends side size rules env at rule strict verdict old new vars left_vars is r over =
    let comes : over.comes ≡ rules_of size rules env = sym (over.whatever (walk size (drop (suc at) rules))) ∙ sym (first_rule size rules at rule strict r.now is) ∙ r.left in
    subst (λ (c : Comes). Leaves side c verdict new left_vars []) comes over.leaves

-- all rules have run
pub over : (side : Side) (size : ℕ) (rules : List Rule) (env : Env) (at : ℕ) (strict : Bool) (blocks : List Block) (vars : Variables)
    → length rules ≤ at → Reached side size rules env at strict blocks vars → Leaves side (rules_of size rules env) verdicts.Pass blocks vars []
over side size rules env at strict blocks vars all r =
    let comes : Pass r.now ≡ rules_of size rules env = sym (ap (λ (rs : List Rule). walk size rs strict r.now) (drop_of_length-le rules all)) ∙ r.left in
    subst (λ (c : Comes). Leaves side c verdicts.Pass blocks vars []) comes (r.at_now, refl)

-- an environment that an array holds
pub held : (side : Side) (blocks : List Block) (vars : Variables) → IsFront blocks → (env : Env) × IsAt side env blocks vars
held Request blocks vars front =
    (record { is_request = true; head = front.0; body = front.1; method = []; vars = vars }, record { on = refl; blocks_are = front.2; vars_are = refl })
held (Answer method) blocks vars front =
    (record { is_request = false; head = front.0; body = front.1; method = method.now; vars = vars }, record { on = (refl, refl); blocks_are = front.2; vars_are = refl })

-- what a run reached holds a head
pub front_of : (side : Side) (size : ℕ) (rules : List Rule) (env : Env) (at : ℕ) (strict : Bool) (blocks : List Block) (vars : Variables) → Reached side size rules env at strict blocks vars → IsFront blocks
front_of side size rules env at strict blocks vars r = (r.now.head, r.now.body, r.at_now.blocks_are)

-- a request's head, as its rules begin with it
pub on_request : (head : Head) (blocks : List Block) (vars : Variables) → blocks ≡ head_blocks head → IsAt Request (request_env vars head) blocks vars
on_request head blocks vars is = record { on = refl; blocks_are = is ∙ sym (append-nil (head_blocks head)); vars_are = refl }

-- the head of an answer
pub on_answer : (method : Bor (List ℕ)) (head : Head) (blocks : List Block) (vars : Variables) → blocks ≡ head_blocks head → IsAt (Answer method) (response_env vars method.now head) blocks vars
on_answer method head blocks vars is = record { on = (refl, refl); blocks_are = is ∙ sym (append-nil (head_blocks head)); vars_are = refl }

-- the head of an answer, with a body or none behind it
pub on_sent : (method : Bor (List ℕ)) (head : Head) (body : List ℕ) (blocks : List Block) (vars : Variables) → blocks ≡ front_blocks head body
    → IsAt (Answer method) (record { is_request = false; head = head; body = body; method = method.now; vars = vars }) blocks vars
on_sent method head body blocks vars is = record { on = (refl, refl); blocks_are = is; vars_are = refl }

-- the blocks of a head have no body behind them
pub head_front : (blocks : List Block) → IsHead blocks → IsFront blocks
head_front blocks h = (h.0, [], h.1 ∙ sym (append-nil (head_blocks h.0)))

-- the actions of rules that stand in a direction are good
pub good_actions : (direction : Direction) (rules : List Rule) → AllByRecursion (IsGoodRule direction) rules → AllByRecursion (λ (rule : Rule). IsGoodAction rule.action) rules
good_actions direction [] all = tt
good_actions direction (rule ∷ rules) all = (all.0.good, good_actions direction rules all.1)
