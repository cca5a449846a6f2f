-- Rules are told of one by one.
use Rattle.std.proofs.Common.{◌≡◌, ℕ, zero, suc, ◌+◌, ◌≤◌, List, [], ◌∷◌, ◌++◌, Bool, true, false, refl, sym, ap, ◌∙◌, subst, length, drop, map, arith}
use Rattle.std.specs.Prelude.{slice_get, Option, Some}
use Rattle.std.proofs.Math.ListN.{drop_of_length-le}
use Rattle.std.proofs.lemmas.List.{append-nil, append_assoc}
use Rattle.http_model.specs.Block.{Block}
use Rattle.http_rules.specs.declared.rule.action.Action.{Action}
use Rattle.http_rules.specs.declared.rule.rule.Rule.{Rule}
use Rattle.http_rules.specs.declared.action.side.Side.{Side}
use Rattle.http_rules.specs.declared.action.side.Side.TheVariants.{Request, Answer}
use Rattle.http_rules.specs.declared.step.Step.{Step}
use Rattle.http_rules.specs.declared.turn.Turned.{Turned}
use Rattle.http_rules.specs.declared.turn.Turned.TheVariants.{Goes, Ends}
use Rattle.http_rules.specs.declared.verdict.Verdict.{Verdict}
use Rattle.http_rules.specs.declared.verdict.Verdict.TheVariants as verdicts
use Rattle.http_rules.specs.Action.Given.{Env}
use Rattle.http_rules.specs.Action.Outcome.{IsAt, IsFront}
use Rattle.http_rules.specs.Rules.{Comes, walk, rules_of}
use Rattle.http_rules.specs.Run.{Leaves}
use Rattle.http_rules.specs.Steps.{Course, Onward, Over, course_of, comes_behind, steps_behind, steps_from, steps_of}
use Rattle.http_rules.specs.Stepped.{StepLeaves}
use Rattle.session_model.specs.Env.{Pass, Reply, Deny, Fail}
use Rattle.http_model.specs.Head.{front_blocks}
use Rattle.htx_arena.specs.Layout.Contents.{Contents}
use Rattle.px_sample.specs.Variables.{Variables}
use Rattle.px_explain.specs.declared.trace.Which.{Which}
use Rattle.px_explain.specs.declared.trace.TraceLine.{TraceLine}
use Rattle.px_explain.specs.declared.telling.RuleList.{RuleList}
use Rattle.px_explain.specs.declared.walk.Teller.{Teller}
use Rattle.px_explain.specs.declared.trail.Trail.{Trail}
use Rattle.px_explain.specs.Entry.{TraceEntry, line_in}
use Rattle.px_explain.specs.Shown.{Adds}
use Rattle.px_explain.specs.Told.{line_of, lines_from, end_of, entry_of, entries_behind, entries_from, told, ToldOf}
use Rattle.px_explain.specs.Walked.{entry_in}
use Rattle.px_explain.specs.Wanted.{wanted_by, IsAsMeant}
use Rattle.px_explain.proofs.Shown.{adds_nothing, adds_more}

-- the rules from a place on begin with the one that stands there
drop_get : (rules : List Rule) (at : ℕ) (rule : Rule) → slice_get rules at ≡ Some rule → drop at rules ≡ rule ∷ drop (suc at) rules
drop_get [] at rule is = cc
drop_get (r ∷ rules) zero rule is = let same : r ≡ rule = cc in ap (λ (x : Rule). x ∷ rules) same
drop_get (r ∷ rules) (suc at) rule is = drop_get rules at rule is

-- an environment that an array holds
pub held : (side : Side) (blocks : List Block) (vars : Variables) → IsFront blocks → (env : Env) × IsAt side env blocks vars
held Request blocks vars front =
    (record { is_request = true; head = front.0; body = front.1; method = []; vars = vars }, record { on = refl; blocks_are = front.2; vars_are = refl })
held (Answer method) blocks vars front =
    (record { is_request = false; head = front.0; body = front.1; method = method.now; vars = vars }, record { on = (refl, refl); blocks_are = front.2; vars_are = refl })

-- the first of these rules comes so to what they come to
abbrev pub ByFirst : Type 0
ByFirst = (size : ℕ) (rule : Rule) (rules : List Rule) (strict : Bool) (env : Env) → walk size (rule ∷ rules) strict env ≡ comes_behind (course_of size rule strict env) (walk size rules)

-- what stands in the array and in the variables is the environment in which the rules end
leaves_left : (side : Side) (comes : Comes) (verdict : Verdict) (blocks reply : List Block) (vars : Variables) → Leaves side comes verdict blocks vars reply → IsAt side (end_of comes) blocks vars
leaves_left side (Pass left) verdicts.Pass blocks reply vars l = l.0
leaves_left side (Pass left) verdicts.Reply blocks reply vars l = absurd l
leaves_left side (Pass left) (verdicts.Deny code) blocks reply vars l = absurd l
leaves_left side (Pass left) (verdicts.Fail why) blocks reply vars l = absurd l
leaves_left side (Reply m left) verdicts.Pass blocks reply vars l = absurd l
leaves_left side (Reply m left) verdicts.Reply blocks reply vars l = l.0
leaves_left side (Reply m left) (verdicts.Deny code) blocks reply vars l = absurd l
leaves_left side (Reply m left) (verdicts.Fail why) blocks reply vars l = absurd l
leaves_left side (Deny code left) verdicts.Pass blocks reply vars l = absurd l
leaves_left side (Deny code left) verdicts.Reply blocks reply vars l = absurd l
leaves_left side (Deny code left) (verdicts.Deny told) blocks reply vars l = l.1
leaves_left side (Deny code left) (verdicts.Fail why) blocks reply vars l = absurd l
leaves_left side (Fail why left) verdicts.Pass blocks reply vars l = absurd l
leaves_left side (Fail why left) verdicts.Reply blocks reply vars l = absurd l
leaves_left side (Fail why left) (verdicts.Deny code) blocks reply vars l = absurd l
leaves_left side (Fail why left) (verdicts.Fail told) blocks reply vars l = l.1

-- what is left is a head with a body or none behind it
pub front_left : (side : Side) (course : Course) (turned : Turned) (blocks reply : List Block) (vars : Variables) → StepLeaves side course turned blocks vars reply → IsFront blocks
front_left side (Onward meant strict next) (Goes step mode) blocks reply vars l = (next.head, next.body, l.2.blocks_are)
front_left side (Onward meant strict next) (Ends step verdict) blocks reply vars l = absurd l
front_left side (Over meant comes) (Goes step mode) blocks reply vars l = absurd l
front_left side (Over meant comes) (Ends step verdict) blocks reply vars l = ((end_of comes).head, (end_of comes).body, (leaves_left side comes verdict blocks reply vars l.1).blocks_are)

-- the entry of a rule is that of its step and of the array that it left
same_entry : (which : Which) (at size : ℕ) (action : Action) (told meant : Step) (array : Contents) (left : Env) → told ≡ meant → array.size ≡ size → array.blocks ≡ front_blocks left.head left.body
    → entry_in (line_of which at told) (wanted_by told size action left) array ≡ entry_of which at size action meant left
same_entry which at size action told meant array left is sized blocks =
    λ i. record { line = line_of which at (is i); wanted = wanted_by (is i) size action left; size = sized i; left = blocks i }

-- what was told of a rule, where it is known to stand so
pub added : (trail mid next : Trail) (which : Which) (at : ℕ) (told step : Step) (needed : Option ℕ) (array : Contents) → mid ≡ trail → told ≡ step
    → ((meant : Option ℕ) → IsAsMeant mid.shows needed meant → Adds mid next (entry_in (line_of which at told) meant array ∷ []))
    → (meant : Option ℕ) → IsAsMeant trail.shows needed meant → Adds trail next (entry_in (line_of which at step) meant array ∷ [])
added trail mid next which at told step needed array same is one =
    subst (λ (s : Step). (meant : Option ℕ) → IsAsMeant trail.shows needed meant → Adds trail next (entry_in (line_of which at s) meant array ∷ [])) is
    (subst (λ (t : Trail). (meant : Option ℕ) → IsAsMeant t.shows needed meant → Adds t next (entry_in (line_of which at told) meant array ∷ [])) same one)

-- and what it would have needed
pub needs : (side : Side) (blocks : List Block) (vars : Variables) (shows : Bool) (needed : Option ℕ) (action : Action) (told step : Step) (a b : ℕ) → told ≡ step → a ≡ b
    → ((env : Env) → IsAt side env blocks vars → IsAsMeant shows needed (wanted_by told a action env))
    → (env : Env) → IsAt side env blocks vars → IsAsMeant shows needed (wanted_by step b action env)
needs side blocks vars shows needed action told step a b is sized h =
    subst (λ (s : Step). (env : Env) → IsAt side env blocks vars → IsAsMeant shows needed (wanted_by s b action env)) is
    (subst (λ (n : ℕ). (env : Env) → IsAt side env blocks vars → IsAsMeant shows needed (wanted_by told n action env)) sized h)

-- where the rules stand: on an environment of which those that are left make what all make of the first, and behind entries with which those of the others are those of all
pub record Reached (list : RuleList) (side : Side) (size : ℕ) (env : Env) (before : Trail) (at : ℕ) (strict : Bool) (trail : Trail) (blocks : List Block) (vars : Variables) : Type 0 where
  pub now : Env
  pub at_now : IsAt side now blocks vars
  pub left : walk size (drop at list.rules.now) strict now ≡ rules_of size list.rules.now env
  pub so_far : List TraceEntry
  pub adds : Adds before trail so_far
  pub entries_left : so_far ++ entries_from list.which at size (drop at list.rules.now) strict now ≡ told list.which size list.rules.now env

module _ (list : RuleList) (side : Side) (size : ℕ) (env : Env) (before : Trail) (at : ℕ) (rule : Rule) (strict : Bool) (trail : Trail) (old : List Block) (array : Contents) (vars left_vars : Variables)
    (first : ByFirst) (is : slice_get list.rules.now at ≡ Some rule) (sized : array.size ≡ size) (r : Reached list side size env before at strict trail old vars) where
  abbrev others : List Rule
  others = drop (at + 1) list.rules.now

  -- what is told of those behind it
  abbrev behind : Bool → Env → List TraceEntry
  behind mode next = entries_from list.which (at + 1) size others mode next

  front : drop at list.rules.now ≡ rule ∷ others
  front =
      let same : suc at ≡ at + 1 = omega arith in
      drop_get list.rules.now at rule is ∙ ap (λ (n : ℕ). rule ∷ drop n list.rules.now) same

  comes : comes_behind (course_of size rule strict r.now) (walk size others) ≡ rules_of size list.rules.now env
  comes = sym (first size rule others strict r.now) ∙ (sym (ap (λ (rs : List Rule). walk size rs strict r.now) front) ∙ r.left)

  entries : r.so_far ++ entries_behind list.which at size rule.action (course_of size rule strict r.now) behind ≡ told list.which size list.rules.now env
  entries = sym (ap (λ (rs : List Rule). r.so_far ++ entries_from list.which at size rs strict r.now) front) ∙ r.entries_left

  -- it is told behind what was told, with the load that it would have needed where that is told
  abbrev pub IsAdded : (step : Step) (needed : Option ℕ) (next_trail : Trail) → Type 0
  IsAdded step needed next_trail = (meant : Option ℕ) → IsAsMeant trail.shows needed meant → Adds trail next_trail (entry_in (line_of list.which at step) meant array ∷ [])

  -- that load is the one that it would have needed on what it left
  abbrev pub IsNeeded : (step : Step) (needed : Option ℕ) → Type 0
  IsNeeded step needed = (env : Env) → IsAt side env array.blocks left_vars → IsAsMeant trail.shows needed (wanted_by step size rule.action env)

  -- a rule behind which the next one runs
  pub goes_on : (step : Step) (mode : Bool) (reply : List Block) (needed : Option ℕ) (next_trail : Trail) → IsAdded step needed next_trail → IsNeeded step needed
      → StepLeaves side (course_of size rule strict r.now) (Goes step mode) array.blocks left_vars reply
      → (reply ≡ []) × Reached list side size env before (at + 1) mode next_trail array.blocks left_vars
  goes_on step mode reply needed next_trail one wants h = by (course_of size rule strict r.now) refl h
    where
      by : (c : Course) → course_of size rule strict r.now ≡ c → StepLeaves side c (Goes step mode) array.blocks left_vars reply
          → (reply ≡ []) × Reached list side size env before (at + 1) mode next_trail array.blocks left_vars
      by (Onward meant on next) e l =
          let entry : TraceEntry = entry_of list.which at size rule.action meant next in
          let same : entry_in (line_of list.which at step) (wanted_by step size rule.action next) array ≡ entry = same_entry list.which at size rule.action step meant array next l.0 sized l.2.blocks_are in
          let told_one = one (wanted_by step size rule.action next) (wants next l.2) in (
            l.3,
            record {
              now = next;
              at_now = l.2;
              left = ap (λ (m : Bool). walk size others m next) l.1 ∙ (sym (ap (λ (c : Course). comes_behind c (walk size others)) e) ∙ comes);
              so_far = r.so_far ++ entry ∷ [];
              adds = adds_more before trail next_trail r.so_far (entry ∷ []) r.adds (subst (λ (x : TraceEntry). Adds trail next_trail (x ∷ [])) same told_one);
              entries_left =
                  append_assoc r.so_far (entry ∷ []) (behind mode next)
                  ∙ (ap (λ (m : Bool). r.so_far ++ entry ∷ behind m next) l.1
                  ∙ (sym (ap (λ (c : Course). r.so_far ++ entries_behind list.which at size rule.action c behind) e) ∙ entries));
            },
          )
      by (Over meant _) e l = absurd l

  -- one that decides
  pub ends : (step : Step) (verdict : Verdict) (reply : List Block) (needed : Option ℕ) (start teller : Teller) → start.trail ≡ before → teller.vars ≡ left_vars
      → IsAdded step needed teller.trail → IsNeeded step needed
      → StepLeaves side (course_of size rule strict r.now) (Ends step verdict) array.blocks left_vars reply → ToldOf list side size env start verdict teller array.blocks reply
  ends step verdict reply needed start teller starts vars_are one wants h = by (course_of size rule strict r.now) refl h
    where
      by : (c : Course) → course_of size rule strict r.now ≡ c → StepLeaves side c (Ends step verdict) array.blocks left_vars reply → ToldOf list side size env start verdict teller array.blocks reply
      by (Over meant over) e l =
          let entry : TraceEntry = entry_of list.which at size rule.action meant (end_of over) in
          let left : IsAt side (end_of over) array.blocks left_vars = leaves_left side over verdict array.blocks reply left_vars l.1 in
          let same : entry_in (line_of list.which at step) (wanted_by step size rule.action (end_of over)) array ≡ entry = same_entry list.which at size rule.action step meant array (end_of over) l.0 sized left.blocks_are in
          let told_one = one (wanted_by step size rule.action (end_of over)) (wants (end_of over) left) in
          let comes_so : over ≡ rules_of size list.rules.now env = sym (ap (λ (c : Course). comes_behind c (walk size others)) e) ∙ comes in
          let all : r.so_far ++ entry ∷ [] ≡ told list.which size list.rules.now env = sym (ap (λ (c : Course). r.so_far ++ entries_behind list.which at size rule.action c behind) e) ∙ entries in
          record {
            lines =
                subst (λ (t : Trail). Adds t teller.trail (told list.which size list.rules.now env)) (sym starts)
                (subst (λ (xs : List TraceEntry). Adds before teller.trail xs) all
                (adds_more before trail teller.trail r.so_far (entry ∷ []) r.adds (subst (λ (x : TraceEntry). Adds trail teller.trail (x ∷ [])) same told_one)));
            leaves = subst (λ (v : Variables). Leaves side (rules_of size list.rules.now env) verdict array.blocks v reply) (sym vars_are)
                (subst (λ (c : Comes). Leaves side c verdict array.blocks left_vars reply) comes_so l.1);
          }
      by (Onward meant on next) e l = absurd l

-- all rules have run
pub over : (list : RuleList) (side : Side) (size : ℕ) (env : Env) (start : Teller) (at : ℕ) (strict : Bool) (teller : Teller) (blocks reply : List Block)
    → length list.rules.now ≤ at → reply ≡ [] → Reached list side size env start.trail at strict teller.trail blocks teller.vars → ToldOf list side size env start verdicts.Pass teller blocks reply
over list side size env start at strict teller blocks reply all silent r =
    let none : drop at list.rules.now ≡ [] = drop_of_length-le list.rules.now all in
    let comes : Pass r.now ≡ rules_of size list.rules.now env = sym (ap (λ (rs : List Rule). walk size rs strict r.now) none) ∙ r.left in
    let all_told : r.so_far ≡ told list.which size list.rules.now env =
    sym (append-nil r.so_far) ∙ (sym (ap (λ (rs : List Rule). r.so_far ++ entries_from list.which at size rs strict r.now) none) ∙ r.entries_left) in
    record {
      lines = subst (λ (xs : List TraceEntry). Adds start.trail teller.trail xs) all_told r.adds;
      leaves = subst (λ (c : Comes). Leaves side c verdicts.Pass blocks teller.vars reply) comes (r.at_now, silent);
    }

-- ---- the lines of a list are those of its steps

module _ (which : Which) (size : ℕ) where
  lines_behind : (at : ℕ) (action : Action) (c : Course) (behind : Bool → Env → List TraceEntry) (steps : Bool → Env → List Step) → ((strict : Bool) (env : Env) → map line_in (behind strict env) ≡ lines_from which (at + 1) (steps strict env))
      → map line_in (entries_behind which at size action c behind) ≡ lines_from which at (steps_behind c steps)
  lines_behind at action (Onward meant strict next) _ steps h = ap (λ (ls : List TraceLine). line_of which at meant ∷ ls) (h strict next)
  lines_behind at action (Over meant _) _ steps h = refl

  lines_of_rules : (at : ℕ) (rules : List Rule) (strict : Bool) (env : Env) → map line_in (entries_from which at size rules strict env) ≡ lines_from which at (steps_from size rules strict env)
  lines_of_rules at [] strict env = refl
  lines_of_rules at (rule ∷ rules) strict env = lines_behind at rule.action (course_of size rule strict env) (entries_from which (at + 1) size rules) (steps_from size rules) (lines_of_rules (at + 1) rules)

  pub lines_are_steps : (rules : List Rule) (env : Env) → map line_in (told which size rules env) ≡ lines_from which 0 (steps_of size rules env)
  lines_are_steps rules env = lines_of_rules 0 rules true env
