-- Lines by their parts: what a part of a line comes to, the line does.
use Rattle.std.proofs.Common.{◌≡◌, ℕ, List, Option, Some, None, Result, Ok, Err, ap, refl, sym, ◌∙◌}
use Rattle.px_pattern.specs.Refusals.{Kept}
use Rattle.cfg_expr.specs.Reading.{◌>>=◌, plain, given_by, Fails, kind_as}
use Rattle.cfg_expr.specs.Faults as text_faults
use Rattle.cfg_expr.specs.Faults.{TextReading}
use Rattle.cfg_expr.specs.declared.fault.TextFault.{TextFault}
use Rattle.cfg_expr.specs.declared.fault.TextFault.TheVariants as texts
use Rattle.cfg_expr.proofs.PublicLaws.{fails_first, fails_behind}
use Rattle.cfg_expr.specs.declared.condition.written.AclLine.{AclLine}
use Rattle.cfg_expr.specs.Condition.Conditions.{acl_line}
use Rattle.cfg_parse.specs.Action.Faults as rule_faults
use Rattle.cfg_parse.specs.Action.Faults.{RuleReading}
use Rattle.cfg_parse.specs.Action.Rules.{rule_of}
use Rattle.cfg_parse.specs.declared.action.fault.RuleFault.{RuleFault}
use Rattle.cfg_parse.specs.declared.action.fault.RuleFault.TheVariants as rules
use Rattle.http_rules.specs.declared.rule.action.Direction.{Direction}
use Rattle.http_rules.specs.declared.rule.rule.Rule.{Rule}
use Rattle.cfg_parse.specs.declared.draft.Draft.{Draft}
use Rattle.cfg_parse.specs.declared.fault.CfgKind.{CfgKind}
use Rattle.cfg_parse.specs.declared.fault.LineRefusal.{LineRefusal}
use Rattle.cfg_parse.specs.declared.fault.LineRefusal.TheVariants as refusals
use Rattle.cfg_parse.specs.Reading.{Leaves}
use Rattle.cfg_parse.specs.Asking.{of_text, of_rule, kind_of_text, kind_of_rule, refusal_of_text, refusal_of_rule, cause_of, LineReading, ReadsLine}
use Rattle.cfg_parse.specs.Rules.{rule_added, rule_line, acl_setting, with_forwarding, forwarding_line}
use Rattle.cfg_parse.specs.Pairs.{param_added, param_line}
use Rattle.cfg_parse.specs.Action.Params.{param_rule}
use Rattle.cfg_parse.specs.Action.Forwarding.{forwarding_rule}
use Rattle.cfg_parse.proofs.SoundLemmas.{section_left, bufsize_left, maxrewrite_left, mode_left, timeout_left, bind_left, server_left, filter_left, rule_left, acls_left, forwarding_left, docroot_left, index_left, script_left, param_left}

-- a line that asks for no pattern
pub reads_plainly : (result : Result (Unit {0}) LineRefusal) (left : Draft) (meaning : Result Draft CfgKind) (before after : ℕ) (kept : Kept) →
    Leaves result left meaning → after ≡ before → ReadsLine (λ nothing. left) (plain meaning) before after kept result
reads_plainly (Ok done) left meaning before after kept leaves same = (leaves, same)
reads_plainly (Err (refusals.Refused kind)) left meaning before after kept leaves same = (leaves, same)
reads_plainly (Err refusals.Pattern) left meaning before after kept leaves same = absurd leaves
reads_plainly (Err refusals.OutOfMemory) left meaning before after kept leaves same = same

-- ---- rules

-- as a rule fails, its line does
pub rule_fails_so : {A : Type 0} (r : RuleReading A) (before after : ℕ) (kept : Kept) (fault : RuleFault) →
    Fails r before after kept (rule_faults.cause_of fault) → Fails (of_rule r) before after kept (cause_of (refusal_of_rule fault))
rule_fails_so r before after kept (rules.Refused kind) h = (ap (λ gives. kind_as kind_of_rule gives) h.0, h.1)
rule_fails_so r before after kept rules.Pattern h = record { rose = h.rose; number = h.number; pattern = h.pattern; asked = h.asked; is_last = h.is_last }
rule_fails_so r before after kept rules.OutOfMemory h = h

pub rule_gives_so : {A : Type 0} (r : RuleReading A) (x : A) → r.gives ≡ Ok x → (of_rule r).gives ≡ Ok x
rule_gives_so r x is = ap (λ gives. kind_as kind_of_rule gives) is

-- a line whose rule was read
pub rule_line_reads : (draft left : Draft) (direction : Direction) (arguments : List (List ℕ)) (rule : Rule) (before after : ℕ) (kept : Kept) (result : Result (Unit {0}) LineRefusal) →
    (of_rule (rule_of direction draft.acls arguments)).gives ≡ Ok rule → after ≡ before → Leaves result left (rule_added draft direction rule) →
    ReadsLine (λ nothing. left) (rule_line draft direction arguments) before after kept result
unfolding rule_line
rule_line_reads draft left direction arguments rule before after kept (Ok done) is same leaves =
    (ap (λ g. given_by g (λ rule. plain (rule_added draft direction rule))) is ∙ leaves, same)
rule_line_reads draft left direction arguments rule before after kept (Err refusal) is same leaves =
    fails_behind (of_rule (rule_of direction draft.acls arguments)) (λ rule. plain (rule_added draft direction rule)) rule before after after kept (cause_of refusal) is same
    (reads_plainly (Err refusal) left (rule_added draft direction rule) after after kept leaves refl)

-- a line whose rule was not read
pub rule_line_fails : (draft : Draft) (direction : Direction) (arguments : List (List ℕ)) (before after : ℕ) (kept : Kept) (refusal : LineRefusal) →
    Fails (of_rule (rule_of direction draft.acls arguments)) before after kept (cause_of refusal) → Fails (rule_line draft direction arguments) before after kept (cause_of refusal)
unfolding rule_line
rule_line_fails draft direction arguments before after kept refusal fails =
    fails_first (of_rule (rule_of direction draft.acls arguments)) (λ rule. plain (rule_added draft direction rule)) before after kept (cause_of refusal) fails

-- an `option forwardfor` line whose rule was read
pub forwarding_reads : (draft left : Draft) (arguments : List (List ℕ)) (rule : Rule) → (of_rule (forwarding_rule arguments)).gives ≡ Ok rule → left ≡ with_forwarding draft rule → (forwarding_line draft arguments).gives ≡ Ok left
unfolding forwarding_line
forwarding_reads draft left arguments rule is put = ap (λ g. given_by g (λ rule. plain (Ok (with_forwarding draft rule)))) is ∙ ap (λ (d : Draft). Ok d) (sym put)

-- one whose rule was not read
pub forwarding_fails : (draft : Draft) (arguments : List (List ℕ)) (before after : ℕ) (kept : Kept) (refusal : LineRefusal) →
    Fails (of_rule (forwarding_rule arguments)) before after kept (cause_of refusal) → Fails (forwarding_line draft arguments) before after kept (cause_of refusal)
unfolding forwarding_line
forwarding_fails draft arguments before after kept refusal fails =
    fails_first (of_rule (forwarding_rule arguments)) (λ rule. plain (Ok (with_forwarding draft rule))) before after kept (cause_of refusal) fails

-- ---- pairs

-- a line whose pair and rule were read
pub param_line_reads : (draft left : Draft) (arguments : List (List ℕ)) (name : List ℕ) (rule : Rule) (before after : ℕ) (kept : Kept) (result : Result (Unit {0}) LineRefusal) →
    (of_rule (param_rule draft.acls arguments)).gives ≡ Ok (name, rule) → after ≡ before → Leaves result left (param_added draft name rule) →
    ReadsLine (λ nothing. left) (param_line draft arguments) before after kept result
unfolding param_line
param_line_reads draft left arguments name rule before after kept (Ok done) is same leaves =
    (ap (λ g. given_by g (λ found. plain (param_added draft found.0 found.1))) is ∙ leaves, same)
param_line_reads draft left arguments name rule before after kept (Err refusal) is same leaves =
    fails_behind (of_rule (param_rule draft.acls arguments)) (λ found. plain (param_added draft found.0 found.1)) (name, rule) before after after kept (cause_of refusal) is same
    (reads_plainly (Err refusal) left (param_added draft name rule) after after kept leaves refl)

-- a line whose pair or rule was not read
pub param_line_fails : (draft : Draft) (arguments : List (List ℕ)) (before after : ℕ) (kept : Kept) (refusal : LineRefusal) →
    Fails (of_rule (param_rule draft.acls arguments)) before after kept (cause_of refusal) → Fails (param_line draft arguments) before after kept (cause_of refusal)
unfolding param_line
param_line_fails draft arguments before after kept refusal fails =
    fails_first (of_rule (param_rule draft.acls arguments)) (λ found. plain (param_added draft found.0 found.1)) before after kept (cause_of refusal) fails

-- ---- acl lines

-- as a test fails, its line does
text_fails_so : {A : Type 0} (r : TextReading A) (before after : ℕ) (kept : Kept) (fault : TextFault) →
    Fails r before after kept (text_faults.cause_of fault) → Fails (of_text r) before after kept (cause_of (refusal_of_text fault))
text_fails_so r before after kept (texts.Refused kind) h = (ap (λ gives. kind_as kind_of_text gives) h.0, h.1)
text_fails_so r before after kept texts.Pattern h = record { rose = h.rose; number = h.number; pattern = h.pattern; asked = h.asked; is_last = h.is_last }
text_fails_so r before after kept texts.OutOfMemory h = h

-- a line whose test was read
pub acl_line_reads : (draft : Draft) (arguments : List (List ℕ)) (lines : List AclLine) →
    (acl_line draft.acls arguments).gives ≡ Ok lines → (acl_setting draft arguments).gives ≡ Ok (record draft { acls = lines })
unfolding acl_setting
acl_line_reads draft arguments lines is = ap (λ g. given_by (kind_as kind_of_text g) (λ lines. plain (Ok (record draft { acls = lines })))) is

-- a line whose test was not read
pub acl_line_fails : (draft : Draft) (arguments : List (List ℕ)) (before after : ℕ) (kept : Kept) (fault : TextFault) →
    Fails (acl_line draft.acls arguments) before after kept (text_faults.cause_of fault) → Fails (acl_setting draft arguments) before after kept (cause_of (refusal_of_text fault))
unfolding acl_setting
acl_line_fails draft arguments before after kept fault fails =
    fails_first (of_text (acl_line draft.acls arguments)) (λ lines. plain (Ok (record draft { acls = lines }))) before after kept (cause_of (refusal_of_text fault))
    (text_fails_so (acl_line draft.acls arguments) before after kept fault fails)

pub ruleset parts = (
  reads_plainly,
  rule_fails_so,
  rule_gives_so,
  rule_line_reads,
  rule_line_fails,
  forwarding_reads,
  forwarding_fails,
  param_line_reads,
  param_line_fails,
  acl_line_reads,
  acl_line_fails,
  section_left,
  bufsize_left,
  maxrewrite_left,
  mode_left,
  timeout_left,
  bind_left,
  server_left,
  filter_left,
  rule_left,
  acls_left,
  forwarding_left,
  docroot_left,
  index_left,
  script_left,
  param_left,
)
