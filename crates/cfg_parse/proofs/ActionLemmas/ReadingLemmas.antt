-- Readings one behind the other.
use Rattle.std.proofs.Common.{◌≡◌, ℕ, Result, Ok, Err, ap, ◌∙◌, sym, subst}
use Rattle.px_pattern.specs.Refusals.{Kept}
use Rattle.cfg_expr.specs.Reading.{◌>>=◌, given_by, Cause, Fails}
use Rattle.cfg_expr.proofs.PublicLaws.{fails_behind, fails_first}
use Rattle.cfg_parse.specs.declared.action.fault.RuleKind.{RuleKind}
use Rattle.cfg_parse.specs.declared.action.fault.RuleFault.{RuleFault}
use Rattle.cfg_parse.specs.Action.Faults.{RuleReading, ReadsRule, cause_of}

-- what reads the rest reads the whole
pub reads_behind : {A B X : Type 0} (view : X → B) (whole : RuleReading B) (r : RuleReading A) (f : A → RuleReading B) (x : A) (before mid after : ℕ) (kept : Kept) (result : Result X RuleFault) →
    whole ≡ (r >>= f) → r.gives ≡ Ok x → mid ≡ before → ReadsRule view (f x) mid after kept result → ReadsRule view whole before after kept result
reads_behind {B = B} view whole r f x before mid after kept (Ok y) all is same h =
    let Q : RuleReading B → Type 0 = λ reading. (reading.gives ≡ Ok (view y)) × (after ≡ before) in
    subst Q (sym all) (ap (λ g. given_by g f) is ∙ h.0, h.1 ∙ same)
reads_behind {B = B} view whole r f x before mid after kept (Err fault) all is same h =
    let Q : RuleReading B → Type 0 = λ reading. Fails reading before after kept (cause_of fault) in
    subst Q (sym all) (fails_behind r f x before mid after kept (cause_of fault) is same h)

-- what fails first fails the whole
pub fails_whole : {A B : Type 0} (whole : RuleReading B) (r : RuleReading A) (f : A → RuleReading B) (before after : ℕ) (kept : Kept) (cause : Cause RuleKind) →
    whole ≡ (r >>= f) → Fails r before after kept cause → Fails whole before after kept cause
fails_whole {B = B} whole r f before after kept cause all fails =
    let Q : RuleReading B → Type 0 = λ reading. Fails reading before after kept cause in
    subst Q (sym all) (fails_first r f before after kept cause fails)
