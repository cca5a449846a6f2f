-- Why a call of a link in memory fails.
use Rattle.std.proofs.Common.{◌≡◌, ℕ, true, false, ◌||◌, ◌&&◌, ◌==◌, ◌≤◌, ◌<◌, List, [], ◌∷◌, length, Option, Some, None, IfSome, if◌then◌else◌, refl, subst, rules, arith, min}
use Rattle.http_model.specs.declared.Ending.{Ending}
use Rattle.http_model.specs.declared.Ending.TheVariants.{Closed, Broke}
use Rattle.px_link.specs.Calls.{is_listed, fails_none}
use Rattle.px_link.specs.Link.{Takes, Untold, All, MayRefuse}
use Rattle.px_link.specs.MemLink.{limit_of, fitting, is_broken}

-- a number that is listed stands in a list that names some call
pub listed_some : (call : ℕ) (calls : List ℕ) → is_listed call calls ≡ true → fails_none calls ≡ true → ⊥
listed_some call [] listed empty = cc
listed_some call (first ∷ calls) listed empty = cc

-- where no byte of a piece fits, the link has taken all that it takes
pub full : (takes : Option ℕ) (written piece : List ℕ) → 0 < length piece → IfSome takes (λ n. length written ≤ n) → fitting takes written piece ≡ 0 → MayRefuse (limit_of takes) (length written)
full None written piece some within none = omega arith
full (Some n) written piece some within none = omega arith

-- what a write may refuse, by its list of numbers or by what fits
pub may_refuse : (takes : Option ℕ) (reads writes written piece : List ℕ) (call : ℕ) → 0 < length piece → IfSome takes (λ n. length written ≤ n) → (is_listed call writes || (fitting takes written piece == 0)) ≡ true → MayRefuse (if fails_none reads && fails_none writes then limit_of takes else Untold) (length written)
may_refuse takes [] [] written piece call some within fails = full takes written piece some within (search rules)
may_refuse takes (first ∷ reads) writes written piece call some within fails = tt
may_refuse takes [] (first ∷ writes) written piece call some within fails = tt

-- the same of each list that is what was written
pub may_refuse_each : (takes : Option ℕ) (reads writes written piece : List ℕ) (call : ℕ) → 0 < length piece → IfSome takes (λ n. length written ≤ n) → (is_listed call writes || (fitting takes written piece == 0)) ≡ true → (bytes : List ℕ) → bytes ≡ written → MayRefuse (if fails_none reads && fails_none writes then limit_of takes else Untold) (length bytes)
may_refuse_each takes reads writes written piece call some within fails bytes same = rw same (may_refuse takes reads writes written piece call some within fails)

-- a link that takes all refuses no write
pub never : (takes : Option ℕ) (reads writes written piece : List ℕ) (call : ℕ) → 0 < length piece → IfSome takes (λ n. length written ≤ n) → (is_listed call writes || (fitting takes written piece == 0)) ≡ true → (if fails_none reads && fails_none writes then limit_of takes else Untold) ≡ All → ⊥
never takes reads writes written piece call some within fails all =
    let P : Takes → Type 0 = λ t. MayRefuse t (length written) in subst P all (may_refuse takes reads writes written piece call some within fails)

-- what a plain link's failed read says
pub broke : (reads writes bytes : List ℕ) (ending : Ending) (call : ℕ) → (is_listed call reads || is_broken ending (length bytes)) ≡ true → (fails_none reads && fails_none writes) ≡ true → (bytes ≡ []) × (ending ≡ Broke)
broke [] writes [] Broke call fails plain = (refl, refl)
broke [] writes [] Closed call fails plain = cc
broke [] writes (byte ∷ bytes) Broke call fails plain = search rules
broke [] writes (byte ∷ bytes) Closed call fails plain = cc
broke (first ∷ reads) writes bytes ending call fails plain = cc

-- where a read does not fail and gives nothing, the stream has come to a closed end
pub closed_end : (reads bytes : List ℕ) (ending : Ending) (call room : ℕ) → (is_listed call reads || is_broken ending (length bytes)) ≡ false → 0 < room → min (length bytes) room ≡ 0 → (bytes ≡ []) × (ending ≡ Closed)
closed_end reads [] Closed call room fails some none = (refl, refl)
closed_end reads (byte ∷ bytes) Closed call room fails some none = absurd (omega arith)
closed_end reads bytes Broke call room fails some none = absurd (search rules)

pub ruleset refusals = (listed_some, full, may_refuse_each, never, broke, closed_end)
