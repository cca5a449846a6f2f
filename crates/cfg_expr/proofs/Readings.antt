-- What is left of a reading, step by step.
use Rattle.std.proofs.Common.{◌≡◌, ℕ, zero, suc, List, [], ◌∷◌, ◌++◌, Some, Ok, ap, ◌∙◌, subst, refl, arith}
use Rattle.std.specs.Prelude.{slice_get}
use Rattle.std.proofs.lemmas.Option.{slice_get_within}
use Rattle.px_pattern.specs.Pattern.{Pattern}
use Rattle.px_pattern.specs.Refusals.{Kept, Rose}
use Rattle.cfg_expr.specs.Reading.{Reading, ◌>>=◌, given_by, asked_by, Cause, Refused, Unbuilt, NoMemory, Fails}

-- what stands in a list stands behind another too
pub found_behind : {A : Type 0} (xs ys : List A) (n : ℕ) (x : A) → slice_get ys n ≡ Some x → (m : ℕ) × (slice_get (xs ++ ys) m ≡ Some x)
found_behind [] ys n x h = (n, h)
found_behind (y ∷ xs) ys n x h = let later = found_behind xs ys n x h in (suc later.0, later.1)

pub found_before : {A : Type 0} (xs ys : List A) (n : ℕ) (x : A) → slice_get xs n ≡ Some x → (m : ℕ) × (slice_get (xs ++ ys) m ≡ Some x)
found_before [] ys n x h = let never : ⊥ = omega (arith, slice_get_within [] n x h) in absurd never
found_before (y ∷ xs) ys zero x h = (0, h)
found_before (y ∷ xs) ys (suc n) x h = let later = found_before xs ys n x h in (suc later.0, later.1)

-- what is left gives what all gives, and asks for nothing that all does not ask for
pub record Leads {K A : Type 0} (all left : Reading K A) : Type 0 where
  pub gives : all.gives ≡ left.gives
  pub asks : (n : ℕ) (p : Pattern) → slice_get left.asks n ≡ Some p → (m : ℕ) × (slice_get all.asks m ≡ Some p)

pub leads_begin : {K A : Type 0} (all : Reading K A) → Leads all all
leads_begin all = record { gives = refl; asks = λ n p h. (n, h) }

-- a step that gave a value leads on
pub leads_on : {K A B : Type 0} (all : Reading K B) (r : Reading K A) (f : A → Reading K B) (x : A) → r.gives ≡ Ok x → Leads all (r >>= f) → Leads all (f x)
leads_on all r f x is h = record {
  gives = h.gives ∙ ap (λ g. given_by g f) is;
  asks = λ n p found.
      let inside : slice_get (asked_by r.gives f) n ≡ Some p = ap (λ g. slice_get (asked_by g f) n) is ∙ found in
      let behind = found_behind r.asks (asked_by r.gives f) n p inside in
      h.asks behind.0 p behind.1;
}

-- as what is left fails, all fails
pub fails_left : {K A : Type 0} (all left : Reading K A) (before mid after : ℕ) (kept : Kept) (cause : Cause K) →
    Leads all left → mid ≡ before → Fails left mid after kept cause → Fails all before after kept cause
fails_left all left before mid after kept (Refused kind) h same fails = (h.gives ∙ fails.0, fails.1 ∙ same)
fails_left all left before mid after kept Unbuilt h same fails =
    let found = h.asks fails.number fails.pattern fails.asked in
    record {
      rose = subst (λ n. Rose n after) same fails.rose;
      number = found.0;
      pattern = fails.pattern;
      asked = found.1;
      is_last = fails.is_last;
    }
fails_left all left before mid after kept NoMemory h same fails = fails ∙ same

-- a failing step fails what begins with it
pub fails_first : {K A B : Type 0} (r : Reading K A) (f : A → Reading K B) (before after : ℕ) (kept : Kept) (cause : Cause K) →
    Fails r before after kept cause → Fails (r >>= f) before after kept cause
fails_first r f before after kept (Refused kind) h = (ap (λ g. given_by g f) h.0, h.1)
fails_first r f before after kept Unbuilt h =
    let found = found_before r.asks (asked_by r.gives f) h.number h.pattern h.asked in
    record { rose = h.rose; number = found.0; pattern = h.pattern; asked = found.1; is_last = h.is_last }
fails_first r f before after kept NoMemory h = h

-- a failing step fails all that leads to it
pub leads_out : {K A B : Type 0} (all : Reading K B) (r : Reading K A) (f : A → Reading K B) (before mid after : ℕ) (kept : Kept) (cause : Cause K) →
    Leads all (r >>= f) → mid ≡ before → Fails r mid after kept cause → Fails all before after kept cause
leads_out all r f before mid after kept cause h same fails =
    fails_left all (r >>= f) before mid after kept cause h same (fails_first r f mid after kept cause fails)

-- a step that gave a value, and the next one that failed
pub fails_behind : {K A B : Type 0} (r : Reading K A) (f : A → Reading K B) (x : A) (before mid after : ℕ) (kept : Kept) (cause : Cause K) →
    r.gives ≡ Ok x → mid ≡ before → Fails (f x) mid after kept cause → Fails (r >>= f) before after kept cause
fails_behind r f x before mid after kept cause is same fails =
    fails_left (r >>= f) (f x) before mid after kept cause (leads_on (r >>= f) r f x is (leads_begin (r >>= f))) same fails
