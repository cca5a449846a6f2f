-- A refusal on which no rule runs is within each buffer.
use Rattle.std.proofs.Common.{◌≡◌, ℕ, ◌+◌, ◌≤◌, ◌<◌, ◌⊎◌, inl, inr, List, ◌++◌, Bool, true, false, refl, sym, ap, subst, arith, lit<, length, length-append}
use Rattle.std.specs.Prelude.{decimal}
use Rattle.std.proofs.lemmas.Fmt.{length-decimal-le}
use Rattle.http_model.specs.Refusal.{reason_of, refusal_body, refusal, closing}
use Rattle.http_model.specs.Spelling.{head_text, SpellsBodyUnless}
use Rattle.session_core.specs.MeaningLaws.Bound.{IsShort}

body_size : (code : ℕ) → length (refusal_body code) ≡ 37 + (length (decimal code) + length (reason_of code))
unfolding refusal_body
body_size code = simp length-append (omega arith)

-- the head tells the code, its reason, and how long the page is
head_size : (code : ℕ) → length (head_text (closing (refusal code)).head) ≤ 200 + (length (decimal code) + (length (reason_of code) + length (decimal (length (refusal_body code)))))
head_size code = simp length-append (omega arith)

-- the page, or nothing where no body is asked for
page_size : (no_body : Bool) (code : ℕ) (body : List ℕ) → SpellsBodyUnless no_body true (closing (refusal code)) body → length body ≤ length (refusal_body code)
page_size true code body e = let same : length body ≡ 0 = ap (λ (t : List ℕ). length t) e in omega (arith, same)
page_size false code body e = let same : length body ≡ length (refusal_body code) = ap (λ (t : List ℕ). length t) e in omega (arith, same)

short_where : (limit code : ℕ) → 1024 ≤ limit → code < 1000 → length (reason_of code) ≤ 40 → IsShort limit code
short_where limit code least low reason no_body text spells =
    let digits = length-decimal-le 3 code (lit< tt) (omega (arith, low)) (omega (arith, low)) in
    let page = body_size code in
    let size = length-decimal-le 3 (length (refusal_body code)) (lit< tt) (omega (arith, page, digits, reason)) (omega (arith, page, digits, reason)) in
    let head = head_size code in
    let body = page_size no_body code spells.body spells.spells_body in
    let joined : length text ≡ length (head_text (closing (refusal code)).head ++ spells.body) = ap (λ (t : List ℕ). length t) spells.spelled in
    let parts = length-append (head_text (closing (refusal code)).head) spells.body in
    omega (arith, least, digits, reason, page, size, head, body, joined, parts)

-- ---- the codes

reason_400 : length (reason_of 400) ≡ 11
unfolding reason_of
reason_400 = refl

reason_403 : length (reason_of 403) ≡ 9
unfolding reason_of
reason_403 = refl

reason_413 : length (reason_of 413) ≡ 17
unfolding reason_of
reason_413 = refl

reason_500 : length (reason_of 500) ≡ 21
unfolding reason_of
reason_500 = refl

-- of a request that is malformed
pub malformed_short : (limit : ℕ) → 1024 ≤ limit → IsShort limit 400
malformed_short limit least = short_where limit 400 least (omega arith) (omega (arith, reason_400))

-- of a reply that does not fit
pub plain_short : (limit : ℕ) → 1024 ≤ limit → IsShort limit 500
plain_short limit least = short_where limit 500 least (omega arith) (omega (arith, reason_500))

-- of a body that a filter refuses
pub filtered_short : (limit code : ℕ) → 1024 ≤ limit → (code ≡ 403) ⊎ (code ≡ 413) → IsShort limit code
filtered_short limit code least (inl e) = subst (IsShort limit) (sym e) (short_where limit 403 least (omega arith) (omega (arith, reason_403)))
filtered_short limit code least (inr e) = subst (IsShort limit) (sym e) (short_where limit 413 least (omega arith) (omega (arith, reason_413)))
