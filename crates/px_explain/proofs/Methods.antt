-- The method of a head that stands in an array.
use Rattle.std.proofs.Common.{◌≡◌, ℕ, ◌+◌, ◌≤◌, List, [], ◌∷◌, ◌++◌, ◌↔◌, length, Bool, Option, Some, None, refl, ap, ◌∙◌, append-nil, arith}
use Rattle.std.proofs.lemmas.List.Sums.{sum_by-cons}
use Rattle.std.specs.Bool.{IsTrue, OnTrue}
use Rattle.std.proofs.lemmas.Bool.{OnTrue_at}
use Rattle.htx_model.specs.Block.{Block, RequestLine, weight}
use Rattle.htx_model.specs.Blocks.{load}
use Rattle.htx_view.specs.Lines.{request_in}
use Rattle.http_model.specs.Head.{StartLine, Head, Field, head_blocks, front_blocks}
use Rattle.http_model.specs.Head as line
use Rattle.session_model.specs.Env.{method_of}
use Rattle.px_explain.specs.Walked.{method_by}
use Rattle.px_explain.specs.Walked as held

-- it is no longer than the array
method_fits : (blocks : List Block) (room size cap : ℕ) → room + load blocks ≡ size → size ≤ cap → length (held.method_in blocks) ≤ cap
method_fits [] room size cap e h = omega arith
method_fits (RequestLine a b d ∷ rest) room size cap e h = omega (arith, sum_by-cons weight (RequestLine a b d) rest)
method_fits (x ∷ rest) room size cap e h = omega arith

-- it is the one in the line of the head
method_front_of : (start : StartLine) (fields : List Field) (body : List ℕ) → held.method_in (front_blocks (record { line = start; fields = fields }) body) ≡ method_of start
method_front_of (line.RequestLine method target version) fields body = refl
method_front_of (line.StatusLine version status reason) fields body = refl

pub method_front : (blocks : List Block) (head : Head) (body : List ℕ) → blocks ≡ front_blocks head body → held.method_in blocks ≡ method_of head.line
method_front blocks head body is = ap (λ (xs : List Block). held.method_in xs) is ∙ method_front_of head.line head.fields body

-- a head alone has no body behind it
pub head_alone : (blocks : List Block) (head : Head) (body : List ℕ) → blocks ≡ front_blocks head body → body ≡ [] → blocks ≡ head_blocks head
head_alone blocks head body is none = is ∙ ap (λ (xs : List ℕ). front_blocks head xs) none ∙ append-nil (head_blocks head)

-- it is kept in a buffer of that size
pub method_pushed : (blocks : List Block) (a b d : List ℕ) (room size cap : ℕ) (was kept : List ℕ) (fits : Bool) → Some (a, b, d) ≡ request_in blocks → room + load blocks ≡ size → size ≤ cap → was ≡ []
    → (IsTrue fits ↔ (length was + length a ≤ cap)) → OnTrue fits (kept ≡ was ++ a) → kept ≡ held.method_in blocks
method_pushed blocks a b d room size cap was kept fits line e h none decides pushed =
    let is : a ≡ held.method_in blocks = ap (λ (x : Option (List ℕ × List ℕ × List ℕ)). method_by x) line in
    let within : length (held.method_in blocks) ≤ cap = method_fits blocks room size cap e h in
    let short : length was + length a ≤ cap = omega (arith, ap (λ (xs : List ℕ). length xs) is, ap (λ (xs : List ℕ). length xs) none) in
    OnTrue_at (decides.1 short) pushed ∙ (ap (λ (xs : List ℕ). xs ++ a) none ∙ is)

-- nothing is kept where no line stands there
pub method_none : (blocks : List Block) (was : List ℕ) → None ≡ request_in blocks → was ≡ [] → was ≡ held.method_in blocks
method_none blocks was line none = none ∙ ap (λ (x : Option (List ℕ × List ℕ × List ℕ)). method_by x) line
