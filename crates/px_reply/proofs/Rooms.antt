-- The room that a refusal takes, and its parts joined.
use Rattle.std.proofs.Common.{◌≡◌, ℕ, ◌+◌, ◌≤◌, ◌<◌, ◌^◌, List, [], ◌∷◌, ◌++◌, length, ap, sym, ◌∙◌, arith, append_assoc}
use Rattle.std.specs.Prelude.{codes, decimal}
use Rattle.std.proofs.lemmas.List.{append-nil, length-append}
use Rattle.std.proofs.lemmas.Fmt.{length-decimal-le}
use Rattle.http_model.specs.Block.{Block, RequestLine, ResponseLine, Header, EndHeaders, Data, Trailer, EndTrailers}
use Rattle.http_model.specs.Blocks.{load, Fits, append_data, data_overhead}
use Rattle.http_model.specs.Head.{Head, head_blocks, front_blocks, message_blocks}
use Rattle.http_model.specs.Refusal.{reason_of, refusal, refusal_body, closing}
use Rattle.htx_model.proofs.PublicLaws.{load-append_data}
use Rattle.px_reply.specs.Refused.{refusal_head}
use Rattle.px_reply.proofs.Bodies.{payload-head_blocks, payload-front_blocks}

-- ---- the head

-- a number of 64 bits has at most 20 digits
pub digits_few : (n : ℕ) → n < 2 ^ 64 → length (decimal n) ≤ 20
digits_few n h = length-decimal-le 20 n (omega arith) (omega arith) h

pub refusal_weighs : (code n : ℕ) → length (decimal code) ≤ 20 → length (decimal n) ≤ 20 → length (reason_of code) ≤ 21
    → load (head_blocks (refusal_head code n)) ≤ 200
refusal_weighs code n status size reason = omega arith

pub refusal_fits : (code n size : ℕ) → length (decimal code) ≤ 20 → n < 2 ^ 64 → length (reason_of code) ≤ 21 → 1024 ≤ size
    → Fits (head_blocks (refusal_head code n)) size
refusal_fits code n size status small reason least = omega (arith, refusal_weighs code n status (digits_few n small) reason)

-- ---- the body

overhead-le : (bs : List Block) → data_overhead bs ≤ 8
overhead-le [] = omega arith
overhead-le (RequestLine x y z ∷ []) = omega arith
overhead-le (ResponseLine x y z ∷ []) = omega arith
overhead-le (Header n v ∷ []) = omega arith
overhead-le (EndHeaders ∷ []) = omega arith
overhead-le (Data p ∷ []) = omega arith
overhead-le (Trailer n v ∷ []) = omega arith
overhead-le (EndTrailers ∷ []) = omega arith
overhead-le (b ∷ c ∷ bs) = overhead-le (c ∷ bs)

-- what a list weighs at most with data behind it
load-append_data-le : (bs : List Block) (p : List ℕ) → load (append_data bs p) ≤ load bs + 8 + length p
load-append_data-le bs [] = omega arith
load-append_data-le bs (x ∷ p) = omega (arith, load-append_data bs (x ∷ p) (omega arith), overhead-le bs)

-- a list of at most so many bytes, with at most so many behind it
pub behind_fits : (bs : List Block) (p : List ℕ) (n limit size : ℕ) → length p ≤ n → load bs ≤ limit → limit + 8 + n ≤ size → Fits (append_data bs p) size
behind_fits bs p n limit size few light room = omega (arith, load-append_data-le bs p)

pub behind_light : (bs new : List Block) (p : List ℕ) (n limit : ℕ) → new ≡ append_data bs p → length p ≤ n → load bs ≤ limit → load new ≤ limit + 8 + n
behind_light bs new p n limit is few light = omega (arith, ap load is, load-append_data-le bs p)

-- the first bytes behind a head, and more behind them
pub first_part : (head : Head) (bs new : List Block) (p : List ℕ) → bs ≡ head_blocks head → new ≡ append_data bs p → new ≡ front_blocks head p
first_part head bs new p e is = is ∙ ap (λ (l : List Block). append_data l p) e ∙ payload-head_blocks head p

pub next_part : (head : Head) (bs new : List Block) (p q : List ℕ) → bs ≡ front_blocks head p → new ≡ append_data bs q → new ≡ front_blocks head (p ++ q)
next_part head bs new p q e is = is ∙ ap (λ (l : List Block). append_data l q) e ∙ payload-front_blocks head p q

-- the parts make the page
pub page : (code : ℕ) (digits reason : List ℕ) → digits ≡ decimal code → reason ≡ reason_of code
    → (((codes "<html><body><h1>" ++ digits) ++ codes " ") ++ reason) ++ codes "</h1></body></html>\n" ≡ refusal_body code
unfolding refusal_body
page code digits reason d r =
    let close = codes "</h1></body></html>\n" in
    let begin = codes "<html><body><h1>" in
    ap (λ (l : List ℕ). ((((begin ++ l) ++ codes " ") ++ reason) ++ close)) d
    ∙ ap (λ (l : List ℕ). ((((begin ++ decimal code) ++ codes " ") ++ l) ++ close)) r
    ∙ ap (λ (l : List ℕ). l ++ close) (append_assoc (begin ++ decimal code) (codes " ") (reason_of code))

-- a head and a body without trailers are the message
pub refusal_whole : (code : ℕ) → front_blocks (refusal_head code (length (refusal_body code))) (refusal_body code) ≡ message_blocks (refusal code)
refusal_whole code = sym (append-nil (front_blocks (refusal_head code (length (refusal_body code))) (refusal_body code)))

-- with the field that closes the connection it weighs no more than the least buffer has
page_short : (code : ℕ) → length (decimal code) ≤ 20 → length (reason_of code) ≤ 21 → length (refusal_body code) ≤ 78
unfolding refusal_body
page_short code digits reason =
    let parts : length (refusal_body code) ≡ 37 + (length (decimal code) + length (reason_of code)) = simp length-append (omega arith) in
    omega (arith, reason, digits, parts)

pub refusal_closes : (code : ℕ) → length (decimal code) ≤ 20 → length (reason_of code) ≤ 21 → load (message_blocks (closing (refusal code))) ≤ 1024
unfolding refusal_body
refusal_closes code digits reason =
    let body : length (refusal_body code) ≤ 78 = page_short code digits reason in
    omega (arith, reason, body, digits, digits_few (length (refusal_body code)) (omega arith))
