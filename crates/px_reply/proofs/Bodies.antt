-- Data behind the blocks of a head.
use Rattle.std.proofs.Common.{◌≡◌, ℕ, ◌+◌, ◌≤◌, List, [], ◌∷◌, ◌++◌, length, take, refl, ap, sym, ◌∙◌, arith, map}
use Rattle.std.proofs.lemmas.List.{append-nil}
use Rattle.std.proofs.lemmas.List.Sums.{sum_by-append}
use Rattle.std.proofs.Math.Seq.{take-length}
use Rattle.http_model.specs.Block.{Block, EndHeaders, Data, weight}
use Rattle.http_model.specs.Blocks.{load, Fits, append_data, extend_last, taken}
use Rattle.http_model.specs.Head.{Head, line_block, header_block, head_blocks, front_blocks}
use Rattle.htx_model.proofs.PublicLaws.{load-append_data, taken_is}

-- all of the bytes are taken where the list with them fits
pub all_taken : (bs : List Block) (size : ℕ) (p : List ℕ) → Fits (append_data bs p) size → taken bs size p ≡ length p
all_taken bs size [] fits = omega (arith, taken_is bs size [])
all_taken bs size (x ∷ p) fits = omega (arith, taken_is bs size (x ∷ p), load-append_data bs (x ∷ p) (omega arith))

-- ---- behind the end of a head

-- data behind an end is data of its own
behind_end : (bs : List Block) (p : List ℕ) → append_data (bs ++ EndHeaders ∷ []) p ≡ (bs ++ EndHeaders ∷ []) ++ append_data [] p
behind_end bs [] = sym (append-nil (bs ++ EndHeaders ∷ []))
behind_end bs (x ∷ p) = extended bs
  where
    extended : (bs : List Block) → extend_last (bs ++ EndHeaders ∷ []) (x ∷ p) ≡ (bs ++ EndHeaders ∷ []) ++ Data (x ∷ p) ∷ []
    extended [] = refl
    extended (b ∷ []) = refl
    extended (b ∷ c ∷ bs) = ap (λ (l : List Block). b ∷ l) (extended (c ∷ bs))

-- data behind data joins it
joined_data : (bs : List Block) (p : List ℕ) (y : ℕ) (q : List ℕ)
    → extend_last (bs ++ Data p ∷ []) (y ∷ q) ≡ bs ++ Data (p ++ y ∷ q) ∷ []
joined_data [] p y q = refl
joined_data (b ∷ []) p y q = refl
joined_data (b ∷ c ∷ bs) p y q = ap (λ (l : List Block). b ∷ l) (joined_data (c ∷ bs) p y q)

-- more bytes behind a body
more : (bs : List Block) (p q : List ℕ) → append_data ((bs ++ EndHeaders ∷ []) ++ append_data [] p) q ≡ (bs ++ EndHeaders ∷ []) ++ append_data [] (p ++ q)
more bs [] q = ap (λ (l : List Block). append_data l q) (append-nil (bs ++ EndHeaders ∷ [])) ∙ behind_end bs q
more bs (x ∷ p) [] = ap (λ (l : List ℕ). (bs ++ EndHeaders ∷ []) ++ append_data [] l) (sym (append-nil (x ∷ p)))
more bs (x ∷ p) (y ∷ q) = joined_data (bs ++ EndHeaders ∷ []) (x ∷ p) y q

pub payload-head_blocks : (head : Head) (p : List ℕ) → append_data (head_blocks head) p ≡ front_blocks head p
payload-head_blocks head p = behind_end (line_block head.line ∷ map header_block head.fields) p

pub payload-front_blocks : (head : Head) (p q : List ℕ) → append_data (front_blocks head p) q ≡ front_blocks head (p ++ q)
payload-front_blocks head p q = more (line_block head.line ∷ map header_block head.fields) p q

-- what a head and a body weigh
pub load-front_blocks : (head : Head) (p : List ℕ) → load (front_blocks head p) ≡ load (head_blocks head) + load (append_data [] p)
load-front_blocks head p = sum_by-append weight (head_blocks head) (append_data [] p)

-- bytes for which there is room are taken whole, and make the body
pub payload_taken : (head : Head) (bs new : List Block) (size room t : ℕ) (p : List ℕ) → bs ≡ head_blocks head → load (append_data [] p) ≤ room
    → room + load bs ≡ size → t ≡ taken bs size p → new ≡ append_data bs (take t p) → new ≡ front_blocks head p
payload_taken head bs new size room t p e within sized is made =
    let loaded : load (append_data bs p) ≡ load (head_blocks head) + load (append_data [] p) =
    ap (λ (l : List Block). load (append_data l p)) e ∙ ap load (payload-head_blocks head p) ∙ load-front_blocks head p in
    let fits : Fits (append_data bs p) size = omega (arith, loaded, ap load e, within, sized) in
    let all : t ≡ length p = is ∙ all_taken bs size p fits in
    made ∙ ap (λ (n : ℕ). append_data bs (take n p)) all ∙ ap (append_data bs) (take-length p)
    ∙ ap (λ (l : List Block). append_data l p) e ∙ payload-head_blocks head p

pub ruleset pushes = (all_taken)

pub ruleset fronts = (payload_taken, load-front_blocks)
