-- The end of the headers, and what a header in front of it weighs.
use Rattle.std.proofs.Common.{◌≡◌, ℕ, ◌+◌, List, [], ◌∷◌, Bool, true, false, cond, not, filter, length, refl, arith}
use Rattle.std.proofs.lemmas.List.Sums.{sum_by-cons}
use Rattle.http_model.specs.Block.{Block, RequestLine, ResponseLine, Header, EndHeaders, Data, Trailer, EndTrailers, weight}
use Rattle.http_model.specs.Blocks.{load}
use Rattle.header_ops.specs.Headers.{is_header_named, without_headers, with_header, set_header, HasEnd}
use Rattle.header_ops.specs.Removal.{is_taken, without_taken}
use Rattle.header_ops.specs.declared.remove.Taken.{Taken}
use Rattle.header_ops.specs.declared.remove.Taken.TheVariants.{Named, Framing, Matching}

in_front : (b : Block) (bs : List Block) → HasEnd bs → HasEnd (b ∷ bs)
in_front (RequestLine x y z) bs h = h
in_front (ResponseLine x y z) bs h = h
in_front (Header n v) bs h = h
in_front EndHeaders bs h = tt
in_front (Data q) bs h = h
in_front (Trailer n v) bs h = h
in_front EndTrailers bs h = h

either_way : (t : Bool) (b : Block) (bs : List Block) → HasEnd bs → HasEnd (cond t (b ∷ bs) bs)
either_way true b bs h = in_front b bs h
either_way false b bs h = h

-- blocks that go leave the end, where no end goes
kept_end : (p : Block → Bool) → p EndHeaders ≡ true → (bs : List Block) → HasEnd bs → HasEnd (filter p bs)
kept_end p end [] h = h
kept_end p end (EndHeaders ∷ bs) h = rw end tt
kept_end p end (RequestLine x y z ∷ bs) h = either_way (p (RequestLine x y z)) (RequestLine x y z) (filter p bs) (kept_end p end bs h)
kept_end p end (ResponseLine x y z ∷ bs) h = either_way (p (ResponseLine x y z)) (ResponseLine x y z) (filter p bs) (kept_end p end bs h)
kept_end p end (Header n v ∷ bs) h = either_way (p (Header n v)) (Header n v) (filter p bs) (kept_end p end bs h)
kept_end p end (Data q ∷ bs) h = either_way (p (Data q)) (Data q) (filter p bs) (kept_end p end bs h)
kept_end p end (Trailer n v ∷ bs) h = either_way (p (Trailer n v)) (Trailer n v) (filter p bs) (kept_end p end bs h)
kept_end p end (EndTrailers ∷ bs) h = either_way (p EndTrailers) EndTrailers (filter p bs) (kept_end p end bs h)

-- no header of a name is the end
pub HasEnd-without : (name : List ℕ) (bs : List Block) → HasEnd bs → HasEnd (without_headers name bs)
HasEnd-without name bs h = kept_end (λ b. not (is_header_named name b)) refl bs h

-- no header that goes is the end
pub HasEnd-without_taken : (taken : Taken) (bs : List Block) → HasEnd bs → HasEnd (without_taken taken bs)
HasEnd-without_taken taken bs h = kept_end (λ b. not (is_taken taken b)) (by_kind taken) bs h
  where
    by_kind : (t : Taken) → not (is_taken t EndHeaders) ≡ true
    by_kind (Named name) = refl
    by_kind Framing = refl
    by_kind (Matching which) = refl

-- a block in front of the end leaves the end
pub HasEnd-with_header : (n v : List ℕ) (bs : List Block) → HasEnd bs → HasEnd (with_header (Header n v) bs)
HasEnd-with_header n v [] h = h
HasEnd-with_header n v (EndHeaders ∷ bs) h = tt
HasEnd-with_header n v (RequestLine x y z ∷ bs) h = HasEnd-with_header n v bs h
HasEnd-with_header n v (ResponseLine x y z ∷ bs) h = HasEnd-with_header n v bs h
HasEnd-with_header n v (Header a b ∷ bs) h = HasEnd-with_header n v bs h
HasEnd-with_header n v (Data q ∷ bs) h = HasEnd-with_header n v bs h
HasEnd-with_header n v (Trailer a b ∷ bs) h = HasEnd-with_header n v bs h
HasEnd-with_header n v (EndTrailers ∷ bs) h = HasEnd-with_header n v bs h

behind : (a b : Block) (old new : List Block) → load new ≡ load old + weight b → load (a ∷ new) ≡ load (a ∷ old) + weight b
behind a b old new h = omega (arith, sum_by-cons weight a new, sum_by-cons weight a old)

-- what a list weighs with one block more in front of its end
pub load-with_header : (b : Block) (bs : List Block) → HasEnd bs → load (with_header b bs) ≡ load bs + weight b
load-with_header b [] h = absurd h
load-with_header b (EndHeaders ∷ bs) h = omega (arith, sum_by-cons weight b (EndHeaders ∷ bs))
load-with_header b (RequestLine x y z ∷ bs) h = behind (RequestLine x y z) b bs (with_header b bs) (load-with_header b bs h)
load-with_header b (ResponseLine x y z ∷ bs) h = behind (ResponseLine x y z) b bs (with_header b bs) (load-with_header b bs h)
load-with_header b (Header n v ∷ bs) h = behind (Header n v) b bs (with_header b bs) (load-with_header b bs h)
load-with_header b (Data p ∷ bs) h = behind (Data p) b bs (with_header b bs) (load-with_header b bs h)
load-with_header b (Trailer n v ∷ bs) h = behind (Trailer n v) b bs (with_header b bs) (load-with_header b bs h)
load-with_header b (EndTrailers ∷ bs) h = behind EndTrailers b bs (with_header b bs) (load-with_header b bs h)

-- what is left of a list after a set weighs so much with the new header
pub load-set_header : (name value : List ℕ) (bs : List Block) → HasEnd bs → load (set_header name value bs) ≡ load (without_headers name bs) + 8 + length name + length value
load-set_header name value bs h =
    omega (arith, load-with_header (Header name value) (without_headers name bs) (HasEnd-without name bs h))

pub ruleset ends = (HasEnd-without, HasEnd-with_header, load-set_header)
