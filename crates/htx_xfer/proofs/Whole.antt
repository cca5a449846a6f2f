-- Blocks that an empty array takes as they are, all at once.
use Rattle.std.proofs.Common.{◌≡◌, ◌≢◌, ℕ, ◌+◌, ◌-◌, ◌*◌, ◌<◌, ◌≤◌, List, [], ◌∷◌, ◌++◌, length, refl, ap, sym, ◌∙◌, subst, arith}
use Rattle.std.proofs.lemmas.List.{take_all, drop_all}
use Rattle.std.proofs.lemmas.List.Sums.{sum_by-cons}
use Rattle.htx_model.specs.Block.{Block, RequestLine, ResponseLine, Header, EndHeaders, Data, Trailer, EndTrailers, kind_of, payload_len, weight}
use Rattle.htx_model.specs.Blocks.{load, append_data, extend_last, data_overhead}
use Rattle.htx_model.specs.declared.Kind.TheVariants as kinds
use Rattle.htx_model.specs.Flow.{put_behind, added}
use Rattle.htx_model.proofs.PublicLaws.{added-append}
use Rattle.htx_xfer.specs.Moved.{payload, front_of, rest_of, Stays, Moves}
use Rattle.htx_xfer.proofs.Moving.{front_none, rest_none}

-- what blocks weigh is their payload and a descriptor each
pub load_is : (bs : List Block) → load bs ≡ 8 * length bs + payload bs
load_is [] = refl
load_is (b ∷ bs) =
    let rest = load_is bs in
    let weighs = sum_by-cons weight b bs in
    let holds = sum_by-cons payload_len b bs in
    omega (arith, rest, weighs, holds)

-- data behind a block that isn't data is a block of its own
extended_apart : (bs : List Block) (p : List ℕ) → data_overhead bs ≡ 8 → extend_last bs p ≡ bs ++ Data p ∷ []
extended_apart [] p e = refl
extended_apart (Data q ∷ []) p e = absurd (omega (arith, e))
extended_apart (RequestLine x y z ∷ []) p e = refl
extended_apart (ResponseLine x y z ∷ []) p e = refl
extended_apart (Header n v ∷ []) p e = refl
extended_apart (EndHeaders ∷ []) p e = refl
extended_apart (Trailer n v ∷ []) p e = refl
extended_apart (EndTrailers ∷ []) p e = refl
extended_apart (b ∷ c ∷ bs) p e = ap (λ (l : List Block). b ∷ l) (extended_apart (c ∷ bs) p e)

data_apart : (bs : List Block) (p : List ℕ) → data_overhead bs ≡ 8 → 0 < length p → append_data bs p ≡ bs ++ Data p ∷ []
data_apart bs [] e some = absurd (omega (arith, some))
data_apart bs (x ∷ p) e some = extended_apart bs (x ∷ p) e

put_apart : (bs : List Block) (b : Block) → (kind_of b ≡ kinds.Data → (data_overhead bs ≡ 8) × (0 < payload_len b)) → put_behind bs b ≡ bs ++ b ∷ []
put_apart bs (Data p) h = data_apart bs p (h refl).0 (h refl).1
put_apart bs (RequestLine x y z) h = refl
put_apart bs (ResponseLine x y z) h = refl
put_apart bs (Header n v) h = refl
put_apart bs EndHeaders h = refl
put_apart bs (Trailer n v) h = refl
put_apart bs EndTrailers h = refl

-- one block more
pub apart_more : (bs : List Block) (b : Block) → added [] bs ≡ bs → (kind_of b ≡ kinds.Data → (data_overhead bs ≡ 8) × (0 < payload_len b)) → added [] (bs ++ b ∷ []) ≡ bs ++ b ∷ []
apart_more bs b same h = added-append [] bs (b ∷ []) ∙ ap (λ (t : List Block). put_behind t b) same ∙ put_apart bs b h

overhead_one : (b : Block) → kind_of b ≢ kinds.Data → data_overhead (b ∷ []) ≡ 8
overhead_one (Data p) other = absurd (other refl)
overhead_one (RequestLine x y z) other = refl
overhead_one (ResponseLine x y z) other = refl
overhead_one (Header n v) other = refl
overhead_one EndHeaders other = refl
overhead_one (Trailer n v) other = refl
overhead_one EndTrailers other = refl

pub overhead_behind : (bs : List Block) (b : Block) → kind_of b ≢ kinds.Data → data_overhead (bs ++ b ∷ []) ≡ 8
overhead_behind [] b other = overhead_one b other
overhead_behind (x ∷ []) b other = overhead_one b other
overhead_behind (x ∷ y ∷ bs) b other = overhead_behind (y ∷ bs) b other

-- all blocks go over to an empty list
pub all_move : (bs : List Block) (size limit : ℕ) (to : List Block) (moved : ℕ) → to ≡ [] → added [] bs ≡ bs → moved ≡ payload bs → moved ≤ limit → Moves bs size limit to to bs moved
all_move bs size limit to moved empty apart bytes within =
    let front : front_of bs (length bs) 0 ≡ bs = front_none bs (length bs) ∙ take_all (length bs) bs (omega arith) in
    let rest : rest_of bs (length bs) 0 ≡ [] = rest_none bs (length bs) ∙ drop_all (length bs) bs (omega arith) in
    record {
      count = length bs;
      part = 0;
      left = empty ∙ sym rest;
      to_is = sym apart ∙ ap (λ (t : List Block). added t bs) (sym empty) ∙ ap (added to) (sym front);
      bytes = bytes ∙ ap payload (sym front);
      within = within;
      most = subst (Stays size (limit - moved) bs) (sym empty) tt;
    }
