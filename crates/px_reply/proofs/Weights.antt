-- What fields weigh that go, and that are put in.
use Rattle.std.proofs.Common.{◌≡◌, ℕ, ◌+◌, ◌≤◌, ◌<◌, List, [], ◌∷◌, ◌++◌, Bool, true, false, cond, not, length, take, refl, ap, ◌∙◌, arith}
use Rattle.std.proofs.lemmas.List.Sums.{sum_by-cons, sum_by-append, sum_by_more, sum_by_more_le_part, get_or-le-sum_by}
use Rattle.std.proofs.lemmas.List.{take_all}
use Rattle.std.specs.Prelude.{sum_by}
use Rattle.http_model.specs.Block.{Block, RequestLine, ResponseLine, Header, EndHeaders, Data, Trailer, EndTrailers, weight}
use Rattle.http_model.specs.Blocks.{load, Fits, block_at}
use Rattle.http_model.specs.Head.{Field}
use Rattle.header_ops.specs.Headers.{is_framing_header, without_framing, with_header, HasEnd}
use Rattle.http_model.specs.Finish.{close_fields}
use Rattle.header_ops.proofs.PublicLaws.{load-with_header, HasEnd-with_header}
use Rattle.px_reply.specs.Finished.{weight_if_framing, with_headers, finished, fields_load}

-- a block is within the load of its list
pub weight_within : (bs : List Block) (i : ℕ) → i < length bs → weight (block_at bs i) ≤ load bs
weight_within bs i h = get_or-le-sum_by weight bs i EndHeaders h

pub ruleset weights = (weight_within)

weight_if-le : (b : Block) → weight_if_framing b ≤ weight b
weight_if-le b = by_test (is_framing_header b)
  where
    by_test : (t : Bool) → cond t (weight b) 0 ≤ weight b
    by_test true = omega arith
    by_test false = omega arith

one_more : (b : Block) (rest : List Block) → load (cond (not (is_framing_header b)) (b ∷ rest) rest) + weight_if_framing b ≡ weight b + load rest
one_more b rest = by_test (is_framing_header b)
  where
    by_test : (t : Bool) → load (cond (not t) (b ∷ rest) rest) + cond t (weight b) 0 ≡ weight b + load rest
    by_test true = omega arith
    by_test false = omega (arith, sum_by-cons weight b rest)

-- what goes and what stays weigh together what the list weighs
pub load-without_framing : (bs : List Block) → sum_by weight_if_framing bs + load (without_framing bs) ≡ load bs
load-without_framing [] = refl
load-without_framing (b ∷ bs) =
    omega (arith, one_more b (without_framing bs), sum_by-cons weight_if_framing b bs, sum_by-cons weight b bs, load-without_framing bs)

pub load-framing-more : (bs : List Block) (i : ℕ) → i < length bs
    → sum_by weight_if_framing (take (i + 1) bs) ≡ sum_by weight_if_framing (take i bs) + weight_if_framing (block_at bs i)
load-framing-more bs i h = sum_by_more weight_if_framing bs i EndHeaders h

pub load-framing-le : (bs : List Block) (i : ℕ) → i < length bs
    → sum_by weight_if_framing (take i bs) + weight_if_framing (block_at bs i) ≤ load bs
load-framing-le bs i h =
    omega (arith, sum_by_more_le_part weight_if_framing weight bs i EndHeaders h weight_if-le, weight_if-le (block_at bs i))

-- the whole list is weighed
pub whole_sum : (bs : List Block) (i sum : ℕ) → length bs ≤ i → sum ≡ sum_by weight_if_framing (take i bs) → sum + load (without_framing bs) ≡ load bs
whole_sum bs i sum all is =
    omega (arith, is ∙ ap (sum_by weight_if_framing) (take_all i bs all), load-without_framing bs)

pub ruleset sums = (load-framing-more, load-framing-le)

-- what a list weighs with fields behind the others
pub load-with_headers : (fs : List Field) (bs : List Block) → HasEnd bs → load (with_headers fs bs) ≡ load bs + fields_load fs
load-with_headers [] bs h = omega arith
load-with_headers (f ∷ fs) bs h =
    omega (
      arith,
      load-with_headers fs (with_header (Header f.0 f.1) bs) (HasEnd-with_header f.0 f.1 bs h),
      load-with_header (Header f.0 f.1) bs h,
      sum_by-cons (λ (field : Field). weight (Header field.0 field.1)) f fs,
    )

-- fields that come one behind another
pub with_headers-append : (fs gs : List Field) (xs : List Block) → with_headers (fs ++ gs) xs ≡ with_headers gs (with_headers fs xs)
with_headers-append [] gs xs = refl
with_headers-append (a ∷ fs) gs xs = with_headers-append fs gs (with_header (Header a.0 a.1) xs)

pub fields_load-append : (fs gs : List Field) → fields_load (fs ++ gs) ≡ fields_load fs + fields_load gs
fields_load-append fs gs = sum_by-append (λ (field : Field). weight (Header field.0 field.1)) fs gs

-- where all fields fit, the first of them do
pub first_fits : (fs gs : List Field) (xs : List Block) (size : ℕ) → HasEnd xs → Fits (with_headers (fs ++ gs) xs) size → Fits (with_headers fs xs) size
first_fits fs gs xs size h fits =
    omega (arith, fits, load-with_headers (fs ++ gs) xs h, load-with_headers fs xs h, fields_load-append fs gs)

-- an end of headers stays where what frames the message goes
HasEnd-without_framing : (bs : List Block) → HasEnd bs → HasEnd (without_framing bs)
HasEnd-without_framing [] h = h
HasEnd-without_framing (EndHeaders ∷ bs) h = tt
HasEnd-without_framing (RequestLine x y z ∷ bs) h = HasEnd-without_framing bs h
HasEnd-without_framing (ResponseLine x y z ∷ bs) h = HasEnd-without_framing bs h
HasEnd-without_framing (Data p ∷ bs) h = HasEnd-without_framing bs h
HasEnd-without_framing (Trailer n v ∷ bs) h = HasEnd-without_framing bs h
HasEnd-without_framing (EndTrailers ∷ bs) h = HasEnd-without_framing bs h
HasEnd-without_framing (Header n v ∷ bs) h = by_test (is_framing_header (Header n v)) (HasEnd-without_framing bs h)
  where
    by_test : (t : Bool) → HasEnd (without_framing bs) → HasEnd (cond (not t) (Header n v ∷ without_framing bs) (without_framing bs))
    by_test true rest = rest
    by_test false rest = rest

-- a finished list that weighs more than there is room for doesn't fit
pub too_much : (fs : List Field) (close : Bool) (bs : List Block) (size : ℕ) → HasEnd bs
    → size < fields_load fs + fields_load (close_fields close) + load (without_framing bs)
    → Fits (finished fs close bs) size → ⊥
too_much fs close bs size h over fits =
    omega (
      arith,
      fits,
      load-with_headers (fs ++ close_fields close) (without_framing bs) (HasEnd-without_framing bs h),
      fields_load-append fs (close_fields close),
      over,
    )

pub ruleset puts = (load-with_headers, with_headers-append, fields_load-append, first_fits)
