-- The first block by its type.
use Rattle.std.proofs.Common.{◌≡◌, ◌≢◌, ◌<◌, List, [], ◌∷◌, length, Some, None, refl, arith}
use Rattle.htx_model.specs.Block.{Block, RequestLine, ResponseLine, Header, EndHeaders, Data, Trailer, EndTrailers, kind_of, line_of}
use Rattle.htx_model.specs.Blocks.{block_at}
use Rattle.htx_model.specs.declared.Kind.TheVariants as kinds
use Rattle.htx_view.specs.Lines.{request_in, response_in, status_in, status_number}

pub request_first : (bs : List Block) → 0 < length bs → kind_of (block_at bs 0) ≡ kinds.RequestLine → request_in bs ≡ Some (line_of (block_at bs 0))
request_first [] h k = absurd (omega arith)
request_first (RequestLine a b c ∷ bs) h k = refl
request_first (ResponseLine a b c ∷ bs) h k = cc
request_first (Header n v ∷ bs) h k = cc
request_first (EndHeaders ∷ bs) h k = cc
request_first (Data p ∷ bs) h k = cc
request_first (Trailer n v ∷ bs) h k = cc
request_first (EndTrailers ∷ bs) h k = cc

pub request_elsewhere : (bs : List Block) → kind_of (block_at bs 0) ≢ kinds.RequestLine → request_in bs ≡ None
request_elsewhere [] h = refl
request_elsewhere (RequestLine a b c ∷ bs) h = absurd (h refl)
request_elsewhere (ResponseLine a b c ∷ bs) h = refl
request_elsewhere (Header n v ∷ bs) h = refl
request_elsewhere (EndHeaders ∷ bs) h = refl
request_elsewhere (Data p ∷ bs) h = refl
request_elsewhere (Trailer n v ∷ bs) h = refl
request_elsewhere (EndTrailers ∷ bs) h = refl

pub status_first : (bs : List Block) → 0 < length bs → kind_of (block_at bs 0) ≡ kinds.ResponseLine → status_in bs ≡ Some (status_number (line_of (block_at bs 0)).1)
status_first [] h k = absurd (omega arith)
status_first (RequestLine a b c ∷ bs) h k = cc
status_first (ResponseLine a b c ∷ bs) h k = refl
status_first (Header n v ∷ bs) h k = cc
status_first (EndHeaders ∷ bs) h k = cc
status_first (Data p ∷ bs) h k = cc
status_first (Trailer n v ∷ bs) h k = cc
status_first (EndTrailers ∷ bs) h k = cc

pub status_elsewhere : (bs : List Block) → kind_of (block_at bs 0) ≢ kinds.ResponseLine → status_in bs ≡ None
status_elsewhere [] h = refl
status_elsewhere (RequestLine a b c ∷ bs) h = refl
status_elsewhere (ResponseLine a b c ∷ bs) h = absurd (h refl)
status_elsewhere (Header n v ∷ bs) h = refl
status_elsewhere (EndHeaders ∷ bs) h = refl
status_elsewhere (Data p ∷ bs) h = refl
status_elsewhere (Trailer n v ∷ bs) h = refl
status_elsewhere (EndTrailers ∷ bs) h = refl

pub response_first : (bs : List Block) → 0 < length bs → kind_of (block_at bs 0) ≡ kinds.ResponseLine → response_in bs ≡ Some (line_of (block_at bs 0))
response_first [] h k = absurd (omega arith)
response_first (ResponseLine a b c ∷ bs) h k = refl
response_first (RequestLine a b c ∷ bs) h k = cc
response_first (Header n v ∷ bs) h k = cc
response_first (EndHeaders ∷ bs) h k = cc
response_first (Data p ∷ bs) h k = cc
response_first (Trailer n v ∷ bs) h k = cc
response_first (EndTrailers ∷ bs) h k = cc

pub response_elsewhere : (bs : List Block) → kind_of (block_at bs 0) ≢ kinds.ResponseLine → response_in bs ≡ None
response_elsewhere [] h = refl
response_elsewhere (ResponseLine a b c ∷ bs) h = absurd (h refl)
response_elsewhere (RequestLine a b c ∷ bs) h = refl
response_elsewhere (Header n v ∷ bs) h = refl
response_elsewhere (EndHeaders ∷ bs) h = refl
response_elsewhere (Data p ∷ bs) h = refl
response_elsewhere (Trailer n v ∷ bs) h = refl
response_elsewhere (EndTrailers ∷ bs) h = refl

pub ruleset first_lines = (request_first, request_elsewhere, response_first, response_elsewhere, status_first, status_elsewhere)
