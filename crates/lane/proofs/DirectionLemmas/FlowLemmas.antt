-- Blocks but for bounds between data.
use Rattle.std.proofs.Common.{◌≡◌, ℕ, List, [], ◌∷◌, ◌++◌, refl, sym, ap, ◌∙◌, append_assoc}
use Rattle.std.specs.Prelude.{map}
use Rattle.std.proofs.lemmas.List.{append-nil}
use Rattle.htx_model.specs.Block.{Block, RequestLine, ResponseLine, Header, EndHeaders, Data, Trailer, EndTrailers}
use Rattle.htx_model.specs.Blocks.{flow, joined, append_data}
use Rattle.http_model.specs.Head.{Field, Head, StartLine, head_blocks, header_block, line_block}
use Rattle.http_model.specs.Head as head
use Rattle.http_model.specs.Head.{front_blocks, ended_trailers, trailer_block}
use Rattle.htx_model.proofs.PublicLaws.{flow-append, flow-front}
use Rattle.h1_body.specs.Trailers as body

-- in the middle
pub flow-middle : (before xs ys zs : List Block) → flow xs ≡ flow ys → flow (before ++ (xs ++ zs)) ≡ flow (before ++ (ys ++ zs))
flow-middle before xs ys zs e = flow-append before (xs ++ zs) (ys ++ zs) (flow-front xs ys zs e)

-- no block flows to none
joined_some : (b : Block) (fs : List Block) → joined b fs ≡ [] → ⊥
joined_some (Data p) [] e = cc
joined_some (Data p) (Data q ∷ fs) e = cc
joined_some (Data p) (RequestLine a b c ∷ fs) e = cc
joined_some (Data p) (ResponseLine a b c ∷ fs) e = cc
joined_some (Data p) (Header n v ∷ fs) e = cc
joined_some (Data p) (EndHeaders ∷ fs) e = cc
joined_some (Data p) (Trailer n v ∷ fs) e = cc
joined_some (Data p) (EndTrailers ∷ fs) e = cc
joined_some (RequestLine a b c) fs e = cc
joined_some (ResponseLine a b c) fs e = cc
joined_some (Header n v) fs e = cc
joined_some EndHeaders fs e = cc
joined_some (Trailer n v) fs e = cc
joined_some EndTrailers fs e = cc

pub flow_none : (xs : List Block) → flow xs ≡ [] → xs ≡ []
flow_none [] e = refl
flow_none (b ∷ xs) e = absurd (joined_some b (flow xs) e)

pub none_first : (xs ys : List Block) → xs ++ ys ≡ [] → xs ≡ []
none_first [] ys e = refl
none_first (x ∷ xs) ys e = absurd (cc)

pub none_second : (xs ys : List Block) → xs ++ ys ≡ [] → ys ≡ []
none_second [] ys e = e
none_second (x ∷ xs) ys e = absurd (cc)

-- ---- a head, data and trailers

fields_flow : (fields : List Field) (xs : List Block) → flow ((map header_block fields ++ EndHeaders ∷ []) ++ xs) ≡ (map header_block fields ++ EndHeaders ∷ []) ++ flow xs
fields_flow [] xs = refl
fields_flow (f ∷ fields) xs = ap (λ (fs : List Block). header_block f ∷ fs) (fields_flow fields xs)

line_flow : (line : StartLine) (fs : List Block) → joined (line_block line) fs ≡ line_block line ∷ fs
line_flow (head.RequestLine a b c) fs = refl
line_flow (head.StatusLine a b c) fs = refl

pub head_flow : (h : Head) (xs : List Block) → flow (head_blocks h ++ xs) ≡ head_blocks h ++ flow xs
head_flow h xs = line_flow h.line (flow ((map header_block h.fields ++ EndHeaders ∷ []) ++ xs)) ∙ ap (λ (fs : List Block). line_block h.line ∷ fs) (fields_flow h.fields xs)

one_data : (b : List ℕ) → flow (append_data [] b) ≡ append_data [] b
one_data [] = refl
one_data (y ∷ b) = refl

two_data : (a b : List ℕ) → flow (append_data [] a ++ append_data [] b) ≡ append_data [] (a ++ b)
two_data [] b = one_data b
two_data (x ∷ a) [] = ap (λ (p : List ℕ). Data (x ∷ p) ∷ []) (sym (append-nil a))
two_data (x ∷ a) (y ∷ b) = refl

-- more data behind a front
pub front_more : (h : Head) (a b : List ℕ) → flow (front_blocks h a ++ append_data [] b) ≡ front_blocks h (a ++ b)
front_more h a b =
    ap flow (append_assoc (head_blocks h) (append_data [] a) (append_data [] b)) ∙ head_flow h (append_data [] a ++ append_data [] b)
    ∙ ap (λ (fs : List Block). head_blocks h ++ fs) (two_data a b)

trailers_flow : (ts : List Field) → flow (map trailer_block ts ++ EndTrailers ∷ []) ≡ map trailer_block ts ++ EndTrailers ∷ []
trailers_flow [] = refl
trailers_flow (t ∷ ts) = ap (λ (fs : List Block). trailer_block t ∷ fs) (trailers_flow ts)

ended_flow : (ts : List Field) → flow (ended_trailers (map trailer_block ts)) ≡ ended_trailers (map trailer_block ts)
ended_flow [] = refl
ended_flow (t ∷ ts) = trailers_flow (t ∷ ts)

data_ended : (a : List ℕ) (ts : List Field) → flow (append_data [] a ++ ended_trailers (map trailer_block ts)) ≡ append_data [] a ++ ended_trailers (map trailer_block ts)
data_ended [] ts = ended_flow ts
data_ended (x ∷ a) [] = refl
data_ended (x ∷ a) (t ∷ ts) = ap (joined (Data (x ∷ a))) (trailers_flow (t ∷ ts))

-- trailers behind a front
pub front_ended : (h : Head) (a : List ℕ) (ts : List Field) → flow (front_blocks h a ++ ended_trailers (map trailer_block ts)) ≡ front_blocks h a ++ ended_trailers (map trailer_block ts)
front_ended h a ts =
    ap flow (append_assoc (head_blocks h) (append_data [] a) (ended_trailers (map trailer_block ts))) ∙ head_flow h (append_data [] a ++ ended_trailers (map trailer_block ts))
    ∙ ap (λ (fs : List Block). head_blocks h ++ fs) (data_ended a ts) ∙ sym (append_assoc (head_blocks h) (append_data [] a) (ended_trailers (map trailer_block ts)))

-- the two crates below say the same of trailers
pub same_trailers : (ts : List Field) → body.trailer_blocks ts ≡ ended_trailers (map trailer_block ts)
same_trailers [] = refl
same_trailers (t ∷ ts) = refl

pub front_flow : (h : Head) (a : List ℕ) → flow (front_blocks h a) ≡ front_blocks h a
front_flow h a = head_flow h (append_data [] a) ∙ ap (λ (fs : List Block). head_blocks h ++ fs) (one_data a)
