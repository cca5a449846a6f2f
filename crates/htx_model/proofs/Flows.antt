-- The flow of a list counts alone, in front of other blocks and behind them; blocks put behind others leave it.
use Rattle.std.proofs.Common.{◌≡◌, ℕ, ◌<◌, List, [], ◌∷◌, ◌++◌, length, take, drop, refl, ap, sym, ◌∙◌, arith, append_assoc}
use Rattle.std.proofs.lemmas.List.{take-append-drop}
use Rattle.htx_model.specs.Block.{Block, RequestLine, ResponseLine, Header, EndHeaders, Data, Trailer, EndTrailers, payload_len}
use Rattle.htx_model.specs.Blocks.{append_data, extend_last, followed, flow, joined}
use Rattle.htx_model.specs.Flow.{put_behind, added, AreFilled}

-- ---- neighbouring data

pub joined_twice : (x y : List ℕ) (fs : List Block) → joined (Data x) (joined (Data y) fs) ≡ joined (Data (x ++ y)) fs
joined_twice x y [] = refl
joined_twice x y (Data q ∷ fs) = ap (λ (p : List ℕ). Data p ∷ fs) (sym (append_assoc x y q))
joined_twice x y (RequestLine a b c ∷ fs) = refl
joined_twice x y (ResponseLine a b c ∷ fs) = refl
joined_twice x y (Header n v ∷ fs) = refl
joined_twice x y (EndHeaders ∷ fs) = refl
joined_twice x y (Trailer n v ∷ fs) = refl
joined_twice x y (EndTrailers ∷ fs) = refl

-- data in two parts flows as one
pub flow-parted : (size : ℕ) (p : List ℕ) (bs : List Block) → flow (Data (take size p) ∷ (Data (drop size p) ∷ bs)) ≡ flow (Data p ∷ bs)
flow-parted size p bs = joined_twice (take size p) (drop size p) (flow bs) ∙ ap (λ (x : List ℕ). joined (Data x) (flow bs)) (take-append-drop size p)

-- ---- the flow counts alone

-- what stands behind counts by its flow
pub flow-append : (xs ys zs : List Block) → flow ys ≡ flow zs → flow (xs ++ ys) ≡ flow (xs ++ zs)
flow-append [] ys zs e = e
flow-append (x ∷ xs) ys zs e = ap (joined x) (flow-append xs ys zs e)

joined_front : (b : Block) (fs zs : List Block) → joined b (flow (fs ++ zs)) ≡ flow (joined b fs ++ zs)
joined_front (Data p) [] zs = refl
joined_front (Data p) (Data q ∷ fs) zs = joined_twice p q (flow (fs ++ zs))
joined_front (Data p) (RequestLine a b c ∷ fs) zs = refl
joined_front (Data p) (ResponseLine a b c ∷ fs) zs = refl
joined_front (Data p) (Header n v ∷ fs) zs = refl
joined_front (Data p) (EndHeaders ∷ fs) zs = refl
joined_front (Data p) (Trailer n v ∷ fs) zs = refl
joined_front (Data p) (EndTrailers ∷ fs) zs = refl
joined_front (RequestLine a b c) fs zs = refl
joined_front (ResponseLine a b c) fs zs = refl
joined_front (Header n v) fs zs = refl
joined_front EndHeaders fs zs = refl
joined_front (Trailer n v) fs zs = refl
joined_front EndTrailers fs zs = refl

flow_first : (xs zs : List Block) → flow (xs ++ zs) ≡ flow (flow xs ++ zs)
flow_first [] zs = refl
flow_first (x ∷ xs) zs = ap (joined x) (flow_first xs zs) ∙ joined_front x (flow xs) zs

-- what stands in front counts by its flow
pub flow-front : (xs ys zs : List Block) → flow xs ≡ flow ys → flow (xs ++ zs) ≡ flow (ys ++ zs)
flow-front xs ys zs e = flow_first xs zs ∙ ap (λ (l : List Block). flow (l ++ zs)) e ∙ sym (flow_first ys zs)

-- ---- data behind others

followed_flows : (b : Block) (p : List ℕ) (ys : List Block) → flow (followed b p ++ ys) ≡ flow (b ∷ (Data p ∷ ys))
followed_flows (Data q) p ys = sym (joined_twice q p (flow ys))
followed_flows (RequestLine x y z) p ys = refl
followed_flows (ResponseLine x y z) p ys = refl
followed_flows (Header n v) p ys = refl
followed_flows EndHeaders p ys = refl
followed_flows (Trailer n v) p ys = refl
followed_flows EndTrailers p ys = refl

extended_flows : (to : List Block) (p : List ℕ) (ys : List Block) → flow (extend_last to p ++ ys) ≡ flow (to ++ (Data p ∷ ys))
extended_flows [] p ys = refl
extended_flows (b ∷ []) p ys = followed_flows b p ys
extended_flows (b ∷ c ∷ bs) p ys = ap (joined b) (extended_flows (c ∷ bs) p ys)

pub data_flows : (to : List Block) (p : List ℕ) (ys : List Block) → 0 < length p → flow (append_data to p ++ ys) ≡ flow (to ++ (Data p ∷ ys))
data_flows to [] ys some = absurd (omega arith)
data_flows to (x ∷ p) ys some = extended_flows to (x ∷ p) ys

-- ---- blocks behind others

pub put_flows : (to : List Block) (b : Block) (ys : List Block) → 0 < payload_len b → flow (put_behind to b ++ ys) ≡ flow (to ++ (b ∷ ys))
put_flows to (Data p) ys some = data_flows to p ys some
put_flows to (RequestLine x y z) ys some = ap flow (append_assoc to (RequestLine x y z ∷ []) ys)
put_flows to (ResponseLine x y z) ys some = ap flow (append_assoc to (ResponseLine x y z ∷ []) ys)
put_flows to (Header n v) ys some = ap flow (append_assoc to (Header n v ∷ []) ys)
put_flows to EndHeaders ys some = ap flow (append_assoc to (EndHeaders ∷ []) ys)
put_flows to (Trailer n v) ys some = ap flow (append_assoc to (Trailer n v ∷ []) ys)
put_flows to EndTrailers ys some = ap flow (append_assoc to (EndTrailers ∷ []) ys)

pub added_flows : (to xs ys : List Block) → AreFilled xs → flow (added to xs ++ ys) ≡ flow (to ++ (xs ++ ys))
added_flows to [] ys f = refl
added_flows to (x ∷ xs) ys f = added_flows (put_behind to x) xs ys f.1 ∙ put_flows to x (xs ++ ys) f.0

pub added-append : (to xs ys : List Block) → added to (xs ++ ys) ≡ added (added to xs) ys
added-append to [] ys = refl
added-append to (x ∷ xs) ys = added-append (put_behind to x) xs ys
