-- Blocks that come to others.
use Rattle.std.specs.Prelude.{◌≡◌, ℕ, List, [], ◌∷◌, ◌++◌, ⊤}
use Rattle.htx_model.specs.Block.{Block, RequestLine, ResponseLine, Header, EndHeaders, Data, Trailer, EndTrailers}

-- data may have more bytes behind it; any other block is the same
abbrev pub IsKept : Block → Block → Type 0
IsKept (Data p) c = (q : List ℕ) × (c ≡ Data (p ++ q))
IsKept (RequestLine x y z) c = c ≡ RequestLine x y z
IsKept (ResponseLine x y z) c = c ≡ ResponseLine x y z
IsKept (Header n v) c = c ≡ Header n v
IsKept EndHeaders c = c ≡ EndHeaders
IsKept (Trailer n v) c = c ≡ Trailer n v
IsKept EndTrailers c = c ≡ EndTrailers

-- the first of the blocks, if there is one, is still the first
abbrev pub KeepsFront : List Block → List Block → Type 0
KeepsFront [] cs = ⊤
KeepsFront (b ∷ bs) [] = ⊥
KeepsFront (b ∷ bs) (c ∷ cs) = IsKept b c
