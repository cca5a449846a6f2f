-- Where an end of headers stands.
use Rattle.std.proofs.Common.{◌≡◌, ℕ, zero, suc, ◌<◌, List, [], ◌∷◌, length, arith}
use Rattle.http_model.specs.Block.{Block, RequestLine, ResponseLine, Header, EndHeaders, Data, Trailer, EndTrailers}
use Rattle.htx_model.specs.Block.{kind_of}
use Rattle.htx_model.specs.Blocks.{block_at}
use Rattle.htx_model.specs.declared.Kind.TheVariants as kinds
use Rattle.header_ops.specs.Headers.{HasEnd}

in_front : (b : Block) (bs : List Block) → HasEnd bs → HasEnd (b ∷ bs)
in_front (RequestLine x y z) bs h = h
in_front (ResponseLine x y z) bs h = h
in_front (Header n v) bs h = h
in_front EndHeaders bs h = tt
in_front (Data q) bs h = h
in_front (Trailer n v) bs h = h
in_front EndTrailers bs h = h

end_here : (b : Block) (bs : List Block) → kind_of b ≡ kinds.EndHeaders → HasEnd (b ∷ bs)
end_here (RequestLine x y z) bs is = grind arith
end_here (ResponseLine x y z) bs is = grind arith
end_here (Header n v) bs is = grind arith
end_here EndHeaders bs is = tt
end_here (Data q) bs is = grind arith
end_here (Trailer n v) bs is = grind arith
end_here EndTrailers bs is = grind arith

-- a list with an end of headers at a place has one
pub end_at : (bs : List Block) (at : ℕ) → at < length bs → kind_of (block_at bs at) ≡ kinds.EndHeaders → HasEnd bs
end_at [] at within is = absurd (omega arith)
end_at (b ∷ bs) zero within is = end_here b bs is
end_at (b ∷ bs) (suc at) within is = in_front b bs (end_at bs at (omega arith) is)
