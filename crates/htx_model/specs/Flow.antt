-- Blocks that go behind others, so that the flow stays: data joins a last block of data.
use Rattle.std.specs.Prelude.{◌<◌, List, [], ◌∷◌, ◌++◌}
use Rattle.std.specs.List.{AllByRecursion}
use Rattle.htx_model.specs.Block.{Block, RequestLine, ResponseLine, Header, EndHeaders, Data, Trailer, EndTrailers, payload_len}
use Rattle.htx_model.specs.Blocks.{append_data}

-- a block behind others
abbrev pub put_behind : List Block → Block → List Block
put_behind to (Data p) = append_data to p
put_behind to (RequestLine a b c) = to ++ RequestLine a b c ∷ []
put_behind to (ResponseLine a b c) = to ++ ResponseLine a b c ∷ []
put_behind to (Header n v) = to ++ Header n v ∷ []
put_behind to EndHeaders = to ++ EndHeaders ∷ []
put_behind to (Trailer n v) = to ++ Trailer n v ∷ []
put_behind to EndTrailers = to ++ EndTrailers ∷ []

-- blocks behind others, one by one
abbrev pub added : List Block → List Block → List Block
added to [] = to
added to (b ∷ bs) = added (put_behind to b) bs

-- each block has a byte, as those of an array have
abbrev pub AreFilled : List Block → Type 0
AreFilled bs = AllByRecursion (λ b. 0 < payload_len b) bs
