-- Messages with `connection: close` behind their fields.
use Rattle.std.proofs.Common.{◌≡◌, ◌+◌, List, [], ◌∷◌, ◌++◌, map, refl, ap, ◌∙◌, arith}
use Rattle.http_model.specs.Block.{Block, RequestLine, ResponseLine, Header, EndHeaders, Data, Trailer, EndTrailers}
use Rattle.http_model.specs.Blocks.{load, append_data}
use Rattle.http_model.specs.Head.{Head, Message, head_blocks, front_blocks, message_blocks, ended_trailers, trailer_block}
use Rattle.http_model.specs.Finish.{close_field}
use Rattle.http_model.specs.Refusal.{closing}
use Rattle.header_ops.specs.Headers.{with_header, HasEnd}
use Rattle.header_ops.proofs.PublicLaws.{load-with_header}
use Rattle.px_reply.proofs.Sent.{Adds}

-- what a list weighs with `connection: close`
pub load-closed : (bs : List Block) → HasEnd bs → load (with_header (Header close_field.0 close_field.1) bs) ≡ load bs + 23
load-closed bs h = omega (arith, load-with_header (Header close_field.0 close_field.1) bs h)

pub ruleset closes = (load-closed)

-- ---- what stands behind an end of headers leaves it

HasEnd-append : (bs cs : List Block) → HasEnd bs → HasEnd (bs ++ cs)
HasEnd-append [] cs h = absurd h
HasEnd-append (EndHeaders ∷ bs) cs h = tt
HasEnd-append (RequestLine x y z ∷ bs) cs h = HasEnd-append bs cs h
HasEnd-append (ResponseLine x y z ∷ bs) cs h = HasEnd-append bs cs h
HasEnd-append (Header n v ∷ bs) cs h = HasEnd-append bs cs h
HasEnd-append (Data p ∷ bs) cs h = HasEnd-append bs cs h
HasEnd-append (Trailer n v ∷ bs) cs h = HasEnd-append bs cs h
HasEnd-append (EndTrailers ∷ bs) cs h = HasEnd-append bs cs h

with_header-append : (f : Block) (bs cs : List Block) → HasEnd bs → with_header f (bs ++ cs) ≡ with_header f bs ++ cs
with_header-append f [] cs h = absurd h
with_header-append f (EndHeaders ∷ bs) cs h = refl
with_header-append f (RequestLine x y z ∷ bs) cs h = ap (λ (l : List Block). RequestLine x y z ∷ l) (with_header-append f bs cs h)
with_header-append f (ResponseLine x y z ∷ bs) cs h = ap (λ (l : List Block). ResponseLine x y z ∷ l) (with_header-append f bs cs h)
with_header-append f (Header n v ∷ bs) cs h = ap (λ (l : List Block). Header n v ∷ l) (with_header-append f bs cs h)
with_header-append f (Data p ∷ bs) cs h = ap (λ (l : List Block). Data p ∷ l) (with_header-append f bs cs h)
with_header-append f (Trailer n v ∷ bs) cs h = ap (λ (l : List Block). Trailer n v ∷ l) (with_header-append f bs cs h)
with_header-append f (EndTrailers ∷ bs) cs h = ap (λ (l : List Block). EndTrailers ∷ l) (with_header-append f bs cs h)

-- ---- messages

abbrev pub Ends : Type 0
Ends = (head : Head) → HasEnd (head_blocks head)

front_end : Ends → (m : Message) → HasEnd (front_blocks m.head m.body)
front_end end m = HasEnd-append (head_blocks m.head) (append_data [] m.body) (end m.head)

pub message_end : Ends → (m : Message) → HasEnd (message_blocks m)
message_end end m = HasEnd-append (front_blocks m.head m.body) (ended_trailers (map trailer_block m.trailers)) (front_end end m)

pub message_closed : Ends → Adds → (m : Message) → with_header (Header close_field.0 close_field.1) (message_blocks m) ≡ message_blocks (closing m)
message_closed end add m =
    let field = Header close_field.0 close_field.1 in
    let behind = ended_trailers (map trailer_block m.trailers) in
    with_header-append field (front_blocks m.head m.body) behind (front_end end m)
    ∙ ap (λ (l : List Block). l ++ behind)
    (with_header-append field (head_blocks m.head) (append_data [] m.body) (end m.head)
    ∙ ap (λ (l : List Block). l ++ append_data [] m.body) (add close_field.0 close_field.1 m.head))
