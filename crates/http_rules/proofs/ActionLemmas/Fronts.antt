-- Edits of the blocks of a head with a body behind it.
use Rattle.std.proofs.Common.{◌≡◌, ℕ, List, [], ◌∷◌, ◌++◌, Bool, true, false, cond, not, map, filter, refl, sym, ap, ◌∙◌, subst, append_assoc}
use Rattle.http_model.specs.Block.{Block, Header, EndHeaders, Data}
use Rattle.http_model.specs.Blocks.{append_data}
use Rattle.http_model.specs.Head.{Field, StartLine, RequestLine, StatusLine, Head, line_block, header_block, front_blocks}
use Rattle.http_model.specs.Fields.{is_named, without, set_field, add_field}
use Rattle.header_ops.specs.Headers.{is_header_named, with_header, set_header, HasEnd}

-- what stands behind the line
abbrev pub behind_line : List Field → List ℕ → List Block
behind_line fields body = map header_block fields ++ EndHeaders ∷ append_data [] body

pub front_is : (line : StartLine) (fields : List Field) (body : List ℕ)
    → front_blocks (record { line = line; fields = fields }) body ≡ line_block line ∷ behind_line fields body
front_is line fields body = ap (λ bs. line_block line ∷ bs) (append_assoc (map header_block fields) (EndHeaders ∷ []) (append_data [] body))

ends : (fields : List Field) (tail : List Block) → HasEnd (map header_block fields ++ EndHeaders ∷ tail)
ends [] tail = tt
ends (f ∷ fields) tail = ends fields tail

line_ends : (line : StartLine) (rest : List Block) → HasEnd rest → HasEnd (line_block line ∷ rest)
line_ends (RequestLine a b c) rest h = h
line_ends (StatusLine a b c) rest h = h

-- the blocks have an end of headers
pub front_ends : (head : Head) (body : List ℕ) → HasEnd (front_blocks head body)
front_ends head body =
    subst HasEnd (sym (front_is head.line head.fields body)) (line_ends head.line (behind_line head.fields body) (ends head.fields (append_data [] body)))

with_behind : (name value : List ℕ) (fields : List Field) (tail : List Block)
    → with_header (Header name value) (map header_block fields ++ EndHeaders ∷ tail) ≡ map header_block (fields ++ (name, value) ∷ []) ++ EndHeaders ∷ tail
with_behind name value [] tail = refl
with_behind name value (f ∷ fields) tail = ap (λ bs. header_block f ∷ bs) (with_behind name value fields tail)

with_line_behind : (line : StartLine) (field : Block) (rest : List Block) → with_header field (line_block line ∷ rest) ≡ line_block line ∷ with_header field rest
with_line_behind (RequestLine a b c) field rest = refl
with_line_behind (StatusLine a b c) field rest = refl

-- one more field
pub front_with : (name value : List ℕ) (head : Head) (body : List ℕ) → with_header (Header name value) (front_blocks head body) ≡ front_blocks (add_field name value head) body
front_with name value head body =
    ap (with_header (Header name value)) (front_is head.line head.fields body)
    ∙ with_line_behind head.line (Header name value) (behind_line head.fields body)
    ∙ ap (λ bs. line_block head.line ∷ bs) (with_behind name value head.fields (append_data [] body))
    ∙ sym (front_is head.line (head.fields ++ (name, value) ∷ []) body)

-- a filter that keeps the end, and of fields those that pass
kept : (p : Block → Bool) (q : Field → Bool) → ((f : Field) → p (header_block f) ≡ q f) → p EndHeaders ≡ true → (fields : List Field) (tail : List Block) → filter p tail ≡ tail
    → filter p (map header_block fields ++ EndHeaders ∷ tail) ≡ map header_block (filter q fields) ++ EndHeaders ∷ tail
kept p q same end [] tail stays = ap (λ t. cond t (EndHeaders ∷ filter p tail) (filter p tail)) end ∙ ap (λ bs. EndHeaders ∷ bs) stays
kept p q same end (f ∷ fields) tail stays =
    ap (λ t. cond t (header_block f ∷ filter p (map header_block fields ++ EndHeaders ∷ tail)) (filter p (map header_block fields ++ EndHeaders ∷ tail))) (same f)
    ∙ one (q f) (filter p (map header_block fields ++ EndHeaders ∷ tail)) (filter q fields) (kept p q same end fields tail stays)
  where
    one : (t : Bool) (bs : List Block) (rest : List Field) → bs ≡ map header_block rest ++ EndHeaders ∷ tail
        → cond t (header_block f ∷ bs) bs ≡ map header_block (cond t (f ∷ rest) rest) ++ EndHeaders ∷ tail
    one true bs rest e = ap (λ b. header_block f ∷ b) e
    one false bs rest e = e

data_stays : (p : Block → Bool) → ((bytes : List ℕ) → p (Data bytes) ≡ true) → (body : List ℕ) → filter p (append_data [] body) ≡ append_data [] body
data_stays p keeps [] = refl
data_stays p keeps (b ∷ body) = ap (λ t. cond t (Data (b ∷ body) ∷ []) []) (keeps (b ∷ body))

-- fields go
pub front_filtered : (p : Block → Bool) (q : Field → Bool) → ((f : Field) → p (header_block f) ≡ q f) → ((line : StartLine) → p (line_block line) ≡ true) → p EndHeaders ≡ true → ((bytes : List ℕ) → p (Data bytes) ≡ true)
    → (head : Head) (body : List ℕ) → filter p (front_blocks head body) ≡ front_blocks (record { line = head.line; fields = filter q head.fields }) body
front_filtered p q same line end data_passes head body =
    ap (filter p) (front_is head.line head.fields body)
    ∙ ap (λ t. cond t (line_block head.line ∷ filter p (behind_line head.fields body)) (filter p (behind_line head.fields body))) (line head.line)
    ∙ ap (λ bs. line_block head.line ∷ bs) (kept p q same end head.fields (append_data [] body) (data_stays p data_passes body))
    ∙ sym (front_is head.line (filter q head.fields) body)

no_line_named : (name : List ℕ) (line : StartLine) → not (is_header_named name (line_block line)) ≡ true
no_line_named name (RequestLine a b c) = refl
no_line_named name (StatusLine a b c) = refl

-- one in place of all of its name
pub front_set : (name value : List ℕ) (head : Head) (body : List ℕ) → set_header name value (front_blocks head body) ≡ front_blocks (set_field name value head) body
front_set name value head body =
    ap (with_header (Header name value)) (front_filtered (λ b. not (is_header_named name b)) (λ f. not (is_named name f)) (λ f. refl) (no_line_named name) refl (λ bytes. refl) head body)
    ∙ front_with name value (record { line = head.line; fields = without name head.fields }) body
