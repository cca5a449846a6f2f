-- Edits of the blocks of a head.
use Rattle.std.proofs.Common.{◌≡◌, ℕ, List, [], ◌∷◌, ◌++◌, Bool, true, false, cond, not, map, filter, refl, ap, ◌∙◌}
use Rattle.http_model.specs.Block.{Block, Header, EndHeaders, value_of}
use Rattle.px_bytes.specs.Values.{values_in}
use Rattle.header_ops.specs.Lists.{fulls_named, values_named}
use Rattle.header_ops.specs.Matching.{is_header_matching, is_field_matching, without_matching}
use Rattle.header_ops.specs.declared.matching.NameMatch.{NameMatch}
use Rattle.http_model.specs.Head.{Field, StartLine, RequestLine, StatusLine, Head, line_block, header_block, head_blocks}
use Rattle.http_model.specs.Fields.{is_named, is_named_among, fields_named, without, without_each, set_field, add_field}
use Rattle.http_model.specs.Finish.{framing_names}
use Rattle.header_ops.specs.Headers.{is_header_named, is_framing_header, without_framing, without_headers, with_header, set_header, HasEnd}

HasEnd-ended : (fs : List Field) → HasEnd (map header_block fs ++ EndHeaders ∷ [])
HasEnd-ended [] = tt
HasEnd-ended (f ∷ fs) = HasEnd-ended fs

-- a filter of blocks that keeps the line and the end, and of fields those that pass
filter-ended : (p : Block → Bool) (q : Field → Bool) → ((f : Field) → p (header_block f) ≡ q f) → p EndHeaders ≡ true → (fs : List Field)
    → filter p (map header_block fs ++ EndHeaders ∷ []) ≡ map header_block (filter q fs) ++ EndHeaders ∷ []
filter-ended p q same end [] = ap (λ t. cond t (EndHeaders ∷ []) []) end
filter-ended p q same end (f ∷ fs) =
    ap (λ t. cond t (header_block f ∷ filter p (map header_block fs ++ EndHeaders ∷ [])) (filter p (map header_block fs ++ EndHeaders ∷ []))) (same f)
    ∙ one (q f) f (filter p (map header_block fs ++ EndHeaders ∷ [])) (filter q fs) (filter-ended p q same end fs)
  where
    one : (t : Bool) (f : Field) (bs : List Block) (rest : List Field) → bs ≡ map header_block rest ++ EndHeaders ∷ []
        → cond t (header_block f ∷ bs) bs ≡ map header_block (cond t (f ∷ rest) rest) ++ EndHeaders ∷ []
    one true f bs rest e = ap (λ b. header_block f ∷ b) e
    one false f bs rest e = e

without-ended : (name : List ℕ) (fs : List Field) → without_headers name (map header_block fs ++ EndHeaders ∷ []) ≡ map header_block (without name fs) ++ EndHeaders ∷ []
without-ended name fs = filter-ended (λ b. not (is_header_named name b)) (λ f. not (is_named name f)) (λ f. refl) refl fs

framing-ended : (fs : List Field) → without_framing (map header_block fs ++ EndHeaders ∷ []) ≡ map header_block (without_each framing_names fs) ++ EndHeaders ∷ []
framing-ended fs = filter-ended (λ b. not (is_framing_header b)) (λ f. not (is_named_among framing_names f)) (λ f. refl) refl fs

with-ended : (name value : List ℕ) (fs : List Field) → with_header (Header name value) (map header_block fs ++ EndHeaders ∷ []) ≡ map header_block (fs ++ (name, value) ∷ []) ++ EndHeaders ∷ []
with-ended name value [] = refl
with-ended name value (f ∷ fs) = ap (λ b. header_block f ∷ b) (with-ended name value fs)

pub HasEnd-head_blocks : (head : Head) → HasEnd (head_blocks head)
HasEnd-head_blocks head = by_line head.line
  where
    by_line : (line : StartLine) → HasEnd (line_block line ∷ (map header_block head.fields ++ EndHeaders ∷ []))
    by_line (RequestLine a b c) = HasEnd-ended head.fields
    by_line (StatusLine a b c) = HasEnd-ended head.fields

pub without-head_blocks : (name : List ℕ) (head : Head) → without_headers name (head_blocks head) ≡ head_blocks (record head { fields = without name head.fields })
without-head_blocks name head = by_line head.line
  where
    by_line : (line : StartLine) → without_headers name (line_block line ∷ (map header_block head.fields ++ EndHeaders ∷ [])) ≡ line_block line ∷ (map header_block (without name head.fields) ++ EndHeaders ∷ [])
    by_line (RequestLine a b c) = ap (λ t. line_block (RequestLine a b c) ∷ t) (without-ended name head.fields)
    by_line (StatusLine a b c) = ap (λ t. line_block (StatusLine a b c) ∷ t) (without-ended name head.fields)

pub with-head_blocks : (name value : List ℕ) (head : Head) → with_header (Header name value) (head_blocks head) ≡ head_blocks (add_field name value head)
with-head_blocks name value head = by_line head.line
  where
    by_line : (line : StartLine) → with_header (Header name value) (line_block line ∷ (map header_block head.fields ++ EndHeaders ∷ [])) ≡ line_block line ∷ (map header_block (head.fields ++ (name, value) ∷ []) ++ EndHeaders ∷ [])
    by_line (RequestLine a b c) = ap (λ t. line_block (RequestLine a b c) ∷ t) (with-ended name value head.fields)
    by_line (StatusLine a b c) = ap (λ t. line_block (StatusLine a b c) ∷ t) (with-ended name value head.fields)

pub set-head_blocks : (name value : List ℕ) (head : Head) → set_header name value (head_blocks head) ≡ head_blocks (set_field name value head)
set-head_blocks name value head =
    ap (with_header (Header name value)) (without-head_blocks name head)
    ∙ with-head_blocks name value (record head { fields = without name head.fields })

pub framing-head_blocks : (head : Head) → without_framing (head_blocks head) ≡ head_blocks (record head { fields = without_each framing_names head.fields })
framing-head_blocks head = by_line head.line
  where
    by_line : (line : StartLine) → without_framing (line_block line ∷ (map header_block head.fields ++ EndHeaders ∷ [])) ≡ line_block line ∷ (map header_block (without_each framing_names head.fields) ++ EndHeaders ∷ [])
    by_line (RequestLine a b c) = ap (λ t. line_block (RequestLine a b c) ∷ t) (framing-ended head.fields)
    by_line (StatusLine a b c) = ap (λ t. line_block (StatusLine a b c) ∷ t) (framing-ended head.fields)

matching-ended : (which : NameMatch) (fs : List Field) → without_matching which (map header_block fs ++ EndHeaders ∷ []) ≡ map header_block (filter (λ f. not (is_field_matching which f)) fs) ++ EndHeaders ∷ []
matching-ended which fs = filter-ended (λ b. not (is_header_matching which b)) (λ f. not (is_field_matching which f)) (λ f. refl) refl fs

pub matching-head_blocks : (which : NameMatch) (head : Head) → without_matching which (head_blocks head) ≡ head_blocks (record head { fields = filter (λ f. not (is_field_matching which f)) head.fields })
matching-head_blocks which head = by_line head.line
  where
    by_line : (line : StartLine) → without_matching which (line_block line ∷ (map header_block head.fields ++ EndHeaders ∷ [])) ≡ line_block line ∷ (map header_block (filter (λ f. not (is_field_matching which f)) head.fields) ++ EndHeaders ∷ [])
    by_line (RequestLine a b c) = ap (λ t. line_block (RequestLine a b c) ∷ t) (matching-ended which head.fields)
    by_line (StatusLine a b c) = ap (λ t. line_block (StatusLine a b c) ∷ t) (matching-ended which head.fields)

fulls-ended : (name : List ℕ) (fs : List Field) → fulls_named name (map header_block fs ++ EndHeaders ∷ []) ≡ map (λ (f : Field). f.1) (fields_named name fs)
fulls-ended name [] = refl
fulls-ended name (f ∷ fs) = by_test (is_named name f) (filter (is_header_named name) (map header_block fs ++ EndHeaders ∷ [])) (fields_named name fs) (fulls-ended name fs)
  where
    by_test : (t : Bool) (bs : List Block) (rest : List Field) → map value_of bs ≡ map (λ (g : Field). g.1) rest → map value_of (cond t (header_block f ∷ bs) bs) ≡ map (λ (g : Field). g.1) (cond t (f ∷ rest) rest)
    by_test true bs rest e = ap (λ l. f.1 ∷ l) e
    by_test false bs rest e = e

pub fulls-head_blocks : (name : List ℕ) (head : Head) → fulls_named name (head_blocks head) ≡ map (λ (f : Field). f.1) (fields_named name head.fields)
fulls-head_blocks name head = by_line head.line
  where
    by_line : (line : StartLine) → fulls_named name (line_block line ∷ (map header_block head.fields ++ EndHeaders ∷ [])) ≡ map (λ (f : Field). f.1) (fields_named name head.fields)
    by_line (RequestLine a b c) = fulls-ended name head.fields
    by_line (StatusLine a b c) = fulls-ended name head.fields

pub values-head_blocks : (name : List ℕ) (head : Head) → values_named name (head_blocks head) ≡ values_in (map (λ (f : Field). f.1) (fields_named name head.fields))
values-head_blocks name head = ap values_in (fulls-head_blocks name head)
