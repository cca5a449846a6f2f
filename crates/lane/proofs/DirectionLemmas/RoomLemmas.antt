-- What fits an empty array.
use Rattle.std.proofs.Common.{◌≡◌, ℕ, suc, ◌+◌, ◌*◌, ◌<◌, ◌≤◌, inl, inr, List, [], ◌∷◌, ◌++◌, true, false, refl, sym, ap, ◌∙◌, subst, length, cond, arith}
use Rattle.std.specs.Prelude.{map, filter, reverse}
use Rattle.std.specs.List.{flat_map}
use Rattle.std.specs.Str.{str_to_ascii_lowercase}
use Rattle.std.proofs.lemmas.List.{length-append, length-map, length-reverse, append-nil}
use Rattle.std.proofs.lemmas.List.Sums.{sum_by-cons, sum_by-append}
use Rattle.std.specs.Char.{to_ascii_lowercase}
use Rattle.httparse.specs.Grammar as grammar
use Rattle.httparse.specs.Grammar.{LineEnd, crlf, lf, print_end, print_field, print_section, trim_ows, skip_ows, is_ows}
use Rattle.httparse.specs.Spans.{name_and_value}
use Rattle.http_model.specs.declared.Limits.{Limits}
use Rattle.http_model.specs.Head.{Field, trailer_block, ended_trailers}
use Rattle.htx_model.specs.Block.{Block, weight, payload_len, EndTrailers}
use Rattle.htx_model.specs.Blocks.{load}
use Rattle.htx_xfer.specs.Moved.{payload}
use Rattle.h1_body.specs.Section.{section_limit, HasTrailers, is_kept, folded}
use Rattle.h1_body.specs.Trailers.{trailer_blocks, kept_blocks}

-- ---- trailers

skipped : (bytes : List ℕ) → length (skip_ows bytes) ≤ length bytes
skipped [] = omega arith
skipped (b ∷ bytes) =
    let rest = skipped bytes in
    elim (is_ows b) as (λ t. length (cond t (skip_ows bytes) (b ∷ bytes)) ≤ length (b ∷ bytes)) [ true ↦ omega (arith, rest) | false ↦ omega arith ]

shorter : (raw : List ℕ) → length (trim_ows raw) ≤ length raw
unfolding trim_ows
shorter raw =
    let first = skipped raw in
    let second = skipped (reverse (skip_ows raw)) in
    let a = length-reverse (skip_ows raw) in
    let b = length-reverse (skip_ows (reverse (skip_ows raw))) in
    omega arith

pub some_end : (last : LineEnd) → 0 < length (print_end last)
some_end crlf = omega arith
some_end lf = omega arith

light : (f : grammar.Field) → weight (trailer_block (folded (name_and_value f))) ≤ length (print_field f) + 6
light f =
    let len : length (str_to_ascii_lowercase f.name) ≡ length f.name = length-map f.name to_ascii_lowercase in
    let value = shorter f.raw in
    let end = some_end f.end in
    let one : length (print_field f) ≡ length (f.name ++ 58 ∷ f.raw) + length (print_end f.end) = length-append (f.name ++ 58 ∷ f.raw) (print_end f.end) in
    let two : length (f.name ++ 58 ∷ f.raw) ≡ length f.name + suc (length f.raw) = length-append f.name (58 ∷ f.raw) in
    let all : 8 + (length (str_to_ascii_lowercase f.name) + length (trim_ows f.raw)) ≤ length (print_field f) + 6 = omega arith in
    all

kept_light : (fields : List grammar.Field) → load (kept_blocks (map name_and_value fields)) ≤ length (flat_map print_field fields) + 6 * length fields
kept_light [] = omega arith
kept_light (f ∷ fields) =
    let rest = kept_light fields in
    let here = light f in
    let len : length (print_field f ++ flat_map print_field fields) ≡ length (print_field f) + length (flat_map print_field fields) = length-append (print_field f) (flat_map print_field fields) in
    elim (is_kept (name_and_value f)) as (λ t. load (map trailer_block (map folded (cond t (name_and_value f ∷ filter is_kept (map name_and_value fields)) (filter is_kept (map name_and_value fields)))))
    ≤ length (print_field f ++ flat_map print_field fields) + 6 * length (f ∷ fields)) [
      | true ↦ (
          let sum = sum_by-cons weight (trailer_block (folded (name_and_value f))) (map trailer_block (map folded (filter is_kept (map name_and_value fields)))) in omega arith)
      | false ↦ omega arith
    ]

ended_light : (blocks : List Block) → load (ended_trailers blocks) ≤ load blocks + 9
ended_light [] = omega arith
ended_light (b ∷ blocks) =
    let sum : load ((b ∷ blocks) ++ EndTrailers ∷ []) ≡ load (b ∷ blocks) + load (EndTrailers ∷ []) = sum_by-append weight (b ∷ blocks) (EndTrailers ∷ []) in
    omega arith

-- the trailers of a section within its limit fit an array of the configured size
pub trailers_fit : (limits : Limits) (section : List ℕ) (trailers : List Field) → 1024 ≤ limits.bufsize → length section ≤ section_limit limits → HasTrailers section trailers
    → load (trailer_blocks trailers) ≤ limits.bufsize
trailers_fit limits section trailers least short (inl none) = subst (λ (ts : List Field). load (trailer_blocks ts) ≤ limits.bufsize) (sym none.1) (omega arith)
trailers_fit limits section trailers least short (inr (fields, begins, are)) =
    let all = kept_light fields in
    let ended = ended_light (kept_blocks (map name_and_value fields)) in
    let few = begins.few in
    let end = some_end begins.last in
    let text : length section ≡ length (flat_map print_field fields) + length (print_end begins.last) =
    ap length (begins.reads.1 ∙ append-nil (print_section fields begins.last)) ∙ length-append (flat_map print_field fields) (print_end begins.last) in
    subst (λ (ts : List Field). load (trailer_blocks ts) ≤ limits.bufsize) (sym are) (omega arith)

-- payloads weigh less than blocks
pub payload-le : (blocks : List Block) → payload blocks ≤ load blocks
payload-le [] = omega arith
payload-le (b ∷ blocks) =
    let rest = payload-le blocks in
    let one = sum_by-cons payload_len b blocks in
    let two = sum_by-cons weight b blocks in
    let here : weight b ≡ 8 + payload_len b = refl in
    omega arith
