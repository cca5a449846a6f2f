-- What the parser says of the section of which trailers are made.
use Rattle.std.proofs.Common.{◌≡◌, ◌++◌, ◌<◌, ℕ, List, [], sym, ap, ◌∙◌, arith, length, take, drop, subst, get_or, inl, inr, length-append}
use Rattle.std.specs.Prelude.{map, All, Ok}
use Rattle.std.proofs.lemmas.List.{length-map, get_or-map}
use Rattle.httparse.specs.declared.Error.{Error}
use Rattle.httparse.specs.declared.Status.{Status}
use Rattle.httparse.specs.declared.spans.HeaderSpan.{HeaderSpan}
use Rattle.httparse.specs.Outcome.{IfComplete}
use Rattle.httparse.specs.Grammar as grammar
use Rattle.httparse.specs.Grammar.{LineEnd, IsField, print_section}
use Rattle.httparse.specs.Spans.{IsSectionOf, IsSectionAt, header_bytes, span_bytes, name_and_value}
use Rattle.httparse.proofs.GrammarLemmas.{section_unique}
use Rattle.http_model.specs.Head.{Field, ended_trailers}
use Rattle.h1_body.specs.Section.{HasShortName, BeginsFields, HasTrailers, trailers_of}
use Rattle.h1_body.specs.Trailers.{HasGoodName, kept_blocks, trailer_blocks}
use Rattle.h1_body.proofs.Sections.{some_section}

pub section_at : (w : List ℕ) (headers : List HeaderSpan) (used count : ℕ) (s : Status (ℕ × ℕ)) → s ≡ Status.Complete (used, count)
    → IfComplete {E = Error} (Ok s) (IsSectionOf w 0 headers) → IsSectionOf w 0 headers (used, count)
section_at w headers used count s is found = subst (λ (t : Status (ℕ × ℕ)). IfComplete {E = Error} (Ok t) (IsSectionOf w 0 headers)) is found

-- the fields of a section are those that the parser found
found_are : (w : List ℕ) (headers : List HeaderSpan) (used count : ℕ) (h : IsSectionOf w 0 headers (used, count)) (fields : List grammar.Field) → BeginsFields w fields [] → h.0 ≡ fields
found_are w headers used count h fields b =
    let at : IsSectionAt w 0 headers used count h.0 h.1 = h.2 in
    let same = section_unique w h.0 fields h.1 b.last (drop used w) [] at.reads b.reads in same.0

pub are_fields : (w : List ℕ) (headers : List HeaderSpan) (used count : ℕ) (h : IsSectionOf w 0 headers (used, count)) (fields : List grammar.Field) → BeginsFields w fields []
    → map (header_bytes w) (take count headers) ≡ map name_and_value fields
are_fields w headers used count h fields b =
    let at : IsSectionAt w 0 headers used count h.0 h.1 = h.2 in
    at.fields_are ∙ ap (map name_and_value) (found_are w headers used count h fields b)

good_names : (w : List ℕ) (spans : List HeaderSpan) (fields : List grammar.Field) → map (header_bytes w) spans ≡ map name_and_value fields → All IsField fields → All HasShortName fields
    → All (HasGoodName w) spans
good_names w spans fields are valid short = λ k d lt.
    let f : grammar.Field = record { name = []; raw = []; end = LineEnd.lf } in
    let e : Field = name_and_value f in
    let sizes : length (map (header_bytes w) spans) ≡ length (map name_and_value fields) = ap length are in
    let there : k < length fields = omega (arith, length-map spans (header_bytes w), length-map fields name_and_value) in
    let same : header_bytes w (get_or spans k d) ≡ name_and_value (get_or fields k f)
    = sym (get_or-map (header_bytes w) spans k d e lt) ∙ ap (λ xs. get_or xs k e) are ∙ get_or-map name_and_value fields k f e there in
    let name : span_bytes w (get_or spans k d).name ≡ (get_or fields k f).name = ap (λ p. p.0) same in
    let size : length (span_bytes w (get_or spans k d).name) ≡ length (get_or fields k f).name = ap length name in
    let is : IsField (get_or fields k f) = valid k f there in
    record { named = omega (arith, is.name.0); short = omega (arith, short k f there) }

pub good_names_of : (w : List ℕ) (headers : List HeaderSpan) (used count : ℕ) → IsSectionOf w 0 headers (used, count) → (fields : List grammar.Field) → BeginsFields w fields []
    → All (HasGoodName w) (take count headers)
good_names_of w headers used count h fields b = good_names w (take count headers) fields (are_fields w headers used count h fields b) b.reads.0 b.named

-- a section has one list of trailers
pub trailers_are : (w : List ℕ) (fields : List grammar.Field) → BeginsFields w fields [] → (trailers : List Field) → HasTrailers w trailers → trailers ≡ trailers_of fields
trailers_are w fields b trailers (inl e) =
    let some : 0 < length (print_section fields b.last) = some_section fields b.last in
    let size : length (print_section fields b.last ++ []) ≡ 0 = sym (ap length b.reads.1) ∙ ap length e.0 in
    absurd (omega (arith, length-append (print_section fields b.last) []))
trailers_are w fields b trailers (inr h) =
    let same = section_unique w h.0 fields h.1.last b.last [] [] h.1.reads b.reads in
    h.2 ∙ ap trailers_of same.0

-- the blocks that are added are those of the trailers
pub blocks_are : (w : List ℕ) (headers : List HeaderSpan) (used count : ℕ) → IsSectionOf w 0 headers (used, count) → (fields : List grammar.Field) → BeginsFields w fields []
    → (trailers : List Field) → HasTrailers w trailers → ended_trailers (kept_blocks (map (header_bytes w) (take count headers))) ≡ trailer_blocks trailers
blocks_are w headers used count h fields b trailers has =
    ap (λ fs. ended_trailers (kept_blocks fs)) (are_fields w headers used count h fields b) ∙ sym (ap trailer_blocks (trailers_are w fields b trailers has))
