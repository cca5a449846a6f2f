-- What the parser of fields says of a section.
use Rattle.std.proofs.Common.{inl, inr, ◌≡◌, ℕ, suc, ◌+◌, ◌<◌, ◌≤◌, List, [], ◌∷◌, ◌++◌, refl, sym, ap, ◌∙◌, arith, length, take, drop, subst, get_or, length-append, length-take, length-drop}
use Rattle.std.specs.Prelude.{map, All, true, false, ◌&&◌}
use Rattle.std.specs.List.{list_all, flat_map}
use Rattle.std.proofs.lemmas.Bool.{leb-true, le-leb, cases_lt}
use Rattle.std.proofs.lemmas.List.Sums.{AllPass-from_list_all}
use Rattle.std.proofs.lemmas.List.{length-map, append-nil, get_or-map, take-append-drop, take-append-le}
use Rattle.std.proofs.Math.Nat.{min-le_right}
use Rattle.std.proofs.Math.Seq.{take-append_seam}
use Rattle.httparse.specs.declared.spans.HeaderSpan.{HeaderSpan}
use Rattle.httparse.specs.Grammar as grammar
use Rattle.httparse.specs.Grammar.{LineEnd, print_end, print_field, print_section, ReadsSection, HasNoSection}
use Rattle.httparse.specs.Spans.{AreFieldsAt, IsSectionOf, IsSectionAt, SectionOverflows, header_bytes, name_and_value}
use Rattle.httparse.proofs.GrammarLemmas.{section_unique, ReadsSection-append}
use Rattle.h1_head.specs.Feeds.{feeds}
use Rattle.h1_head.proofs.PublicLaws.{feeds-append, feeds-print_end, feeds-fields, tail_ends, feeds-before, front_in}
use Rattle.h1_body.specs.Numbers.{most_trailers, most_lines}
use Rattle.h1_body.specs.Read.{is_short}
use Rattle.h1_body.specs.Section.{HasShortName, BeginsSection, IsHopelessSection}

fields_few : (w : List ℕ) (headers : List HeaderSpan) (count : ℕ) (fields : List grammar.Field) → AreFieldsAt w headers count fields → length headers ≡ 64 → length fields ≤ 64
fields_few w headers count fields are room =
    let e : length (map (header_bytes w) (take count headers)) ≡ length (map name_and_value fields) = ap length are in
    let f : length (take count headers) ≤ length headers = omega (arith, length-take count headers, min-le_right count (length headers)) in
    omega (arith, length-map (take count headers) (header_bytes w), length-map fields name_and_value)

named_from : (fields : List grammar.Field) → list_all is_short (map name_and_value fields) ≡ true → All HasShortName fields
named_from fields are = λ k d lt.
    let each = AllPass-from_list_all is_short (map name_and_value fields) are in
    let one : is_short (get_or (map name_and_value fields) k (name_and_value d)) ≡ true = each k (name_and_value d) (omega (arith, length-map fields name_and_value)) in
    leb-true (length (get_or fields k d).name) 255 (ap is_short (sym (get_or-map name_and_value fields k d (name_and_value d) lt)) ∙ one)

named_to : (fields : List grammar.Field) → All HasShortName fields → list_all is_short (map name_and_value fields) ≡ true
named_to [] are = refl
named_to (f ∷ fields) are =
    let first : length f.name ≤ 255 = are 0 f (omega arith) in
    let others : All HasShortName fields = λ k d lt. are (suc k) d (omega arith) in
    ap (λ t. t && list_all is_short (map name_and_value fields)) (le-leb (length f.name) 255 first) ∙ named_to fields others

-- a section has a byte at least, the end of its empty line
pub some_end : (last : LineEnd) → 0 < length (print_end last)
some_end LineEnd.crlf = omega arith
some_end LineEnd.lf = omega arith

pub some_section : (fields : List grammar.Field) (last : LineEnd) → 0 < length (print_section fields last)
some_section fields last = omega (arith, length-append (flat_map print_field fields) (print_end last), some_end last)

-- a section that the parser found, within the limits
pub found_whole : (most n count : ℕ) (w : List ℕ) (headers : List HeaderSpan) → length headers ≡ 64 → n ≤ length w → IsSectionOf w 0 headers (n, count)
    → n ≤ most → list_all is_short (map (header_bytes w) (take count headers)) ≡ true → (0 < n) × (n ≤ length w) × ((fields : List grammar.Field) × BeginsSection most (take n w) fields [])
found_whole most n count w headers full fits h short names =
    let fields : List grammar.Field = h.0 in
    let last : LineEnd = h.1 in
    let at : IsSectionAt w 0 headers n count fields last = h.2 in
    let len : n ≡ length (print_section fields last) = omega (arith, at.len_is) in
    let spelled : take n w ≡ print_section fields last =
    ap (λ k. take k w) len ∙ ap (λ xs. take (length (print_section fields last)) xs) at.reads.1 ∙ take-append_seam (print_section fields last) (drop n w) in
    let some : 0 < n = omega (arith, some_section fields last) in (
      some,
      fits,
      (
        fields,
        record {
          begins = record {
            last = last;
            reads = (at.reads.0, spelled ∙ sym (append-nil (print_section fields last)));
            few = fields_few w headers count fields at.fields_are full;
            named = named_from fields (ap (list_all is_short) (sym at.fields_are) ∙ names);
          };
          short = omega (arith, length-take n w);
        },
      ),
    )

-- each section of a continuation is the one that was found
same_section : (most n count : ℕ) (w : List ℕ) (headers : List HeaderSpan) (h : IsSectionOf w 0 headers (n, count)) (more : List ℕ) (fields : List grammar.Field) (rest : List ℕ)
    → BeginsSection most (w ++ more) fields rest → (fields ≡ h.0) × (rest ≡ drop n w ++ more)
same_section most n count w headers h more fields rest b =
    let at : IsSectionAt w 0 headers n count h.0 h.1 = h.2 in
    let whole : ReadsSection (w ++ more) h.0 h.1 (drop n w ++ more) = ReadsSection-append w h.0 h.1 (drop n w) more at.reads in
    let same = section_unique (w ++ more) fields h.0 b.begins.last h.1 rest (drop n w ++ more) b.begins.reads whole in
    (same.0, same.2)

-- a section that the parser found, past its limit
pub found_long : (most n count : ℕ) (w : List ℕ) (headers : List HeaderSpan) → n ≤ length w → IsSectionOf w 0 headers (n, count) → most < n → IsHopelessSection most w
found_long most n count w headers fits h over = λ more fields rest b.
    let same = same_section most n count w headers h more fields rest b in
    let size : length rest ≡ length (drop n w) + length more = ap length same.1 ∙ length-append (drop n w) more in
    omega (arith, b.short, length-append w more, length-drop n w)

pub found_named : (most n count : ℕ) (w : List ℕ) (headers : List HeaderSpan) → IsSectionOf w 0 headers (n, count)
    → list_all is_short (map (header_bytes w) (take count headers)) ≡ false → IsHopelessSection most w
found_named most n count w headers h other = λ more fields rest b.
    let same = same_section most n count w headers h more fields rest b in
    let at : IsSectionAt w 0 headers n count h.0 h.1 = h.2 in
    let short : list_all is_short (map name_and_value h.0) ≡ true = named_to h.0 (subst (λ (fs : List grammar.Field). All HasShortName fs) same.0 b.begins.named) in
    let clash : true ≡ false = sym short ∙ ap (list_all is_short) (sym at.fields_are) ∙ other in
    cc

-- too many fields
pub overflows : (most : ℕ) (w : List ℕ) → SectionOverflows 64 w → IsHopelessSection most w
overflows most w over = λ more fields rest b.
    let many : 64 < length fields = over more fields b.begins.last rest b.begins.reads in
    omega (arith, b.begins.few)

-- more lines than a section may have, and none stands there
pub crowded : (most : ℕ) (w : List ℕ) → HasNoSection w → most_lines ≤ feeds w → IsHopelessSection most w
crowded most w none full = λ more fields rest b.
    let p : List ℕ = print_section fields b.begins.last in
    let each : feeds (flat_map print_field fields) ≡ length fields = feeds-fields fields b.begins.reads.0 in
    let last : feeds (print_end b.begins.last) ≡ 1 = feeds-print_end b.begins.last in
    let all : feeds p ≡ feeds (flat_map print_field fields) + feeds (print_end b.begins.last) = feeds-append (flat_map print_field fields) (print_end b.begins.last) in
    let few : length fields ≤ most_trailers = b.begins.few in
    let end = tail_ends [] (flat_map print_field fields) b.begins.last in
    elim (cases_lt (length w) (length p)) [
      | inr long ↦ none fields b.begins.last (drop (length p) w) (b.begins.reads.0, front_in w more p rest b.begins.reads.1 long)
      | inl short ↦
          let fewer : feeds w < feeds p = feeds-before w more p rest end.0 b.begins.reads.1 end.1 short in
          omega arith
    ]

-- a front that is as long as the text in front of what follows
front_of : (w more p rest : List ℕ) → w ++ more ≡ p ++ rest → length p ≤ length w → w ≡ p ++ drop (length p) w
front_of w more p rest same short =
    let e : take (length p) w ≡ p =
    sym (take-append-le (length p) w more short) ∙ ap (take (length p)) same ∙ take-append_seam p rest in
    sym (take-append-drop (length p) w) ∙ ap (λ xs. xs ++ drop (length p) w) e

-- no section stands in bytes that are as many as a section may have
pub filled : (most : ℕ) (w : List ℕ) → HasNoSection w → most ≤ length w → IsHopelessSection most w
filled most w none full = λ more fields rest b.
    let p : List ℕ = print_section fields b.begins.last in
    let size : length (w ++ more) ≡ length p + length rest = ap length b.begins.reads.1 ∙ length-append p rest in
    let short : length p ≤ length w = omega (arith, b.short) in
    none fields b.begins.last (drop (length p) w) (b.begins.reads.0, front_of w more p rest b.begins.reads.1 short)
