-- The body that was spelled is the one that is read.
use Rattle.std.proofs.Common.{◌≡◌, ℕ, ◌+◌, ◌-◌, ◌*◌, ◌^◌, ◌<◌, ◌≤◌, Bool, true, false, cond, ◌&&◌, nat_le, nat_lt, List, [], ◌∷◌, ◌++◌, length, take, Some, None, refl, ap, subst, ◌∙◌, arith}
use Rattle.std.specs.List.{AllByRecursion, fold, flat_map, list_all}
use Rattle.std.specs.Char.{digit_value, is_ascii_hexdigit}
use Rattle.std.specs.Fmt.{digits}
use Rattle.std.specs.Str.Parse.{digits_value, digits_value_after}
use Rattle.std.proofs.lemmas.Bool.{ne_eqb, lt-ltb}
use Rattle.std.proofs.lemmas.List.{append-nil, take_all}
use Rattle.http_model.specs.Head.{Field}
use Rattle.http_model.specs.Spelling.{line_end, field_text, fields_text, chunk_line, chunk_text, chunks_end}
use Rattle.px_bytes.specs.Numbers.{hex_of}
use Rattle.fcgi_model.specs.Body.{Place, Goes, leads, if_byte, body_in, behind_size, length_left, chunk_left, most_size, InSize, BehindSize, InChunk, BehindChunk, AtTrailer, InTrailer, BehindTrailer, AtLast, Whole, Broken}
use Rattle.fcgi_lane.specs.Request.Spelled.{IsPlain, IsPlainField, IsChunk}
use Rattle.fcgi_lane.proofs.RequestLemmas.Places.{goes_on, goes_nowhere, counted, length_counts, chunk_run, some_left}
use Rattle.fcgi_lane.proofs.RequestLemmas.Spelling.{field_line, field_plain, field_some}

-- ---- of known length

pub length_read : (n : ℕ) (body : List ℕ) → length body ≤ n → Goes (length_left n) body (length_left (n - length body)) body
length_read n body fits =
    let all : take (length body) body ≡ body = take_all (length body) body (omega arith) in
    subst (λ (t : List ℕ). Goes (length_left n) t (length_left (n - length body)) t) all (counted length_left length_counts (length body) n body (omega arith) fits)

-- ---- a size

-- what is said of the digits of a number that is read
read_by : (a b c : Bool) (v n : ℕ) → cond ((a && b) && c) (Some v) None ≡ Some n → (c ≡ true) × (v ≡ n)
read_by true true true v n e = let same : v ≡ n = cc in (refl, same)
read_by true true false v n e = absurd cc
read_by true false c v n e = absurd cc
read_by false b c v n e = absurd cc

grows : (size : ℕ) (ds : List ℕ) → size ≤ digits_value_after 16 size ds
grows size [] = omega arith
grows size (d ∷ ds) = omega (arith, grows (size * 16 + digit_value d) ds)

both : (a b : Bool) → a && b ≡ true → (a ≡ true) × (b ≡ true)
both true b h = (refl, h)
both false b h = absurd cc

one_digit : (some : Bool) (size d : ℕ) → is_ascii_hexdigit d ≡ true → size * 16 + digit_value d < 2 ^ 32 → leads (InSize some size) d ≡ InSize true (size * 16 + digit_value d)
one_digit some size d digit small =
    let room : nat_lt size most_size ≡ true = lt-ltb size most_size (omega (arith, small)) in
    ap (λ (t : Bool). cond t (cond (nat_lt size most_size) (InSize true (size * 16 + digit_value d)) Broken) (cond some (if_byte d 13 (BehindSize size)) Broken)) digit
    ∙ ap (λ (t : Bool). cond t (InSize true (size * 16 + digit_value d)) Broken) room

digits_read : (some : Bool) (size d : ℕ) (ds : List ℕ) (n : ℕ) → is_ascii_hexdigit d ≡ true → list_all is_ascii_hexdigit ds ≡ true → digits_value_after 16 (size * 16 + digit_value d) ds ≡ n → n < 2 ^ 32
    → Goes (InSize some size) (d ∷ ds) (InSize true n) []
digits_read some size d [] n digit rest is small =
    let step = one_digit some size d digit (omega (arith, is, small)) in
    record { place = step ∙ ap (InSize true) is; found = refl }
digits_read some size d (e ∷ ds) n digit rest is small =
    let most : size * 16 + digit_value d < 2 ^ 32 = omega (arith, grows (size * 16 + digit_value d) (e ∷ ds), is, small) in
    let step = one_digit some size d digit most in
    let tests = both (is_ascii_hexdigit e) (list_all is_ascii_hexdigit ds) rest in
    let more = digits_read true (size * 16 + digit_value d) e ds n tests.0 tests.1 is small in
    record {
      place = ap (λ (p : Place). fold leads p (e ∷ ds)) step ∙ more.place;
      found = ap (λ (p : Place). body_in p (e ∷ ds)) step ∙ more.found;
    }

-- numbers are read back from their digits
abbrev pub ReadsBack : Type 0
ReadsBack = (most n : ℕ) → 8 ≤ most → n < 2 ^ 32 → hex_of most (digits 16 false n) ≡ Some n

size_by_digits : (ds : List ℕ) (n : ℕ) → hex_of 8 ds ≡ Some n → n < 2 ^ 32 → Goes (InSize false 0) ds (InSize true n) []
size_by_digits [] n e small = absurd cc
size_by_digits (d ∷ ds) n e small =
    let h = read_by (nat_le 1 (length (d ∷ ds))) (nat_le (length (d ∷ ds)) 8) (list_all is_ascii_hexdigit (d ∷ ds)) (digits_value 16 (d ∷ ds)) n e in
    let tests = both (is_ascii_hexdigit d) (list_all is_ascii_hexdigit ds) h.0 in
    digits_read false 0 d ds n tests.0 tests.1 h.1 small

size_read : ReadsBack → (n : ℕ) → n < 2 ^ 32 → Goes (InSize false 0) (chunk_line n) (behind_size n) []
size_read back n small =
    goes_on (InSize false 0) (InSize true n) (behind_size n) (digits 16 false n) line_end [] [] (size_by_digits (digits 16 false n) n (back 8 n (omega arith) small) small)
    (record { place = refl; found = refl })

-- ---- chunks

chunk_read : ReadsBack → (chunk : List ℕ) → IsChunk chunk → Goes (InSize false 0) (chunk_text chunk) (InSize false 0) chunk
chunk_read back chunk is =
    let n : ℕ = length chunk in
    let first : Goes (InSize false 0) (chunk_line n) (InChunk n) [] =
    subst (λ (p : Place). Goes (InSize false 0) (chunk_line n) p []) (some_left AtTrailer (InChunk n) n is.some) (size_read back n is.small) in
    let all : take n chunk ≡ chunk = take_all n chunk (omega arith) in
    let none : n - n ≡ 0 = omega arith in
    let run : Goes (InChunk n) (take n chunk) (chunk_left (n - n)) (take n chunk) = chunk_run n n chunk is.some (omega arith) (omega arith) in
    let bytes : Goes (InChunk n) chunk BehindChunk chunk =
    subst (λ (t : List ℕ). Goes (InChunk n) t BehindChunk t) all (subst (λ (k : ℕ). Goes (InChunk n) (take n chunk) (chunk_left k) (take n chunk)) none run) in
    let joined = goes_on (InSize false 0) (InChunk n) BehindChunk (chunk_line n) chunk [] chunk first bytes in
    let ended = goes_on (InSize false 0) BehindChunk (InSize false 0) (chunk_line n ++ chunk) line_end chunk [] joined (record { place = refl; found = refl }) in
    subst (Goes (InSize false 0) (chunk_text chunk) (InSize false 0)) (append-nil chunk) ended

pub chunks_read : ReadsBack → (chunks : List (List ℕ)) → AllByRecursion IsChunk chunks → Goes (InSize false 0) (flat_map chunk_text chunks) (InSize false 0) (flat_map (λ (chunk : List ℕ). chunk) chunks)
chunks_read back [] h = goes_nowhere (InSize false 0)
chunks_read back (chunk ∷ chunks) h =
    goes_on (InSize false 0) (InSize false 0) (InSize false 0) (chunk_text chunk) (flat_map chunk_text chunks) chunk (flat_map (λ (c : List ℕ). c) chunks) (chunk_read back chunk h.0) (chunks_read back chunks h.1)

-- ---- trailers

in_trailer : (line : List ℕ) → AllByRecursion IsPlain line → Goes InTrailer (line ++ line_end) AtTrailer []
in_trailer [] plain = record { place = refl; found = refl }
in_trailer (b ∷ line) plain =
    let step : leads InTrailer b ≡ InTrailer = ap (λ (t : Bool). cond t BehindTrailer InTrailer) (ne_eqb b 13 plain.0.1) in
    let rest = in_trailer line plain.1 in
    record {
      place = ap (λ (p : Place). fold leads p (line ++ line_end)) step ∙ rest.place;
      found = ap (λ (p : Place). body_in p (line ++ line_end)) step ∙ rest.found;
    }

trailer_read : (line : List ℕ) → 0 < length line → AllByRecursion IsPlain line → Goes AtTrailer (line ++ line_end) AtTrailer []
trailer_read [] some plain = absurd (omega (arith, some))
trailer_read (b ∷ line) some plain =
    let step : leads AtTrailer b ≡ InTrailer = ap (λ (t : Bool). cond t AtLast InTrailer) (ne_eqb b 13 plain.0.1) in
    let rest = in_trailer line plain.1 in
    record {
      place = ap (λ (p : Place). fold leads p (line ++ line_end)) step ∙ rest.place;
      found = ap (λ (p : Place). body_in p (line ++ line_end)) step ∙ rest.found;
    }

trailers_read : (fields : List Field) → AllByRecursion IsPlainField fields → Goes AtTrailer (fields_text fields) AtTrailer []
trailers_read [] h = goes_nowhere AtTrailer
trailers_read (field ∷ fields) h =
    goes_on AtTrailer AtTrailer AtTrailer (field_text field) (fields_text fields) [] [] (trailer_read (field_line field) (field_some field) (field_plain field h.0)) (trailers_read fields h.1)

end_read : ReadsBack → (trailers : List Field) → AllByRecursion IsPlainField trailers → Goes (InSize false 0) (chunks_end trailers) Whole []
end_read back trailers h =
    let first : Goes (InSize false 0) (chunk_line 0) AtTrailer [] = size_read back 0 (omega arith) in
    let lines = goes_on (InSize false 0) AtTrailer AtTrailer (chunk_line 0) (fields_text trailers) [] [] first (trailers_read trailers h) in
    goes_on (InSize false 0) AtTrailer Whole (chunk_line 0 ++ fields_text trailers) line_end [] [] lines (record { place = refl; found = refl })

pub whole_read : ReadsBack → (chunks : List (List ℕ)) (trailers : List Field) → AllByRecursion IsChunk chunks → AllByRecursion IsPlainField trailers
    → Goes (InSize false 0) (flat_map chunk_text chunks ++ chunks_end trailers) Whole (flat_map (λ (chunk : List ℕ). chunk) chunks)
whole_read back chunks trailers h t =
    let found : List ℕ = flat_map (λ (chunk : List ℕ). chunk) chunks in
    subst (Goes (InSize false 0) (flat_map chunk_text chunks ++ chunks_end trailers) Whole) (append-nil found)
    (goes_on (InSize false 0) (InSize false 0) Whole (flat_map chunk_text chunks) (chunks_end trailers) found [] (chunks_read back chunks h) (end_read back trailers t))
