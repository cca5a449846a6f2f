-- The data and the trailers of a body are no longer than the bytes that they were read from allow.
use Rattle.std.proofs.Common.{◌≡◌, ℕ, ◌+◌, ◌*◌, ◌-◌, ◌≤◌, Bool, true, false, List, [], ◌∷◌, ◌++◌, length, refl, ap, length-append, arith}
use Rattle.std.specs.Prelude.{Some, if◌then◌else◌, ◌==◌, nat_le}
use Rattle.std.specs.List.{fold, flat_map}
use Rattle.httparse.specs.Grammar.{print_end, print_field}
use Rattle.httparse.specs.Grammar as grammar
use Rattle.http_model.specs.declared.Limits.{Limits}
use Rattle.http_model.specs.declared.Framing.{Framing}
use Rattle.http_model.specs.declared.Framing.TheVariants as framing
use Rattle.http_model.specs.declared.Ending.{Ending}
use Rattle.http_model.specs.declared.Ending.TheVariants as ending
use Rattle.http_model.specs.Head.{Field}
use Rattle.http_model.specs.Reading.{Whole, Broke, Bad}
use Rattle.http_model.specs.Spelling.{fields_text}
use Rattle.h1_body.specs.declared.line.LinePlace.{LinePlace}
use Rattle.h1_body.specs.declared.line.LinePlace.TheVariants.{Digits, Blanks, Extension, Return, Ended, Dead}
use Rattle.h1_body.specs.Line.{next_line, goes_on}
use Rattle.h1_body.specs.Body.{BodyAt, Left, UntilClose, InLine, InData, AtReturn, AtFeed, InSection, Over, Hopeless, line_start, after_line, step, takes_data, data_in, Goes}
use Rattle.h1_body.specs.Section.{section_limit, BeginsSection, trailers_of, is_kept}
use Rattle.h1_body.specs.Stands.{start_of}
use Rattle.h1_body.specs.BodyOf.{Reads, Tells, BodyOf}
use Rattle.forward_core.proofs.BoundsLemmas.Heads.{kept_short}

-- ---- where a body stands

-- how many bytes a place holds
abbrev held : BodyAt → ℕ
held (Left left) = 0
held UntilClose = 0
held (InLine place n) = 0
held (InData left) = 0
held AtReturn = 0
held AtFeed = 0
held (InSection section) = length section
held (Over rest) = length rest
held Hopeless = 0

either_holds : (v : Bool) (x y : BodyAt) → held x ≡ 0 → held y ≡ 0 → held (if v then x else y) ≡ 0
either_holds true x y h k = h
either_holds false x y h k = k

line_holds : (place : LinePlace) (n : ℕ) → held (after_line place n) ≡ 0
line_holds (Ended size) n = either_holds (size == 0) (InSection []) (InData size) refl refl
line_holds (Digits count value) n = either_holds (goes_on (Digits count value) n) (InLine (Digits count value) n) Hopeless refl refl
line_holds (Blanks size) n = either_holds (goes_on (Blanks size) n) (InLine (Blanks size) n) Hopeless refl refl
line_holds (Extension size) n = either_holds (goes_on (Extension size) n) (InLine (Extension size) n) Hopeless refl refl
line_holds (Return size) n = either_holds (goes_on (Return size) n) (InLine (Return size) n) Hopeless refl refl
line_holds Dead n = refl

start_holds : (framed : Framing) → held (start_of framed) ≡ 0
start_holds framing.Absent = refl
start_holds (framing.Length n) = either_holds (n == 0) (Over []) (Left n) refl refl
start_holds framing.Chunked = refl
start_holds framing.ToClose = refl

-- the data that the next byte is
abbrev taken : BodyAt → ℕ → List ℕ
taken at b = if takes_data at then b ∷ [] else []

-- a byte is data, or is held, or is neither
step_holds : (at : BodyAt) (b : ℕ) → length (taken at b) + held (step at b) ≤ 1 + held at
step_holds (Left left) b = let h = either_holds (nat_le left 1) (Over []) (Left (left - 1)) refl refl in omega (arith, h)
step_holds UntilClose b = omega arith
step_holds (InLine place n) b = let h = line_holds (next_line place b) (n + 1) in omega (arith, h)
step_holds (InData left) b = let h = either_holds (nat_le left 1) AtReturn (InData (left - 1)) refl refl in omega (arith, h)
step_holds AtReturn b = let h = either_holds (b == 13) AtFeed Hopeless refl refl in omega (arith, h)
step_holds AtFeed b = let h = either_holds (b == 10) line_start Hopeless refl refl in omega (arith, h)
step_holds (InSection section) b = let e = length-append section (b ∷ []) in omega (arith, e)
step_holds (Over rest) b = let e = length-append rest (b ∷ []) in omega (arith, e)
step_holds Hopeless b = omega arith

run_holds : (bytes : List ℕ) (at : BodyAt) → length (data_in at bytes) + held (fold step at bytes) ≤ length bytes + held at
run_holds [] at = omega arith
run_holds (b ∷ bytes) at =
    let s = step_holds at b in
    let r = run_holds bytes (step at b) in
    let a = length-append (taken at b) (data_in (step at b) bytes) in
    omega (arith, s, r, a)

goes_short : (framed : Framing) (bytes : List ℕ) (at : BodyAt) (found : List ℕ) → Goes (start_of framed) bytes at found → length found + held at ≤ length bytes
goes_short framed bytes at found goes =
    let r = run_holds bytes (start_of framed) in
    let s = start_holds framed in
    let place : held (fold step (start_of framed) bytes) ≡ held at = ap held goes.place in
    let piece : length (data_in (start_of framed) bytes) ≡ length found = ap (λ (t : List ℕ). length t) goes.piece in
    omega (arith, r, s, place, piece)

-- ---- what a place tells

-- the trailers and the rest of a body whose data are these, by what the place holds
abbrev IsTold : (found body : List ℕ) (trailers : List Field) (rest : List ℕ) (most : ℕ) → Type 0
IsTold found body trailers rest most = (length body ≡ length found) × (length (fields_text trailers) + 2 * length rest ≤ 2 * most)

told_over : (found body : List ℕ) (trailers : List Field) (rest r : List ℕ) → Reads (Whole body trailers rest) ≡ Reads (Whole found [] r) → IsTold found body trailers rest (length r)
told_over found body trailers rest r e =
    let b : body ≡ found = cc in
    let t : trailers ≡ [] = cc in
    let s : rest ≡ r = cc in
    let bl : length body ≡ length found = ap (λ (x : List ℕ). length x) b in
    let tl : length (fields_text trailers) ≡ 0 = ap (λ (x : List Field). length (fields_text x)) t in
    let sl : length rest ≡ length r = ap (λ (x : List ℕ). length x) s in
    (bl, omega (arith, tl, sl))

told_section : (most : ℕ) (section : List ℕ) (fields : List grammar.Field) (rest : List ℕ) (trailers : List Field) → BeginsSection most section fields rest → trailers ≡ trailers_of fields
    → length (fields_text trailers) + 2 * length rest ≤ 2 * length section
told_section most section fields rest trailers begins e =
    let k = kept_short is_kept fields in
    let t : length (fields_text trailers) ≡ length (fields_text (trailers_of fields)) = ap (λ (x : List Field). length (fields_text x)) e in
    let s : length section ≡ length ((flat_map print_field fields ++ print_end begins.begins.last) ++ rest) = ap (λ (x : List ℕ). length x) begins.begins.reads.1 in
    let a = length-append (flat_map print_field fields ++ print_end begins.begins.last) rest in
    let b = length-append (flat_map print_field fields) (print_end begins.begins.last) in
    omega (arith, k, t, s, a, b)

told_whole : (most : ℕ) (at : BodyAt) (found : List ℕ) (how : Ending) (body : List ℕ) (trailers : List Field) (rest : List ℕ) → Tells most at found (Some how) (Reads (Whole body trailers rest))
    → IsTold found body trailers rest (held at)
told_whole most (Over r) found how body trailers rest e = told_over found body trailers rest r e
told_whole most (InSection section) found how body trailers rest (e, (fields, begins, kept)) =
    (ap (λ (x : List ℕ). length x) e, told_section most section fields rest trailers begins kept)
told_whole most UntilClose found ending.Closed body trailers rest e = told_over found body trailers rest [] e
told_whole most UntilClose found ending.Broke body trailers rest e = absurd (cc)
told_whole most Hopeless found how body trailers rest e = absurd (cc)
told_whole most (Left left) found how body trailers rest e = absurd (cc)
told_whole most (InLine place n) found how body trailers rest e = absurd (cc)
told_whole most (InData left) found how body trailers rest e = absurd (cc)
told_whole most AtReturn found how body trailers rest e = absurd (cc)
told_whole most AtFeed found how body trailers rest e = absurd (cc)

told_broke : (most : ℕ) (at : BodyAt) (found : List ℕ) (how : Ending) (body : List ℕ) → Tells most at found (Some how) (Reads (Broke body)) → body ≡ found
told_broke most (Over r) found how body e = absurd (cc)
told_broke most (InSection section) found how body (e, none, alive) = cc
told_broke most UntilClose found ending.Closed body e = absurd (cc)
told_broke most UntilClose found ending.Broke body e = cc
told_broke most Hopeless found how body e = absurd (cc)
told_broke most (Left left) found how body e = cc
told_broke most (InLine place n) found how body e = cc
told_broke most (InData left) found how body e = cc
told_broke most AtReturn found how body e = cc
told_broke most AtFeed found how body e = cc

told_bad : (most : ℕ) (at : BodyAt) (found : List ℕ) (how : Ending) (body : List ℕ) → Tells most at found (Some how) (Reads (Bad body)) → body ≡ found
told_bad most (Over r) found how body e = absurd (cc)
told_bad most (InSection section) found how body (e, hopeless) = e
told_bad most UntilClose found ending.Closed body e = absurd (cc)
told_bad most UntilClose found ending.Broke body e = absurd (cc)
told_bad most Hopeless found how body e = cc
told_bad most (Left left) found how body e = absurd (cc)
told_bad most (InLine place n) found how body e = absurd (cc)
told_bad most (InData left) found how body e = absurd (cc)
told_bad most AtReturn found how body e = absurd (cc)
told_bad most AtFeed found how body e = absurd (cc)

-- ---- bodies

pub whole_short : (limits : Limits) (framed : Framing) (bytes : List ℕ) (how : Ending) (body : List ℕ) (trailers : List Field) (rest : List ℕ) → BodyOf limits framed bytes how (Whole body trailers rest)
    → 1536 * length body + length (fields_text trailers) + 1536 * length rest ≤ 1536 * length bytes
whole_short limits framed bytes how body trailers rest read =
    let g = goes_short framed bytes read.at read.found read.goes in
    let t = told_whole (section_limit limits) read.at read.found how body trailers rest read.tells in
    omega (arith, g, t.0, t.1)

same_short : (framed : Framing) (bytes : List ℕ) (at : BodyAt) (found body : List ℕ) → Goes (start_of framed) bytes at found → body ≡ found → length body ≤ length bytes
same_short framed bytes at found body goes e =
    let g = goes_short framed bytes at found goes in
    let same : length body ≡ length found = ap (λ (t : List ℕ). length t) e in
    omega (arith, g, same)

pub broke_short : (limits : Limits) (framed : Framing) (bytes : List ℕ) (how : Ending) (body : List ℕ) → BodyOf limits framed bytes how (Broke body) → length body ≤ length bytes
broke_short limits framed bytes how body read = same_short framed bytes read.at read.found body read.goes (told_broke (section_limit limits) read.at read.found how body read.tells)

pub bad_short : (limits : Limits) (framed : Framing) (bytes : List ℕ) (how : Ending) (body : List ℕ) → BodyOf limits framed bytes how (Bad body) → length body ≤ length bytes
bad_short limits framed bytes how body read = same_short framed bytes read.at read.found body read.goes (told_bad (section_limit limits) read.at read.found how body read.tells)
