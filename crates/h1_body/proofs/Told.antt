-- What a reader has told, and what bytes in the place of a body come to.
use Rattle.std.proofs.Common.{◌≡◌, ℕ, ◌<◌, ◌≤◌, inl, inr, Bool, true, false, List, [], ◌∷◌, ◌++◌, refl, sym, ap, ◌∙◌, arith, length, subst, length-append}
use Rattle.std.specs.Prelude.{Option, Some, None}
use Rattle.std.proofs.lemmas.List.{append-nil}
use Rattle.std.proofs.lemmas.Nat.{le-div}
use Rattle.httparse.specs.Grammar as grammar
use Rattle.httparse.specs.Grammar.{LineEnd, print_section}
use Rattle.httparse.proofs.GrammarLemmas.{section_unique}
use Rattle.http_model.specs.declared.Framing.{Framing}
use Rattle.http_model.specs.declared.Limits.{Limits}
use Rattle.http_model.specs.declared.Ending.{Ending}
use Rattle.http_model.specs.declared.Ending.TheVariants as ending
use Rattle.http_model.specs.Head.{Field}
use Rattle.http_model.specs.Reading.{Whole, Broke, Bad}
use Rattle.h1_body.specs.declared.stages.Stage.{Stage}
use Rattle.h1_body.specs.declared.stages.Stage.TheVariants as stage
use Rattle.h1_body.specs.declared.reader.BodyReader.{BodyReader}
use Rattle.h1_body.specs.Body.{BodyAt, Left, UntilClose, InLine, InData, AtReturn, AtFeed, InSection, Over, Hopeless, line_start, Goes}
use Rattle.h1_body.specs.Section.{section_limit, BeginsFields, BeginsSection, HasNoSectionWithin, IsHopelessSection, trailers_of, HasTrailers}
use Rattle.h1_body.specs.Stands.{Stands, start_of, section_in, section_at, state_at, state_of, ends_at, ends_of, HasRead}
use Rattle.h1_body.specs.BodyOf.{BodyRead, Reads, More, IsBodyOf, BodyOf, Tells, SectionTells, StateTells, ClosedIsWhole, ClosedIsCut}
use Rattle.h1_body.proofs.Sections.{some_section}

-- ---- the empty section

pub none_yet : (most : ℕ) → HasNoSectionWithin most []
none_yet most fields rest b =
    let some : 0 < length (print_section fields b.begins.last) = some_section fields b.begins.last in
    let size : length (print_section fields b.begins.last ++ rest) ≡ 0 = sym (ap length b.begins.reads.1) in
    omega (arith, length-append (print_section fields b.begins.last) rest)

pub two_fit : (limits : Limits) → 1024 ≤ limits.bufsize → 2 ≤ section_limit limits
two_fit limits big = le-div 2 limits.bufsize 2 (omega arith) (omega arith)

-- the empty line alone is a section
pub empty_section : (most : ℕ) → 2 ≤ most → BeginsSection most (13 ∷ 10 ∷ []) [] []
empty_section most fits = record {
  begins = record { last = LineEnd.crlf; reads = (λ k d lt. absurd (omega arith), refl); few = omega arith; named = λ k d lt. absurd (omega arith) };
  short = omega arith;
}

pub may_come : (limits : Limits) → 1024 ≤ limits.bufsize → ¬ (IsHopelessSection (section_limit limits) [])
may_come limits big never = never (13 ∷ 10 ∷ []) [] [] (empty_section (section_limit limits) (two_fit limits big))

-- ---- what the state tells

is_body : (limits : Limits) (framing : Framing) (bytes found : List ℕ) (at to : BodyAt) (end : Option Ending) (read : BodyRead) → Goes (start_of framing) bytes at found → at ≡ to
    → Tells (section_limit limits) to found end read → IsBodyOf limits framing bytes end read
is_body limits framing bytes found at to end read g e tells =
    record { at = at; found = found; goes = g; tells = subst (λ (p : BodyAt). Tells (section_limit limits) p found end read) (sym e) tells }

pub told_at : (limits : Limits) (framing : Framing) (bytes found section : List ℕ) (s : Stage) (at : BodyAt) → 1024 ≤ limits.bufsize → Goes (start_of framing) bytes at found
    → Stands (section_limit limits) s at → section_in s at ≡ section → StateTells limits framing bytes found section (state_at s)
told_at limits framing bytes found section (stage.Left left) at big g st e = is_body limits framing bytes found at (Left left) None (More found) g st.1 refl
told_at limits framing bytes found section stage.UntilClose at big g st e = is_body limits framing bytes found at UntilClose None (More found) g st refl
told_at limits framing bytes found section stage.Line at big g st e = is_body limits framing bytes found at line_start None (More found) g st refl
told_at limits framing bytes found section (stage.Data left) at big g st e = is_body limits framing bytes found at (InData left) None (More found) g st.1 refl
told_at limits framing bytes found section stage.LineEnd at big g st e = is_body limits framing bytes found at AtReturn None (More found) g st refl
told_at limits framing bytes found section stage.Section at big g st e =
    is_body limits framing bytes found at (InSection []) None (More found) g st (refl, none_yet (section_limit limits), may_come limits big)
told_at limits framing bytes found section stage.Over at big g (inl o) e =
    ([], inl (sym e ∙ ap section_at o, refl), λ end. is_body limits framing bytes found at (Over []) end (Reads (Whole found [] [])) g o refl)
told_at limits framing bytes found section stage.Over at big g (inr h) e =
    let fields : List grammar.Field = h.2.0 in
    let same : h.0 ≡ section = sym (ap section_at h.1) ∙ e in (
      trailers_of fields,
      inr (fields, subst (λ (xs : List ℕ). BeginsFields xs fields []) same h.2.1.begins, refl),
      λ end. is_body limits framing bytes found at (InSection h.0) end (Reads (Whole found (trailers_of fields) [])) g h.1 (refl, (fields, h.2.1, refl)),
    )
told_at limits framing bytes found section stage.Dead at big g (inl o) e = λ end. is_body limits framing bytes found at Hopeless end (Reads (Bad found)) g o refl
told_at limits framing bytes found section stage.Dead at big g (inr h) e = λ end. is_body limits framing bytes found at (InSection h.0) end (Reads (Bad found)) g h.1 (refl, h.2)

pub told : (limits : Limits) (framing : Framing) (bytes found section : List ℕ) (reader : BodyReader) → HasRead limits framing bytes found section reader
    → StateTells limits framing bytes found section (state_of reader)
told limits framing bytes found section reader read = told_at limits framing bytes found section reader.stage read.at read.sized read.goes read.stands read.sections

-- ---- one reading

one_section : (most : ℕ) (bytes found : List ℕ) (end : Option Ending) (a b : BodyRead) → SectionTells most bytes found end a → SectionTells most bytes found end b → a ≡ b
one_section most bytes found end (Reads (Whole body trailers rest)) (Reads (Whole body2 trailers2 rest2)) x y =
    let same = section_unique bytes x.1.0 y.1.0 x.1.1.begins.last y.1.1.begins.last rest rest2 x.1.1.begins.reads y.1.1.begins.reads in
    let bodies : body ≡ body2 = x.0 ∙ sym y.0 in
    let kept : trailers ≡ trailers2 = x.1.2 ∙ ap trailers_of same.0 ∙ sym y.1.2 in
    λ i. Reads (Whole (bodies i) (kept i) (same.2 i))
one_section most bytes found end (Reads (Whole body trailers rest)) (Reads (Bad body2)) x y = absurd (whole_bad most bytes x.1.0 rest x.1.1 y.1)
  where
    whole_bad : (most : ℕ) (bytes : List ℕ) (fields : List grammar.Field) (rest : List ℕ) → BeginsSection most bytes fields rest → IsHopelessSection most bytes → ⊥
    whole_bad most bytes fields rest b never = never [] fields rest (subst (λ (xs : List ℕ). BeginsSection most xs fields rest) (sym (append-nil bytes)) b)
one_section most bytes found end (Reads (Whole body trailers rest)) (Reads (Broke body2)) x y = absurd (y.1 x.1.0 rest x.1.1)
one_section most bytes found end (Reads (Whole body trailers rest)) (More body2) x y = absurd (y.1 x.1.0 rest x.1.1)
one_section most bytes found end (Reads (Bad body)) (Reads (Whole body2 trailers rest)) x y =
    absurd (x.1 [] y.1.0 rest (subst (λ (xs : List ℕ). BeginsSection most xs y.1.0 rest) (sym (append-nil bytes)) y.1.1))
one_section most bytes found end (Reads (Bad body)) (Reads (Bad body2)) x y = ap (λ d. Reads (Bad d)) (x.0 ∙ sym y.0)
one_section most bytes found end (Reads (Bad body)) (Reads (Broke body2)) x y = absurd (y.2 x.1)
one_section most bytes found end (Reads (Bad body)) (More body2) x y = absurd (y.2 x.1)
one_section most bytes found end (Reads (Broke body)) (Reads (Whole body2 trailers rest)) x y = absurd (x.1 y.1.0 rest y.1.1)
one_section most bytes found end (Reads (Broke body)) (Reads (Bad body2)) x y = absurd (x.2 y.1)
one_section most bytes found end (Reads (Broke body)) (Reads (Broke body2)) x y = sym x.0 ∙ y.0
one_section most bytes found end (Reads (Broke body)) (More body2) x y = sym x.0 ∙ y.0
one_section most bytes found end (More body) (Reads (Whole body2 trailers rest)) x y = absurd (x.1 y.1.0 rest y.1.1)
one_section most bytes found end (More body) (Reads (Bad body2)) x y = absurd (x.2 y.1)
one_section most bytes found end (More body) (Reads (Broke body2)) x y = sym x.0 ∙ y.0
one_section most bytes found end (More body) (More body2) x y = sym x.0 ∙ y.0

one_telling : (most : ℕ) (at : BodyAt) (found : List ℕ) (end : Option Ending) (a b : BodyRead) → Tells most at found end a → Tells most at found end b → a ≡ b
one_telling most (Over rest) found end a b x y = x ∙ sym y
one_telling most UntilClose found end a b x y = x ∙ sym y
one_telling most Hopeless found end a b x y = x ∙ sym y
one_telling most (InSection section) found end a b x y = one_section most section found end a b x y
one_telling most (Left left) found end a b x y = x ∙ sym y
one_telling most (InLine place n) found end a b x y = x ∙ sym y
one_telling most (InData left) found end a b x y = x ∙ sym y
one_telling most AtReturn found end a b x y = x ∙ sym y
one_telling most AtFeed found end a b x y = x ∙ sym y

-- what a reading tells at the place that the bytes lead to
pub tells_at : (limits : Limits) (framing : Framing) (bytes found : List ℕ) (at : BodyAt) (end : Option Ending) (read : BodyRead) → Goes (start_of framing) bytes at found
    → IsBodyOf limits framing bytes end read → Tells (section_limit limits) at found end read
tells_at limits framing bytes found at end read g x =
    let place : x.at ≡ at = sym x.goes.place ∙ g.place in
    let piece : x.found ≡ found = sym x.goes.piece ∙ g.piece in
    subst (λ (d : List ℕ). Tells (section_limit limits) at d end read) piece
    (subst (λ (p : BodyAt). Tells (section_limit limits) p x.found end read) place x.tells)

pub one_reading : (limits : Limits) (framing : Framing) (bytes : List ℕ) (end : Option Ending) (a b : BodyRead) → IsBodyOf limits framing bytes end a → IsBodyOf limits framing bytes end b → a ≡ b
one_reading limits framing bytes end a b x y =
    one_telling (section_limit limits) x.at x.found end a b x.tells (tells_at limits framing bytes x.found x.at end b x.goes y)

-- ---- where a Closed comes

pub ends_whole : (limits : Limits) (framing : Framing) (bytes found section : List ℕ) (s : Stage) (at : BodyAt) → 1024 ≤ limits.bufsize → Goes (start_of framing) bytes at found
    → Stands (section_limit limits) s at → section_in s at ≡ section → ends_at s ≡ true
    → (trailers : List Field) × HasTrailers section trailers × BodyOf limits framing bytes ending.Closed (Whole found trailers [])
ends_whole limits framing bytes found section stage.Over at big g st e t =
    let all = told_at limits framing bytes found section stage.Over at big g st e in
    (all.0, all.1, all.2 (Some ending.Closed))
ends_whole limits framing bytes found section stage.UntilClose at big g st e t =
    ([], inl (sym e, refl), is_body limits framing bytes found at UntilClose (Some ending.Closed) (Reads (Whole found [] [])) g st refl)
ends_whole limits framing bytes found section (stage.Left left) at big g st e t = cc
ends_whole limits framing bytes found section stage.Line at big g st e t = cc
ends_whole limits framing bytes found section (stage.Data left) at big g st e t = cc
ends_whole limits framing bytes found section stage.LineEnd at big g st e t = cc
ends_whole limits framing bytes found section stage.Section at big g st e t = cc
ends_whole limits framing bytes found section stage.Dead at big g st e t = cc

abbrev is_whole : BodyRead → Bool
is_whole (Reads (Whole body trailers rest)) = true
is_whole (Reads (Broke body)) = false
is_whole (Reads (Bad body)) = false
is_whole (More body) = false

not_whole : (a : BodyRead) (body : List ℕ) (trailers : List Field) (rest : List ℕ) → is_whole a ≡ false → Reads (Whole body trailers rest) ≡ a → ⊥
not_whole a body trailers rest other e = let clash : true ≡ false = ap is_whole e ∙ other in cc

-- at the place where a reader stands, no whole body
unwhole : (most : ℕ) (at to : BodyAt) (found : List ℕ) (end : Option Ending) (read : BodyRead) → at ≡ to → Tells most at found end read → Tells most to found end read
unwhole most at to found end read e x = subst (λ (p : BodyAt). Tells most p found end read) e x

pub ends_cut : (limits : Limits) (s : Stage) (at : BodyAt) (found : List ℕ) (body : List ℕ) (trailers : List Field) (rest : List ℕ)
    → Stands (section_limit limits) s at → ends_at s ≡ false → Tells (section_limit limits) at found (Some ending.Closed) (Reads (Whole body trailers rest)) → ⊥
ends_cut limits (stage.Left left) at found body trailers rest st t x =
    not_whole (Reads (Broke found)) body trailers rest refl (unwhole (section_limit limits) at (Left left) found (Some ending.Closed) (Reads (Whole body trailers rest)) st.1 x)
ends_cut limits stage.Line at found body trailers rest st t x =
    not_whole (Reads (Broke found)) body trailers rest refl (unwhole (section_limit limits) at line_start found (Some ending.Closed) (Reads (Whole body trailers rest)) st x)
ends_cut limits (stage.Data left) at found body trailers rest st t x =
    not_whole (Reads (Broke found)) body trailers rest refl (unwhole (section_limit limits) at (InData left) found (Some ending.Closed) (Reads (Whole body trailers rest)) st.1 x)
ends_cut limits stage.LineEnd at found body trailers rest st t x =
    not_whole (Reads (Broke found)) body trailers rest refl (unwhole (section_limit limits) at AtReturn found (Some ending.Closed) (Reads (Whole body trailers rest)) st x)
ends_cut limits stage.Section at found body trailers rest st t x =
    let y = unwhole (section_limit limits) at (InSection []) found (Some ending.Closed) (Reads (Whole body trailers rest)) st x in
    none_yet (section_limit limits) y.1.0 rest y.1.1
ends_cut limits stage.Dead at found body trailers rest (inl o) t x =
    not_whole (Reads (Bad found)) body trailers rest refl (unwhole (section_limit limits) at Hopeless found (Some ending.Closed) (Reads (Whole body trailers rest)) o x)
ends_cut limits stage.Dead at found body trailers rest (inr h) t x =
    let y = unwhole (section_limit limits) at (InSection h.0) found (Some ending.Closed) (Reads (Whole body trailers rest)) h.1 x in
    h.2 [] y.1.0 rest (subst (λ (xs : List ℕ). BeginsSection (section_limit limits) xs y.1.0 rest) (sym (append-nil h.0)) y.1.1)
ends_cut limits stage.Over at found body trailers rest st t x = cc
ends_cut limits stage.UntilClose at found body trailers rest st t x = cc

pub closed_whole : (reader : BodyReader) → ends_of reader ≡ true → ClosedIsWhole reader
closed_whole reader t limits framing bytes found section read = ends_whole limits framing bytes found section reader.stage read.at read.sized read.goes read.stands read.sections t

pub closed_cut : (reader : BodyReader) → ends_of reader ≡ false → ClosedIsCut reader
closed_cut reader t limits framing bytes found section read body trailers rest x =
    ends_cut limits reader.stage read.at found body trailers rest read.stands t
    (tells_at limits framing bytes found read.at (Some ending.Closed) (Reads (Whole body trailers rest)) read.goes x)
