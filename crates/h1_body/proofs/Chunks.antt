-- A chunked body as a grammar, and as it is read.
use Rattle.std.proofs.Common.{◌≡◌, ℕ, Bool, true, false, List, [], ◌++◌, refl, sym, ap, ◌∙◌, subst}
use Rattle.std.specs.Prelude.{Option, Some, None, ◌↔◌}
use Rattle.httparse.specs.Grammar as grammar
use Rattle.http_model.specs.declared.Framing.TheVariants as framing
use Rattle.http_model.specs.declared.Limits.{Limits}
use Rattle.http_model.specs.declared.Ending.{Ending}
use Rattle.http_model.specs.Head.{Field}
use Rattle.http_model.specs.Reading.{Whole, Broke, Bad}
use Rattle.h1_body.specs.Body.{BodyAt, Left, UntilClose, InLine, InData, AtReturn, AtFeed, InSection, Over, Hopeless, line_start, Goes}
use Rattle.h1_body.specs.Section.{section_limit, BeginsSection, trailers_of}
use Rattle.h1_body.specs.Stands.{section_at}
use Rattle.h1_body.specs.BodyOf.{BodyRead, Reads, More, IsBodyOf, Tells, unfinished, IsChunkedBody, HasNoChunkedBody}
use Rattle.h1_body.specs.Live.{Live}
use Rattle.h1_body.proofs.Runs.{goes_both}
use Rattle.h1_body.proofs.Lines.{text_reads, never_reads, section_goes}
use Rattle.h1_body.proofs.Back.{text_back}
use Rattle.h1_body.proofs.Live.{run_live}

abbrev is_whole : BodyRead → Bool
is_whole (Reads (Whole body trailers rest)) = true
is_whole (Reads (Broke body)) = false
is_whole (Reads (Bad body)) = false
is_whole (More body) = false

abbrev is_bad : BodyRead → Bool
is_bad (Reads (Whole body trailers rest)) = false
is_bad (Reads (Broke body)) = false
is_bad (Reads (Bad body)) = true
is_bad (More body) = false

unfinished_whole : (found : List ℕ) (end : Option Ending) → is_whole (unfinished found end) ≡ false
unfinished_whole found None = refl
unfinished_whole found (Some e) = refl

unfinished_bad : (found : List ℕ) (end : Option Ending) → is_bad (unfinished found end) ≡ false
unfinished_bad found None = refl
unfinished_bad found (Some e) = refl

uncut : (found : List ℕ) (end : Option Ending) (body : List ℕ) (trailers : List Field) (rest : List ℕ) → Reads (Whole body trailers rest) ≡ unfinished found end → ⊥
uncut found end body trailers rest e = let clash : true ≡ false = ap is_whole e ∙ unfinished_whole found end in cc

unbad : (found : List ℕ) (end : Option Ending) (body : List ℕ) → Reads (Bad body) ≡ unfinished found end → ⊥
unbad found end body e = let clash : true ≡ false = ap is_bad e ∙ unfinished_bad found end in cc

whole_bad : (found : List ℕ) (body : List ℕ) (trailers : List Field) (rest : List ℕ) → Reads (Whole body trailers rest) ≡ Reads (Bad found) → ⊥
whole_bad found body trailers rest e = let clash : true ≡ false = ap is_whole e in cc

-- a whole reading stands in a section
whole_at : (most : ℕ) (at : BodyAt) (found : List ℕ) (end : Option Ending) (body : List ℕ) (trailers : List Field) (rest : List ℕ) → Live at
    → Tells most at found end (Reads (Whole body trailers rest))
    → (section : List ℕ) × (at ≡ InSection section) × (body ≡ found) × ((fields : List grammar.Field) × BeginsSection most section fields rest × (trailers ≡ trailers_of fields))
whole_at most (InSection section) found end body trailers rest live t = (section, refl, t.0, t.1)
whole_at most Hopeless found end body trailers rest live t = absurd (whole_bad found body trailers rest t)
whole_at most (InLine place n) found end body trailers rest live t = absurd (uncut found end body trailers rest t)
whole_at most (InData left) found end body trailers rest live t = absurd (uncut found end body trailers rest t)
whole_at most AtReturn found end body trailers rest live t = absurd (uncut found end body trailers rest t)
whole_at most AtFeed found end body trailers rest live t = absurd (uncut found end body trailers rest t)
whole_at most (Left left) found end body trailers rest live t = absurd live
whole_at most UntilClose found end body trailers rest live t = absurd live
whole_at most (Over over) found end body trailers rest live t = absurd live

live_at : (bytes found : List ℕ) (at : BodyAt) → Goes line_start bytes at found → Live at
live_at bytes found at g = subst Live g.place (run_live bytes line_start refl)

-- a whole reading of a chunked body is the grammar's
pub whole_chunks : (limits : Limits) (bytes : List ℕ) (end : Option Ending) (body : List ℕ) (trailers : List Field) (rest : List ℕ)
    → IsBodyOf limits framing.Chunked bytes end (Reads (Whole body trailers rest)) → IsChunkedBody limits bytes body trailers rest
whole_chunks limits bytes end body trailers rest x =
    let at = whole_at (section_limit limits) x.at x.found end body trailers rest (live_at bytes x.found x.at x.goes) x.tells in
    let g : Goes line_start bytes (InSection at.0) body = subst (λ (d : List ℕ). Goes line_start bytes (InSection at.0) d) (sym at.2) (subst (λ (p : BodyAt). Goes line_start bytes p x.found) at.1 x.goes) in
    let t = text_back bytes at.0 body g in
    record { text = t.0; behind = at.0; fields = at.3.0; spelled = t.2; chunks = t.1; section = at.3.1; kept = at.3.2 }

pub chunks_goes : (limits : Limits) (bytes body : List ℕ) (trailers : List Field) (rest : List ℕ) (c : IsChunkedBody limits bytes body trailers rest) → Goes line_start bytes (InSection c.behind) body
chunks_goes limits bytes body trailers rest c = subst (λ (xs : List ℕ). Goes line_start xs (InSection c.behind) body) (sym c.spelled) (text_reads c.text body c.behind c.chunks)

pub chunks_whole : (limits : Limits) (bytes : List ℕ) (end : Option Ending) (body : List ℕ) (trailers : List Field) (rest : List ℕ)
    → IsChunkedBody limits bytes body trailers rest → IsBodyOf limits framing.Chunked bytes end (Reads (Whole body trailers rest))
chunks_whole limits bytes end body trailers rest c =
    record { at = InSection c.behind; found = body; goes = chunks_goes limits bytes body trailers rest c; tells = (refl, (c.fields, c.section, c.kept)) }

pub whole_iff : (limits : Limits) (bytes : List ℕ) (end : Option Ending) (body : List ℕ) (trailers : List Field) (rest : List ℕ)
    → IsBodyOf limits framing.Chunked bytes end (Reads (Whole body trailers rest)) ↔ IsChunkedBody limits bytes body trailers rest
whole_iff limits bytes end body trailers rest = (whole_chunks limits bytes end body trailers rest, chunks_whole limits bytes end body trailers rest)

-- ---- bad

-- a bad reading stands at a hopeless byte, or in a hopeless section
bad_never : (limits : Limits) (at : BodyAt) (bytes found : List ℕ) (end : Option Ending) (body : List ℕ) → Live at → Goes line_start bytes at found
    → Tells (section_limit limits) at found end (Reads (Bad body)) → HasNoChunkedBody limits bytes
bad_never limits (InSection section) bytes found end body live g t = λ more b trailers rest c.
    let there : Goes line_start (bytes ++ more) (InSection (section ++ more)) (found ++ []) = goes_both line_start (InSection section) (InSection (section ++ more)) bytes more found [] g (section_goes more section) in
    let here = chunks_goes limits (bytes ++ more) b trailers rest c in
    let same : c.behind ≡ section ++ more = ap section_at (sym here.place ∙ there.place) in
    t.1 more c.fields rest (subst (λ (xs : List ℕ). BeginsSection (section_limit limits) xs c.fields rest) same c.section)
bad_never limits Hopeless bytes found end body live g t = λ more b trailers rest c. never_reads bytes found more c.text b c.behind g c.chunks c.spelled
bad_never limits (InLine place n) bytes found end body live g t = absurd (unbad found end body t)
bad_never limits (InData left) bytes found end body live g t = absurd (unbad found end body t)
bad_never limits AtReturn bytes found end body live g t = absurd (unbad found end body t)
bad_never limits AtFeed bytes found end body live g t = absurd (unbad found end body t)
bad_never limits (Left left) bytes found end body live g t = absurd live
bad_never limits UntilClose bytes found end body live g t = absurd live
bad_never limits (Over over) bytes found end body live g t = absurd live

pub bad_hopeless : (limits : Limits) (bytes : List ℕ) (end : Option Ending) (body : List ℕ) → IsBodyOf limits framing.Chunked bytes end (Reads (Bad body)) → HasNoChunkedBody limits bytes
bad_hopeless limits bytes end body x = bad_never limits x.at bytes x.found end body (live_at bytes x.found x.at x.goes) x.goes x.tells
