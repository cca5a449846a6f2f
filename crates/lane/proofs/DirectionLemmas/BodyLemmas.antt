-- Bytes that were read, and more behind them. These belong to the crate of bodies.
use Rattle.std.proofs.Common.{◌≡◌, ℕ, ◌+◌, ◌<◌, ◌≤◌, ◌⊎◌, inl, inr, List, [], ◌∷◌, ◌++◌, true, false, refl, sym, ap, ◌∙◌, subst, length, arith, append_assoc}
use Rattle.std.specs.Prelude.{Option, Some, None}
use Rattle.std.specs.List.{fold}
use Rattle.std.proofs.lemmas.List.{append-nil, length-append, nil_from_length}
use Rattle.httparse.specs.Grammar as grammar
use Rattle.httparse.specs.Grammar.{HasNoSection, ReadsSection}
use Rattle.httparse.proofs.GrammarLemmas.{ReadsSection-append, section_unique}
use Rattle.http_model.specs.declared.Limits.{Limits}
use Rattle.http_model.specs.declared.Framing.{Framing}
use Rattle.http_model.specs.declared.Ending.{Ending}
use Rattle.http_model.specs.declared.Ending.TheVariants as ending
use Rattle.http_model.specs.Head.{Field}
use Rattle.http_model.specs.Reading.{Whole, Broke, Bad}
use Rattle.h1_body.specs.Body.{BodyAt, Left, UntilClose, InLine, InData, AtReturn, AtFeed, InSection, Over, Hopeless, Goes, step, data_in}
use Rattle.h1_body.specs.BodyOf.{BodyRead, Reads, More, IsBodyOf, Tells, SectionTells, unfinished, closes}
use Rattle.h1_body.specs.Section.{section_limit, HasTrailers, BeginsSection, HasNoSectionWithin, trailers_of}
use Rattle.h1_body.specs.Stands.{HasRead, Stands, start_of, state_at, state_of, ends_at, ends_of, section_in, WaitsAt}
use Rattle.h1_body.specs.declared.stages.Stage.{Stage}
use Rattle.h1_body.specs.declared.stages.Stage.TheVariants as stage
use Rattle.h1_body.specs.declared.reader.BodyReader.{BodyReader}
use Rattle.h1_body.specs.declared.reader.BodyState.TheVariants as state
use Rattle.h1_body.proofs.PublicLaws.{goes_both, section_goes, tells_at}
use Rattle.lane.specs.Direction.Pulled.{IsWaiting}
use Rattle.lane.specs.Direction.Promise.{body_in, IsCut, EndsInSection}
use Rattle.lane.proofs.DirectionLemmas.ReadLemmas.{no_trailers, no_section}

-- from a place on, some data is found
on : (at : BodyAt) (rest : List ℕ) → Goes at rest (fold step at rest) (data_in at rest)
on at rest = record { place = refl; piece = refl }

-- ---- a body goes on

section_body : (most : ℕ) (bytes found : List ℕ) (end : Option Ending) (read : BodyRead) → SectionTells most bytes found end read → body_in read ≡ found
section_body most bytes found end (Reads (Whole body trailers rest)) t = t.0
section_body most bytes found end (Reads (Bad body)) t = t.0
section_body most bytes found None (Reads (Broke body)) t = absurd (cc)
section_body most bytes found (Some e) (Reads (Broke body)) t = let same : Reads (Broke found) ≡ Reads (Broke body) = t.0 in cc
section_body most bytes found None (More body) t = let same : More found ≡ More body = t.0 in cc
section_body most bytes found (Some e) (More body) t = absurd (cc)

open_body : (found : List ℕ) (end : Option Ending) (read : BodyRead) → read ≡ unfinished found end → body_in read ≡ found
open_body found None read e = ap body_in e
open_body found (Some how) read e = ap body_in e

close_body : (found : List ℕ) (end : Option Ending) (read : BodyRead) → read ≡ closes found end → body_in read ≡ found
close_body found None read e = ap body_in e
close_body found (Some ending.Closed) read e = ap body_in e
close_body found (Some ending.Broke) read e = ap body_in e

told_body : (most : ℕ) (at : BodyAt) (found : List ℕ) (end : Option Ending) (read : BodyRead) → Tells most at found end read → body_in read ≡ found
told_body most (Over rest) found end read t = ap body_in t
told_body most UntilClose found end read t = close_body found end read t
told_body most Hopeless found end read t = ap body_in t
told_body most (InSection section) found end read t = section_body most section found end read t
told_body most (Left left) found end read t = open_body found end read t
told_body most (InLine place n) found end read t = open_body found end read t
told_body most (InData left) found end read t = open_body found end read t
told_body most AtReturn found end read t = open_body found end read t
told_body most AtFeed found end read t = open_body found end read t

-- what was read so far begins the body of all bytes
pub grows : (limits : Limits) (framing : Framing) (used found section rest : List ℕ) (reader : BodyReader) (end : Option Ending) (read : BodyRead) → HasRead limits framing used found section reader
    → IsBodyOf limits framing (used ++ rest) end read → (more : List ℕ) × (body_in read ≡ found ++ more)
grows limits framing used found section rest reader end read h x =
    let g = goes_both (start_of framing) h.at (fold step h.at rest) used rest found (data_in h.at rest) h.goes (on h.at rest) in
    (data_in h.at rest, told_body (section_limit limits) (fold step h.at rest) (found ++ data_in h.at rest) end read (tells_at limits framing (used ++ rest) (found ++ data_in h.at rest) (fold step h.at rest) end read g x))

-- ---- a whole body stays

over_goes : (rest front : List ℕ) → Goes (Over front) rest (Over (front ++ rest)) []
over_goes [] front = record { place = ap Over (sym (append-nil front)); piece = refl }
over_goes (b ∷ rest) front =
    let g = over_goes rest (front ++ b ∷ []) in
    record { place = g.place ∙ ap Over (append_assoc front (b ∷ []) rest); piece = g.piece }

hopeless_goes : (rest : List ℕ) → Goes Hopeless rest Hopeless []
hopeless_goes [] = record { place = refl; piece = refl }
hopeless_goes (b ∷ rest) = let g = hopeless_goes rest in record { place = g.place; piece = g.piece }

is_body : (limits : Limits) (framing : Framing) (used rest found : List ℕ) (at to : BodyAt) (end : Option Ending) (read : BodyRead) → Goes (start_of framing) used at found → Goes at rest to [] → Tells (section_limit limits) to found end read
    → IsBodyOf limits framing (used ++ rest) end read
is_body limits framing used rest found at to end read g on_ tells = record {
  at = to;
  found = found;
  goes = subst (λ (f : List ℕ). Goes (start_of framing) (used ++ rest) to f) (append-nil found) (goes_both (start_of framing) at to used rest found [] g on_);
  tells = tells;
}

section_on : (most : ℕ) (section rest : List ℕ) (fields : List grammar.Field) → BeginsSection most section fields [] → BeginsSection most (section ++ rest) fields rest
section_on most section rest fields b =
    let short : length section ≤ most + 0 = b.short in
    let len = length-append section rest in
    record {
      begins = record {
        last = b.begins.last;
        reads = ReadsSection-append section fields b.begins.last [] rest b.begins.reads;
        few = b.begins.few;
        named = b.begins.named;
      };
      short = omega arith;
    }

whole_at : (limits : Limits) (framing : Framing) (used found section rest : List ℕ) (st : Stage) (at : BodyAt) (end : Option Ending) (trailers : List Field) → state_at st ≡ state.Whole → Goes (start_of framing) used at found
    → Stands (section_limit limits) st at → section_in st at ≡ section → HasTrailers section trailers → IsBodyOf limits framing (used ++ rest) end (Reads (Whole found trailers rest))
whole_at limits framing used found section rest stage.Over at end trailers e g (inl over) is has =
    let none : section ≡ [] = sym is ∙ ap (section_in stage.Over) over in
    let no = no_trailers section trailers none has in
    is_body limits framing used rest found (Over []) (Over rest) end (Reads (Whole found trailers rest)) (subst (λ (p : BodyAt). Goes (start_of framing) used p found) over g) (over_goes rest [])
    (ap (λ (ts : List Field). Reads (Whole found ts rest)) no)
whole_at limits framing used found section rest stage.Over at end trailers e g (inr (read, in_section, (fields, begins))) is has =
    let same : section ≡ read = sym is ∙ ap (section_in stage.Over) in_section in
    is_body limits framing used rest found (InSection read) (InSection (read ++ rest)) end (Reads (Whole found trailers rest)) (subst (λ (p : BodyAt). Goes (start_of framing) used p found) in_section g) (section_goes rest read)
    (refl, (fields, section_on (section_limit limits) read rest fields begins, kept_of section read fields trailers same begins has))
  where
    kept_of : (section read : List ℕ) (fields : List grammar.Field) (trailers : List Field) → section ≡ read → BeginsSection (section_limit limits) read fields [] → HasTrailers section trailers → trailers ≡ trailers_of fields
    kept_of section read fields trailers same begins (inl none) = absurd (no_section read fields begins.begins (sym same ∙ none.0))
    kept_of section read fields trailers same begins (inr (others, other, are)) =
        let one = section_unique read others fields other.last begins.begins.last [] [] (subst (λ (xs : List ℕ). ReadsSection xs others other.last []) same other.reads) begins.begins.reads in
        are ∙ ap trailers_of one.0
whole_at limits framing used found section rest stage.UntilClose at end trailers e g s is has = absurd (cc)
whole_at limits framing used found section rest stage.Dead at end trailers e g s is has = absurd (cc)
whole_at limits framing used found section rest (stage.Left left) at end trailers e g s is has = absurd (cc)
whole_at limits framing used found section rest stage.Line at end trailers e g s is has = absurd (cc)
whole_at limits framing used found section rest (stage.Data left) at end trailers e g s is has = absurd (cc)
whole_at limits framing used found section rest stage.LineEnd at end trailers e g s is has = absurd (cc)
whole_at limits framing used found section rest stage.Section at end trailers e g s is has = absurd (cc)

pub whole_stays : (limits : Limits) (framing : Framing) (used found section rest : List ℕ) (reader : BodyReader) (end : Option Ending) (trailers : List Field) → HasRead limits framing used found section reader
    → state_of reader ≡ state.Whole → HasTrailers section trailers → IsBodyOf limits framing (used ++ rest) end (Reads (Whole found trailers rest))
whole_stays limits framing used found section rest reader end trailers h e has = whole_at limits framing used found section rest reader.stage h.at end trailers e h.goes h.stands h.sections has

-- ---- a body that is none stays none

bad_at : (limits : Limits) (framing : Framing) (used found rest : List ℕ) (st : Stage) (at : BodyAt) (end : Option Ending) → state_at st ≡ state.Bad → Goes (start_of framing) used at found
    → Stands (section_limit limits) st at → IsBodyOf limits framing (used ++ rest) end (Reads (Bad found))
bad_at limits framing used found rest stage.Dead at end e g (inl over) =
    is_body limits framing used rest found Hopeless Hopeless end (Reads (Bad found)) (subst (λ (p : BodyAt). Goes (start_of framing) used p found) over g) (hopeless_goes rest) refl
bad_at limits framing used found rest stage.Dead at end e g (inr (read, in_section, never)) =
    is_body limits framing used rest found (InSection read) (InSection (read ++ rest)) end (Reads (Bad found)) (subst (λ (p : BodyAt). Goes (start_of framing) used p found) in_section g) (section_goes rest read)
    (refl, λ more. subst (λ (xs : List ℕ). HasNoSectionWithin (section_limit limits) xs) (sym (append_assoc read rest more)) (never (rest ++ more)))
bad_at limits framing used found rest stage.Over at end e g s = absurd (cc)
bad_at limits framing used found rest stage.UntilClose at end e g s = absurd (cc)
bad_at limits framing used found rest (stage.Left left) at end e g s = absurd (cc)
bad_at limits framing used found rest stage.Line at end e g s = absurd (cc)
bad_at limits framing used found rest (stage.Data left) at end e g s = absurd (cc)
bad_at limits framing used found rest stage.LineEnd at end e g s = absurd (cc)
bad_at limits framing used found rest stage.Section at end e g s = absurd (cc)

pub bad_stays : (limits : Limits) (framing : Framing) (used found section rest : List ℕ) (reader : BodyReader) (end : Option Ending) → HasRead limits framing used found section reader
    → state_of reader ≡ state.Bad → IsBodyOf limits framing (used ++ rest) end (Reads (Bad found))
bad_stays limits framing used found section rest reader end h e = bad_at limits framing used found rest reader.stage h.at end e h.goes h.stands

-- ---- a reader that waits

record Waiting (most : ℕ) (st : Stage) (at : BodyAt) (rest : List ℕ) : Type 0 where
  pub to : BodyAt
  pub goes : Goes at rest to []
  pub cut : (found : List ℕ) (how : Ending) (read : BodyRead) → (how ≡ ending.Closed → ends_at st ≡ false) → Tells most to found (Some how) read → IsCut read
  pub still : (found : List ℕ) (read : BodyRead) → Tells most to found None read → (read ≡ More found) ⊎ ((to ≡ InSection rest) × HasNoSection rest × (length rest < most))

stays_at : (at other : BodyAt) (rest : List ℕ) → at ≡ other → rest ≡ [] → Goes at rest other []
stays_at at other rest e none = subst (λ (xs : List ℕ). Goes at xs other []) (sym none) (record { place = e; piece = refl })

open_cut : (found : List ℕ) (how : Ending) (read : BodyRead) → read ≡ unfinished found (Some how) → IsCut read
open_cut found how read e = subst IsCut (sym e) tt

close_cut : (found : List ℕ) (how : Ending) (read : BodyRead) → (how ≡ ending.Closed → true ≡ false) → read ≡ closes found (Some how) → IsCut read
close_cut found ending.Closed read h e = absurd (let both : true ≡ false = h refl in cc both)
close_cut found ending.Broke read h e = subst IsCut (sym e) tt

section_cut : (most : ℕ) (bytes found : List ℕ) (how : Ending) (read : BodyRead) → HasNoSection bytes → SectionTells most bytes found (Some how) read → IsCut read
section_cut most bytes found how (Reads (Whole body trailers rest)) none t = absurd (none t.1.0 t.1.1.begins.last rest t.1.1.begins.reads)
section_cut most bytes found how (Reads (Bad body)) none t = tt
section_cut most bytes found how (Reads (Broke body)) none t = tt
section_cut most bytes found how (More body) none t = absurd (let clash : Reads (Broke found) ≡ More body = t.0 in cc clash)

no_byte : (rest : List ℕ) → (◌≡◌ {A = ℕ} 1 0) ⊎ (length rest ≡ 0) → rest ≡ []
no_byte rest (inl e) = absurd (omega arith)
no_byte rest (inr e) = nil_from_length rest e

waiting : (most : ℕ) (st : Stage) (at : BodyAt) (rest : List ℕ) → state_at st ≡ state.More → Stands most st at → WaitsAt most st rest 1 → Waiting most st at rest
waiting most (stage.Left left) at rest more s w = record { to = Left left; goes = stays_at at (Left left) rest s.1 (no_byte rest w); cut = λ found how read _ t. open_cut found how read t; still = λ found read t. inl t }
waiting most stage.UntilClose at rest more s w = record { to = UntilClose; goes = stays_at at UntilClose rest s (no_byte rest w); cut = λ found how read h t. close_cut found how read h t; still = λ found read t. inl t }
waiting most (stage.Data left) at rest more s w = record { to = InData left; goes = stays_at at (InData left) rest s.1 (no_byte rest w); cut = λ found how read _ t. open_cut found how read t; still = λ found read t. inl t }
waiting most stage.Line at rest more s (place, goes) =
    record { to = InLine place (length rest); goes = subst (λ (p : BodyAt). Goes p rest (InLine place (length rest)) []) (sym s) goes; cut = λ found how read _ t. open_cut found how read t; still = λ found read t. inl t }
waiting most stage.LineEnd at rest more s (inl none) = record { to = AtReturn; goes = stays_at at AtReturn rest s none; cut = λ found how read _ t. open_cut found how read t; still = λ found read t. inl t }
waiting most stage.LineEnd at rest more s (inr one) =
    let g : Goes AtReturn (13 ∷ []) AtFeed [] = record { place = refl; piece = refl } in
    record {
      to = AtFeed;
      goes = subst (λ (p : BodyAt). Goes p rest AtFeed []) (sym s) (subst (λ (xs : List ℕ). Goes AtReturn xs AtFeed []) (sym one) g);
      cut = λ found how read _ t. open_cut found how read t;
      still = λ found read t. inl t;
    }
waiting most stage.Section at rest more s w =
    record { to = InSection rest; goes = subst (λ (p : BodyAt). Goes p rest (InSection rest) []) (sym s) (section_goes rest []); cut = λ found how read _ t. section_cut most rest found how read w.none t; still = λ found read t. inr (refl, w.none, w.short) }
waiting most stage.Over at rest more s w = absurd (cc)
waiting most stage.Dead at rest more s w = absurd (cc)

goes_on : (limits : Limits) (framing : Framing) (used found rest : List ℕ) (at to : BodyAt) → Goes (start_of framing) used at found → Goes at rest to [] → Goes (start_of framing) (used ++ rest) to found
goes_on limits framing used found rest at to g on_ = subst (λ (f : List ℕ). Goes (start_of framing) (used ++ rest) to f) (append-nil found) (goes_both (start_of framing) at to used rest found [] g on_)

-- nothing of the body stands in the window
pub waiting_body : (limits : Limits) (framing : Framing) (used found section rest : List ℕ) (reader : BodyReader) (end : Option Ending) (read : BodyRead) → HasRead limits framing used found section reader
    → state_of reader ≡ state.More → IsWaiting reader rest → IsBodyOf limits framing (used ++ rest) end read → body_in read ≡ found
waiting_body limits framing used found section rest reader end read h more w x =
    let here : WaitsAt (section_limit limits) reader.stage rest 1 = subst (λ (k : ℕ). WaitsAt k reader.stage rest 1) h.limit w in
    let r = waiting (section_limit limits) reader.stage h.at rest more h.stands here in
    told_body (section_limit limits) r.to found end read (tells_at limits framing (used ++ rest) found r.to end read (goes_on limits framing used found rest h.at r.to h.goes r.goes) x)

-- an ending there cuts it
pub waiting_cut : (limits : Limits) (framing : Framing) (used found section rest : List ℕ) (reader : BodyReader) (how : Ending) (read : BodyRead) → HasRead limits framing used found section reader
    → state_of reader ≡ state.More → IsWaiting reader rest → (how ≡ ending.Closed → ends_of reader ≡ false) → IsBodyOf limits framing (used ++ rest) (Some how) read → IsCut read
waiting_cut limits framing used found section rest reader how read h more w ends x =
    let here : WaitsAt (section_limit limits) reader.stage rest 1 = subst (λ (k : ℕ). WaitsAt k reader.stage rest 1) h.limit w in
    let r = waiting (section_limit limits) reader.stage h.at rest more h.stands here in
    r.cut found how read ends (tells_at limits framing (used ++ rest) found r.to (Some how) read (goes_on limits framing used found rest h.at r.to h.goes r.goes) x)

-- more is to come, or the bytes end in a section
opened : (limits : Limits) (framing : Framing) (bytes found rest : List ℕ) (to : BodyAt) (read : BodyRead) → Goes (start_of framing) bytes to found
    → (read ≡ More found) ⊎ ((to ≡ InSection rest) × HasNoSection rest × (length rest < section_limit limits)) → (read ≡ More found) ⊎ EndsInSection limits framing bytes
opened limits framing bytes found rest to read g (inl more) = inl more
opened limits framing bytes found rest to read g (inr (is, none, short)) = inr (record { section = rest; place = g.place ∙ is; none = none; short = short })

-- while the stream goes on, it is not cut there, but for a section that is not whole
pub waiting_open : (limits : Limits) (framing : Framing) (used found section rest : List ℕ) (reader : BodyReader) (read : BodyRead) → HasRead limits framing used found section reader
    → state_of reader ≡ state.More → IsWaiting reader rest → IsBodyOf limits framing (used ++ rest) None read → (read ≡ More found) ⊎ EndsInSection limits framing (used ++ rest)
waiting_open limits framing used found section rest reader read h more w x =
    let here : WaitsAt (section_limit limits) reader.stage rest 1 = subst (λ (k : ℕ). WaitsAt k reader.stage rest 1) h.limit w in
    let r = waiting (section_limit limits) reader.stage h.at rest more h.stands here in
    let g = goes_on limits framing used found rest h.at r.to h.goes r.goes in
    opened limits framing (used ++ rest) found rest r.to read g (r.still found read (tells_at limits framing (used ++ rest) found r.to None read g x))
