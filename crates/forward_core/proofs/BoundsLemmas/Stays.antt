-- What was read stays as it is where more bytes come.
use Rattle.std.proofs.Common.{◌≡◌, ℕ, inl, inr, List, [], ◌∷◌, ◌++◌, refl, sym, ap, ◌∙◌, subst, append_assoc, append-nil, length-append, arith, false}
use Rattle.std.specs.Prelude.{Option, Some, None}
use Rattle.std.specs.List.{fold}
use Rattle.httparse.specs.Grammar as grammar
use Rattle.httparse.proofs.GrammarLemmas.{ReadsSection-append}
use Rattle.http_model.specs.declared.Limits.{Limits}
use Rattle.http_model.specs.declared.Framing.{Framing}
use Rattle.http_model.specs.declared.Ending.{Ending}
use Rattle.http_model.specs.declared.Ending.TheVariants as ending
use Rattle.http_model.specs.Reading.{BodyReading, Whole, Broke, Bad}
use Rattle.http_model.specs.Reading as reading
use Rattle.h1_head.specs.declared.answer.HeadWhy.{HeadWhy}
use Rattle.h1_head.specs.Kind.{HeadKind}
use Rattle.h1_head.specs.Stream.{HeadOf}
use Rattle.h1_head.specs.Decides.{MayWait, RefusesFor}
use Rattle.h1_body.specs.Body.{BodyAt, Left, UntilClose, InLine, InData, AtReturn, AtFeed, InSection, Over, Hopeless, step, data_in, Goes}
use Rattle.h1_body.specs.Section.{section_limit, BeginsSection, IsHopelessSection}
use Rattle.h1_body.specs.Stands.{start_of}
use Rattle.h1_body.specs.BodyOf.{BodyRead, Reads, More, Tells, SectionTells, unfinished, closes, IsBodyOf}
use Rattle.session_core.specs.MeaningLaws.Decided.{body_bytes}
use Rattle.forward_core.specs.Bounds.Decided.{DecidesRefusal, DecidesBody, HasBodySoFar, with_more}

-- ---- heads

pub refusal_on : (K : HeadKind) (limits : Limits) (window : List ℕ) (code : ℕ)
    → ((more : List ℕ) (why : HeadWhy) → RefusesFor K limits false window why → HeadOf K limits (window ++ more) (reading.Refused (K.code why)))
    → ((more : List ℕ) → HeadOf K limits window (reading.Refused code) → ¬ (MayWait K limits false window) → HeadOf K limits (window ++ more) (reading.Refused code))
    → DecidesRefusal K limits window code → (more : List ℕ) → HeadOf K limits (window ++ more) (reading.Refused code)
refusal_on K limits window code for_reason where_full (inl (why, h, e)) more =
    subst (λ (c : ℕ). HeadOf K limits (window ++ more) (reading.Refused c)) (sym e) (for_reason more why h)
refusal_on K limits window code for_reason where_full (inr (h, full)) more = where_full more h full

-- ---- places of a body

over_goes : (rest more : List ℕ) → Goes (Over rest) more (Over (rest ++ more)) []
over_goes rest [] = record { place = ap Over (sym (append-nil rest)); piece = refl }
over_goes rest (b ∷ more) =
    let g = over_goes (rest ++ b ∷ []) more in
    record { place = g.place ∙ ap Over (append_assoc rest (b ∷ []) more); piece = g.piece }

section_goes : (section more : List ℕ) → Goes (InSection section) more (InSection (section ++ more)) []
section_goes section [] = record { place = ap InSection (sym (append-nil section)); piece = refl }
section_goes section (b ∷ more) =
    let g = section_goes (section ++ b ∷ []) more in
    record { place = g.place ∙ ap InSection (append_assoc section (b ∷ []) more); piece = g.piece }

hopeless_goes : (more : List ℕ) → Goes Hopeless more Hopeless []
hopeless_goes [] = record { place = refl; piece = refl }
hopeless_goes (b ∷ more) = let g = hopeless_goes more in record { place = g.place; piece = g.piece }

section_on : (most : ℕ) (section more : List ℕ) (fields : List grammar.Field) (rest : List ℕ) → BeginsSection most section fields rest → BeginsSection most (section ++ more) fields (rest ++ more)
section_on most section more fields rest b =
    let s = b.short in
    let x = length-append section more in
    let y = length-append rest more in
    record {
      begins = record {
        last = b.begins.last;
        reads = ReadsSection-append section fields b.begins.last rest more b.begins.reads;
        few = b.begins.few;
        named = b.begins.named;
      };
      short = omega (arith, s, x, y);
    }

hopeless_on : (most : ℕ) (section more : List ℕ) → IsHopelessSection most section → IsHopelessSection most (section ++ more)
hopeless_on most section more never last fields rest b =
    never (more ++ last) fields rest (subst (λ (t : List ℕ). BeginsSection most t fields rest) (append_assoc section more last) b)

-- ---- a body that is whole or malformed

-- the place behind more bytes, none of which is data, tells the same
record Stays (most : ℕ) (at : BodyAt) (found : List ℕ) (body : BodyReading) (more : List ℕ) (end : Option Ending) : Type 0 where
  to : BodyAt
  goes : Goes at more to []
  tells : Tells most to found end (Reads (with_more body more))

abbrev read_on : BodyRead → List ℕ → BodyRead
read_on (Reads body) more = Reads (with_more body more)
read_on (More found) more = More found

section_stays : (most : ℕ) (section found : List ℕ) (body : BodyReading) → Tells most (InSection section) found None (Reads body) → (more : List ℕ) (end : Option Ending)
    → Tells most (InSection (section ++ more)) found end (Reads (with_more body more))
section_stays most section found (Whole body trailers rest) (e, (fields, begins, kept)) more end = (e, (fields, section_on most section more fields rest begins, kept))
section_stays most section found (Broke body) (e, none, alive) more end = absurd (cc)
section_stays most section found (Bad body) (e, never) more end = (e, hopeless_on most section more never)

stays_at : (most : ℕ) (at : BodyAt) (found : List ℕ) (body : BodyReading) → Tells most at found None (Reads body) → (more : List ℕ) (end : Option Ending) → Stays most at found body more end
stays_at most (Over rest) found body e more end = record { to = Over (rest ++ more); goes = over_goes rest more; tells = ap (λ (r : BodyRead). read_on r more) e }
stays_at most (InSection section) found body e more end = record { to = InSection (section ++ more); goes = section_goes section more; tells = section_stays most section found body e more end }
stays_at most Hopeless found body e more end = record { to = Hopeless; goes = hopeless_goes more; tells = ap (λ (r : BodyRead). read_on r more) e }
stays_at most UntilClose found body e more end = absurd (cc)
stays_at most (Left left) found body e more end = absurd (cc)
stays_at most (InLine place n) found body e more end = absurd (cc)
stays_at most (InData left) found body e more end = absurd (cc)
stays_at most AtReturn found body e more end = absurd (cc)
stays_at most AtFeed found body e more end = absurd (cc)

-- pieces of a stream join
abbrev Joins : Type 0
Joins = (from via to : BodyAt) (xs ys p q : List ℕ) → Goes from xs via p → Goes via ys to q → Goes from (xs ++ ys) to (p ++ q)

pub body_on : Joins → (limits : Limits) (framing : Framing) (bytes : List ℕ) (body : BodyReading) → DecidesBody limits framing bytes body → (more : List ℕ) (end : Option Ending)
    → IsBodyOf limits framing (bytes ++ more) end (Reads (with_more body more))
body_on joins limits framing bytes body read more end =
    let s = stays_at (section_limit limits) read.at read.found body read.tells more end in
    record {
      at = s.to;
      found = read.found;
      goes = subst (λ (d : List ℕ). Goes (start_of framing) (bytes ++ more) s.to d) (append-nil read.found)
          (joins (start_of framing) read.at s.to bytes more read.found [] read.goes s.goes);
      tells = s.tells;
    }

-- ---- the data so far

-- the data of a reading, or of a body that is still to be whole
abbrev bytes_in : BodyRead → List ℕ
bytes_in (Reads body) = body_bytes body
bytes_in (More found) = found

unfinished_in : (found : List ℕ) (end : Option Ending) → bytes_in (unfinished found end) ≡ found
unfinished_in found None = refl
unfinished_in found (Some how) = refl

closes_in : (found : List ℕ) (end : Option Ending) → bytes_in (closes found end) ≡ found
closes_in found None = refl
closes_in found (Some ending.Closed) = refl
closes_in found (Some ending.Broke) = refl

section_in : (most : ℕ) (section found : List ℕ) (end : Option Ending) (read : BodyRead) → SectionTells most section found end read → bytes_in read ≡ found
section_in most section found end (Reads (Whole body trailers rest)) (e, told) = e
section_in most section found end (Reads (Bad body)) (e, told) = e
section_in most section found end (Reads (Broke body)) (e, none, alive) = ap (λ (r : BodyRead). bytes_in r) (sym e) ∙ unfinished_in found end
section_in most section found end (More body) (e, none, alive) = ap (λ (r : BodyRead). bytes_in r) (sym e) ∙ unfinished_in found end

told_in : (most : ℕ) (at : BodyAt) (found : List ℕ) (end : Option Ending) (read : BodyRead) → Tells most at found end read → bytes_in read ≡ found
told_in most (Over rest) found end read e = ap (λ (r : BodyRead). bytes_in r) e
told_in most Hopeless found end read e = ap (λ (r : BodyRead). bytes_in r) e
told_in most UntilClose found end read e = ap (λ (r : BodyRead). bytes_in r) e ∙ closes_in found end
told_in most (InSection section) found end read e = section_in most section found end read e
told_in most (Left left) found end read e = ap (λ (r : BodyRead). bytes_in r) e ∙ unfinished_in found end
told_in most (InLine place n) found end read e = ap (λ (r : BodyRead). bytes_in r) e ∙ unfinished_in found end
told_in most (InData left) found end read e = ap (λ (r : BodyRead). bytes_in r) e ∙ unfinished_in found end
told_in most AtReturn found end read e = ap (λ (r : BodyRead). bytes_in r) e ∙ unfinished_in found end
told_in most AtFeed found end read e = ap (λ (r : BodyRead). bytes_in r) e ∙ unfinished_in found end

-- the data so far is a front of the data of each continuation
pub front_of : Joins → (limits : Limits) (framing : Framing) (bytes front more : List ℕ) (end : Option Ending) (body : BodyReading) → HasBodySoFar limits framing bytes front
    → IsBodyOf limits framing (bytes ++ more) end (Reads body) → (left : List ℕ) × (body_bytes body ≡ front ++ left)
front_of joins limits framing bytes front more end body so_far read =
    let left = data_in so_far.at more in
    let on = joins (start_of framing) so_far.at (fold step so_far.at more) bytes more so_far.found left so_far.goes (record { place = refl; piece = refl }) in
    let first : front ≡ so_far.found = told_in (section_limit limits) so_far.at so_far.found None (More front) so_far.tells in
    let all : body_bytes body ≡ read.found = told_in (section_limit limits) read.at read.found end (Reads body) read.tells in
    (left, all ∙ sym read.goes.piece ∙ on.piece ∙ ap (λ (d : List ℕ). d ++ left) (sym first))
