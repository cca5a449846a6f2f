-- What a look at a text tells of its head.
use Rattle.std.proofs.Common.{◌≡◌, ℕ, ◌+◌, ◌-◌, ◌<◌, ◌≤◌, Bool, nat_le, ◌&&◌, List, ◌++◌, Option, Some, None, true, false, refl, sym, ap, ◌∙◌, arith, length, take, drop, cond, subst, inl, inr}
use Rattle.std.specs.Prelude.{map}
use Rattle.std.proofs.lemmas.Bool.{le-leb, lt-leb, cases_lt}
use Rattle.std.proofs.lemmas.List.{length-append, length-map, take-append-drop, take-append-le}
use Rattle.std.proofs.Math.Seq.{take-append_seam}
use Rattle.httparse.specs.declared.spans.HeaderSpan.{HeaderSpan}
use Rattle.httparse.specs.Grammar.{print_section, HasNoSection}
use Rattle.httparse.specs.Spans.{IsSectionAt, IsSectionOf, SectionOverflows, header_bytes, name_and_value}
use Rattle.http_model.specs.Head.{Field}
use Rattle.fcgi_lane.specs.declared.answer.head_reading.HeadRead.{HeadRead}
use Rattle.fcgi_lane.specs.Answer.Section.{section_at}
use Rattle.fcgi_lane.specs.Answer.Found.{TellsHead, TellsWhole}
use Rattle.fcgi_lane.specs.Answer.Head.{Headed, Status, with_status, status_of, headed_by, head_at, most_fields}
use Rattle.fcgi_lane.proofs.AnswerLemmas.Sections.{Section, SectionIs, some_is, section_reads, section_is, section_more}

-- ---- a head stays where it is when more follows

status_more : (fields : List Field) (rest more : List ℕ) (read : Option Status) (h : Headed) → with_status fields rest read ≡ Some h
    → with_status fields (rest ++ more) read ≡ Some (h.0, h.1 ++ more)
status_more fields rest more None h e = absurd cc
status_more fields rest more (Some s) h e = ap (λ (p : Headed). Some (p.0, p.1 ++ more)) (some_is _ h e)

no_status_more : (fields : List Field) (rest more : List ℕ) (read : Option Status) → with_status fields rest read ≡ None → with_status fields (rest ++ more) read ≡ None
no_status_more fields rest more None e = refl
no_status_more fields rest more (Some s) e = absurd cc

test_more : (ok : Bool) (fields : List Field) (rest more : List ℕ) (h : Headed) → cond ok (with_status fields rest (status_of fields)) None ≡ Some h
    → cond ok (with_status fields (rest ++ more) (status_of fields)) None ≡ Some (h.0, h.1 ++ more)
test_more true fields rest more h e = status_more fields rest more (status_of fields) h e
test_more false fields rest more h e = absurd cc

both_longer : (a b k : ℕ) → (a + k) - (b + k) ≡ a - b
both_longer a b k = omega arith

-- the bytes of a section stay as many
same_size : (text rest more : List ℕ) → length (text ++ more) - length (rest ++ more) ≡ length text - length rest
same_size text rest more =
    ap (λ (a : ℕ). a - length (rest ++ more)) (length-append text more)
    ∙ ap (λ (b : ℕ). (length text + length more) - b) (length-append rest more)
    ∙ both_longer (length text) (length rest) (length more)

headed_more : (limit : ℕ) (text more : List ℕ) (read : Option Section) (h : Headed) → section_at text ≡ read → headed_by limit (length text) read ≡ Some h
    → head_at limit (text ++ more) ≡ Some (h.0, h.1 ++ more)
headed_more limit text more None h is e = absurd cc
headed_more limit text more (Some (fields, rest)) h is e =
    ap (headed_by limit (length (text ++ more))) (section_more text more (fields, rest) is)
    ∙ ap (λ (n : ℕ). cond (nat_le n limit && nat_le (length fields) most_fields) (with_status fields (rest ++ more) (status_of fields)) None) (same_size text rest more)
    ∙ test_more (nat_le (length text - length rest) limit && nat_le (length fields) most_fields) fields rest more h e

pub head_more : (limit : ℕ) (text more : List ℕ) (h : Headed) → head_at limit text ≡ Some h → head_at limit (text ++ more) ≡ Some (h.0, h.1 ++ more)
head_more limit text more h e = headed_more limit text more (section_at text) h refl e

-- ---- no head

-- no section of the text is one within the limits
abbrev AllPast : (limit : ℕ) → List ℕ → Type 0
AllPast limit text = (s : Section) → section_at text ≡ Some s → nat_le (length text - length s.1) limit && nat_le (length s.0) most_fields ≡ false

past_by : (limit : ℕ) (text : List ℕ) (read : Option Section) → section_at text ≡ read → AllPast limit text → headed_by limit (length text) read ≡ None
past_by limit text None is past = refl
past_by limit text (Some (fields, rest)) is past =
    ap (λ (t : Bool). cond t (with_status fields rest (status_of fields)) None) (past (fields, rest) is)

all_past : (limit : ℕ) (text : List ℕ) → AllPast limit text → head_at limit text ≡ None
all_past limit text past = past_by limit text (section_at text) refl past

first_off : (a b : Bool) → a ≡ false → a && b ≡ false
first_off a b e = ap (λ (t : Bool). t && b) e

second_off : (a b : Bool) → b ≡ false → a && b ≡ false
second_off true b e = e
second_off false b e = refl

none_there : (text : List ℕ) (read : Option Section) → section_at text ≡ read → HasNoSection text → read ≡ None
none_there text None is none = refl
none_there text (Some s) is none =
    let found = section_is text s is in
    absurd (none found.fields found.last s.1 found.reads)

-- no section stands in the text
pub no_head : (limit : ℕ) (text : List ℕ) → HasNoSection text → head_at limit text ≡ None
no_head limit text none = ap (headed_by limit (length text)) (none_there text (section_at text) refl none)

-- what is read of a longer text, in bytes of the section
sizes : (text : List ℕ) (s : Section) (is : SectionIs text s) → length text ≡ length (print_section is.fields is.last) + length s.1
sizes text s is = ap length is.reads.1 ∙ length-append (print_section is.fields is.last) s.1

-- a front that is as long as the text in front of what follows
front_of : (w more p rest : List ℕ) → w ++ more ≡ p ++ rest → length p ≤ length w → w ≡ p ++ drop (length p) w
front_of w more p rest same short =
    let e : take (length p) w ≡ p =
    sym (take-append-le (length p) w more short) ∙ ap (take (length p)) same ∙ take-append_seam p rest in
    sym (take-append-drop (length p) w) ∙ ap (λ (xs : List ℕ). xs ++ drop (length p) w) e

-- no section stands in bytes that are as many as a head may have
pub filled : (limit : ℕ) (text : List ℕ) → HasNoSection text → limit ≤ length text → (more : List ℕ) → head_at limit (text ++ more) ≡ None
filled limit text none full more = all_past limit (text ++ more) (λ s e.
    let is = section_is (text ++ more) s e in
    let p : List ℕ = print_section is.fields is.last in
    let size : length (text ++ more) ≡ length p + length s.1 = sizes (text ++ more) s is in
    elim (cases_lt (length text) (length p)) [
      | inr short ↦ absurd (none is.fields is.last (drop (length p) text) (is.reads.0, front_of text more p s.1 is.reads.1 short))
      | inl long ↦ first_off (nat_le (length (text ++ more) - length s.1) limit) (nat_le (length s.0) most_fields) (lt-leb (length (text ++ more) - length s.1) limit (omega (arith, size, long, full)))
    ])

-- too many fields, whatever follows
pub overflows : (limit : ℕ) (text : List ℕ) → SectionOverflows 256 text → (more : List ℕ) → head_at limit (text ++ more) ≡ None
overflows limit text over more = all_past limit (text ++ more) (λ s e.
    let is = section_is (text ++ more) s e in
    let many : 256 < length is.fields = over more is.fields is.last s.1 is.reads in
    let count : length s.0 ≡ length is.fields = ap length (sym is.are) ∙ length-map is.fields name_and_value in
    second_off (nat_le (length (text ++ more) - length s.1) limit) (nat_le (length s.0) most_fields) (lt-leb (length s.0) most_fields (omega (arith, many, count))))

-- ---- a section that the parser found

-- what it is as a section that is read
found_section : (text : List ℕ) (headers : List HeaderSpan) (used count : ℕ) → IsSectionOf text 0 headers (used, count)
    → section_at text ≡ Some (map (header_bytes text) (take count headers), drop used text)
found_section text headers used count h =
    let at : IsSectionAt text 0 headers used count h.0 h.1 = h.2 in
    section_reads text h.0 h.1 (drop used text) at.reads
    ∙ ap (λ (fs : List Field). Some (fs, drop used text)) (sym at.fields_are)

found_size : (text : List ℕ) (headers : List HeaderSpan) (used count : ℕ) → IsSectionOf text 0 headers (used, count) → length text - length (drop used text) ≡ used
found_size text headers used count h =
    let at : IsSectionAt text 0 headers used count h.0 h.1 = h.2 in
    let all : length text ≡ length (print_section h.0 h.1) + length (drop used text) = ap length at.reads.1 ∙ length-append (print_section h.0 h.1) (drop used text) in
    omega (arith, all, at.len_is)

-- past its limit
pub found_long : (limit : ℕ) (text : List ℕ) (headers : List HeaderSpan) (used count : ℕ) → IsSectionOf text 0 headers (used, count) → limit < used
    → (more : List ℕ) → head_at limit (text ++ more) ≡ None
found_long limit text headers used count h long more = all_past limit (text ++ more) (λ s e.
    let fields : List Field = map (header_bytes text) (take count headers) in
    let first = section_more text more (fields, drop used text) (found_section text headers used count h) in
    let same : (fields, drop used text ++ more) ≡ s = some_is _ s (sym first ∙ e) in
    let size : length (text ++ more) - length s.1 ≡ used =
    ap (λ (p : Section). length (text ++ more) - length p.1) (sym same) ∙ same_size text (drop used text) more ∙ found_size text headers used count h in
    first_off (nat_le (length (text ++ more) - length s.1) limit) (nat_le (length s.0) most_fields) (lt-leb (length (text ++ more) - length s.1) limit (omega (arith, size, long))))

-- within its limits
found_within : (limit : ℕ) (text : List ℕ) (headers : List HeaderSpan) (used count : ℕ) → IsSectionOf text 0 headers (used, count) → used ≤ limit
    → length (take count headers) ≤ 256 → (more : List ℕ)
    → head_at limit (text ++ more) ≡ with_status (map (header_bytes text) (take count headers)) (drop used text ++ more) (status_of (map (header_bytes text) (take count headers)))
found_within limit text headers used count h short few more =
    let fields : List Field = map (header_bytes text) (take count headers) in
    let rest : List ℕ = drop used text in
    let one : nat_le (length (text ++ more) - length (rest ++ more)) limit ≡ true =
    ap (λ (n : ℕ). nat_le n limit) (same_size text rest more ∙ found_size text headers used count h) ∙ le-leb used limit short in
    let two : nat_le (length fields) most_fields ≡ true = le-leb (length fields) most_fields (omega (arith, length-map (take count headers) (header_bytes text), few)) in
    ap (headed_by limit (length (text ++ more))) (section_more text more (fields, rest) (found_section text headers used count h))
    ∙ ap (λ (t : Bool). cond (t && nat_le (length fields) most_fields) (with_status fields (rest ++ more) (status_of fields)) None) one
    ∙ ap (λ (t : Bool). cond t (with_status fields (rest ++ more) (status_of fields)) None) two

pub found_bad : (limit : ℕ) (text : List ℕ) (headers : List HeaderSpan) (used count : ℕ) → IsSectionOf text 0 headers (used, count) → used ≤ limit
    → length (take count headers) ≤ 256
    → with_status (map (header_bytes text) (take count headers)) (drop used text) (status_of (map (header_bytes text) (take count headers))) ≡ None
    → (more : List ℕ) → head_at limit (text ++ more) ≡ None
found_bad limit text headers used count h short few none more =
    let fields : List Field = map (header_bytes text) (take count headers) in
    found_within limit text headers used count h short few more ∙ no_status_more fields (drop used text) more (status_of fields) none

pub found_whole : (limit : ℕ) (text : List ℕ) (headers : List HeaderSpan) (used count : ℕ) (head : Headed) → IsSectionOf text 0 headers (used, count) → used ≤ limit
    → length (take count headers) ≤ 256
    → with_status (map (header_bytes text) (take count headers)) (drop used text) (status_of (map (header_bytes text) (take count headers))) ≡ Some head
    → head_at limit text ≡ Some head
found_whole limit text headers used count head h short few whole =
    let fields : List Field = map (header_bytes text) (take count headers) in
    let rest : List ℕ = drop used text in
    let one : nat_le (length text - length rest) limit ≡ true = ap (λ (n : ℕ). nat_le n limit) (found_size text headers used count h) ∙ le-leb used limit short in
    let two : nat_le (length fields) most_fields ≡ true = le-leb (length fields) most_fields (omega (arith, length-map (take count headers) (header_bytes text), few)) in
    ap (headed_by limit (length text)) (found_section text headers used count h)
    ∙ ap (λ (t : Bool). cond (t && nat_le (length fields) most_fields) (with_status fields rest (status_of fields)) None) one
    ∙ ap (λ (t : Bool). cond t (with_status fields rest (status_of fields)) None) two
    ∙ whole

-- ---- what the call that makes the head tells

tells_one : (limit : ℕ) (text http : List ℕ) (headers : List HeaderSpan) (used count : ℕ) (read : HeadRead) → IsSectionOf text 0 headers (used, count) → used ≤ limit
    → length (take count headers) ≤ 256 → TellsWhole (map (header_bytes text) (take count headers)) (drop used text) http read → TellsHead limit text http read
tells_one limit text http headers used count HeadRead.More h short few tells = absurd tells
tells_one limit text http headers used count HeadRead.Whole h short few tells = (tells.0, found_whole limit text headers used count tells.0 h short few tells.1, tells.2)
tells_one limit text http headers used count HeadRead.Bad h short few tells = found_bad limit text headers used count h short few tells

pub tells_by : (limit : ℕ) (text rest http : List ℕ) (headers : List HeaderSpan) (used count : ℕ) (read : HeadRead) → IsSectionOf text 0 headers (used, count)
    → used ≤ limit → length (take count headers) ≤ 256 → rest ≡ drop used text
    → TellsWhole (map (header_bytes text) (take count headers)) rest http read → TellsHead limit text http read
tells_by limit text rest http headers used count read h short few same tells =
    tells_one limit text http headers used count read h short few
    (subst (λ (r : List ℕ). TellsWhole (map (header_bytes text) (take count headers)) r http read) same tells)
