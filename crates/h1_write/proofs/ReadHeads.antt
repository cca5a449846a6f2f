-- The head of a finished message, read back.
use Rattle.std.proofs.Common.{◌≡◌, ℕ, suc, ◌+◌, ◌-◌, Bool, true, false, cond, List, [], ◌∷◌, ◌++◌, length, take, drop, map, reverse, refl, sym, ap, ◌∙◌, arith, append_assoc}
use Rattle.std.specs.Prelude.{All, codes, Some, IsTrue}
use Rattle.std.specs.List.{flat_map, prefix_len, suffix_len}
use Rattle.std.specs.Str.Parse.{digits_value}
use Rattle.std.proofs.lemmas.List.{length-take, length-drop, reverse-reverse}
use Rattle.std.proofs.lemmas.List.Elements.{All-cons, All-nil, All-head, All-tail}
use Rattle.httparse.specs.Grammar as grammar
use Rattle.httparse.specs.Grammar.{skip_ows, trim_ows, is_value_byte, crlf, print_field, print_section, print_version, print_reason, IsField, RequestHead, ResponseHead, print_request, print_response}
use Rattle.httparse.specs.Spans.{name_and_value}
use Rattle.httparse.proofs.GrammarLemmas.{print_request-append, print_response-append}
use Rattle.http_model.specs.Head.{Field, StartLine, RequestLine, StatusLine, Head}
use Rattle.http_model.specs.Spelling.{line_end, field_text, fields_text, head_text}
use Rattle.px_bytes.specs.Blanks.{is_blank, trimmed}
use Rattle.h1_write.specs.ReadBack.{IsFinishedField, IsFinishedRequest, IsFinishedStatus, IsFinishedLine, IsFinishedHead, ReadsHead}

-- ---- values

skip_step : (t : Bool) (b n : ℕ) (bs : List ℕ) → skip_ows bs ≡ drop n bs → cond t (skip_ows bs) (b ∷ bs) ≡ drop (cond t (1 + n) 0) (b ∷ bs)
skip_step true b n bs e = e ∙ (let one : suc n ≡ 1 + n = omega arith in ap (λ (m : ℕ). drop m (b ∷ bs)) one)
skip_step false b n bs e = refl

skipped_as : (xs : List ℕ) → skip_ows xs ≡ drop (prefix_len is_blank xs) xs
skipped_as [] = refl
skipped_as (b ∷ bs) = skip_step (is_blank b) b (prefix_len is_blank bs) bs (skipped_as bs)

-- a value without blanks around it stands behind a space
pub value_back : (v : List ℕ) → trimmed v ≡ v → trim_ows (32 ∷ v) ≡ v
unfolding trim_ows
value_back [] e = refl
value_back (x ∷ xs) e =
    let v : List ℕ = x ∷ xs in
    let p = prefix_len is_blank v in
    let d = drop p v in
    let s = suffix_len is_blank d in
    let all : length (take (length d - s) d) ≡ length v = ap length e in
    let kept = length-take (length d - s) d in
    let left = length-drop p v in
    let front : p ≡ 0 = omega arith in
    let whole : d ≡ v = ap (λ (n : ℕ). drop n v) front in
    let none : s ≡ 0 = omega arith in
    let back : prefix_len is_blank (reverse v) ≡ 0 = ap (suffix_len is_blank) (sym whole) ∙ none in
    let first : skip_ows v ≡ v = skipped_as v ∙ whole in
    let last : skip_ows (reverse v) ≡ reverse v = skipped_as (reverse v) ∙ ap (λ (n : ℕ). drop n (reverse v)) back in
    ap (λ (l : List ℕ). reverse (skip_ows (reverse l))) first ∙ ap reverse last ∙ reverse-reverse v

-- ---- fields

-- the line of a field
abbrev pub line_of : Field → grammar.Field
line_of field = record { name = field.0; raw = 32 ∷ field.1; end = crlf }

field_printed : (field : Field) → field_text field ≡ print_field (line_of field)
field_printed field = ap (λ (l : List ℕ). l ++ line_end) (append_assoc field.0 (58 ∷ 32 ∷ []) field.1)

pub fields_printed : (fields : List Field) → fields_text fields ≡ flat_map print_field (map line_of fields)
fields_printed [] = refl
fields_printed (f ∷ fs) = λ i. field_printed f i ++ fields_printed fs i

line_is : (field : Field) → IsFinishedField field → IsField (line_of field)
line_is field is = record { name = is.name; raw = All-cons (λ (b : ℕ). IsTrue (is_value_byte b)) 32 field.1 refl is.clean }

pub lines_are : (fields : List Field) → All IsFinishedField fields → All IsField (map line_of fields)
lines_are [] all = All-nil IsField
lines_are (f ∷ fs) all = All-cons IsField (line_of f) (map line_of fs) (line_is f (All-head IsFinishedField f fs all)) (lines_are fs (All-tail IsFinishedField f fs all))

pub fields_back : (fields : List Field) → All IsFinishedField fields → map name_and_value (map line_of fields) ≡ fields
fields_back [] all = refl
fields_back (f ∷ fs) all =
    let value = value_back f.1 (All-head IsFinishedField f fs all).trim in
    λ i. (f.0, value i) ∷ fields_back fs (All-tail IsFinishedField f fs all) i

-- ---- heads

-- the text of a head in its parts, and what stands behind it
pub head_parts : (line fields rest : List ℕ) → ((line ++ fields) ++ line_end) ++ rest ≡ line ++ ((fields ++ line_end) ++ rest)
head_parts line fields rest =
    append_assoc (line ++ fields) line_end rest ∙ append_assoc line fields (line_end ++ rest) ∙ ap (λ (l : List ℕ). line ++ l) (sym (append_assoc fields line_end rest))

request_text : (method target rest : List ℕ) → ((method ++ 32 ∷ target) ++ codes " HTTP/1.1\r\n") ++ rest ≡ method ++ 32 ∷ (target ++ 32 ∷ (print_version 1 ++ (line_end ++ rest)))
request_text method target rest = append_assoc (method ++ 32 ∷ target) (codes " HTTP/1.1\r\n") rest ∙ append_assoc method (32 ∷ target) (codes " HTTP/1.1\r\n" ++ rest)

status_text : (status reason rest : List ℕ) → (((codes "HTTP/1.1 " ++ status) ++ 32 ∷ reason) ++ line_end) ++ rest ≡ print_version 1 ++ 32 ∷ (status ++ (print_reason (Some reason) ++ (line_end ++ rest)))
status_text status reason rest =
    append_assoc ((codes "HTTP/1.1 " ++ status) ++ 32 ∷ reason) line_end rest ∙ append_assoc (codes "HTTP/1.1 " ++ status) (32 ∷ reason) (line_end ++ rest) ∙ append_assoc (codes "HTTP/1.1 ") status ((32 ∷ reason) ++ (line_end ++ rest))

section_text : (fields : List Field) (rest : List ℕ) → (fields_text fields ++ line_end) ++ rest ≡ print_section (map line_of fields) crlf ++ rest
section_text fields rest = ap (λ (l : List ℕ). (l ++ line_end) ++ rest) (fields_printed fields)

request_back : (method target version : List ℕ) (fields : List Field) (rest : List ℕ) → IsFinishedRequest method target → All IsFinishedField fields
    → ReadsHead (RequestLine method target version) fields (head_text (record { line = RequestLine method target version; fields = fields }) ++ rest) rest
request_back method target version fields rest is each =
    let h : RequestHead = record { blank = []; method = method; target = target; minor = 1; line_end = crlf; fields = map line_of fields; last = crlf } in
    let line = (method ++ 32 ∷ target) ++ codes " HTTP/1.1\r\n" in (
      h,
      (
        record { method = is.token; target = (is.some, is.visible); target_text = is.text; minor = omega arith; fields = lines_are fields each },
        head_parts line (fields_text fields) rest ∙ request_text method target ((fields_text fields ++ line_end) ++ rest)
            ∙ ap (λ (l : List ℕ). method ++ 32 ∷ (target ++ 32 ∷ (print_version 1 ++ (line_end ++ l)))) (section_text fields rest)
            ∙ sym (print_request-append h rest),
      ),
      λ i. record { method = method; target = target; minor = 1; fields = fields_back fields each i },
    )

status_back : (version status reason : List ℕ) (fields : List Field) (rest : List ℕ) → IsFinishedStatus status reason → All IsFinishedField fields
    → ReadsHead (StatusLine version status reason) fields (head_text (record { line = StatusLine version status reason; fields = fields }) ++ rest) rest
status_back version status reason fields rest is each =
    let h : ResponseHead = record { blank = []; minor = 1; digits = status; reason = Some reason; line_end = crlf; fields = map line_of fields; last = crlf } in
    let line = ((codes "HTTP/1.1 " ++ status) ++ 32 ∷ reason) ++ line_end in (
      h,
      (
        (
          record { minor = omega arith; digits = (is.three, is.digits); reason = is.clean; fields = lines_are fields each },
          head_parts line (fields_text fields) rest ∙ status_text status reason ((fields_text fields ++ line_end) ++ rest)
              ∙ ap (λ (l : List ℕ). print_version 1 ++ 32 ∷ (status ++ (print_reason (Some reason) ++ (line_end ++ l)))) (section_text fields rest)
              ∙ sym (print_response-append h rest),
        ),
        is.least,
      ),
      λ i. record { minor = 1; status = digits_value 10 status; reason = reason; fields = fields_back fields each i },
    )

head_by : (line : StartLine) (fields : List Field) (rest : List ℕ) → IsFinishedLine line → All IsFinishedField fields → ReadsHead line fields (head_text (record { line = line; fields = fields }) ++ rest) rest
head_by (RequestLine method target version) fields rest is each = request_back method target version fields rest is each
head_by (StatusLine version status reason) fields rest is each = status_back version status reason fields rest is each

-- what follows the text of a head follows it where it is read
pub head_back : (head : Head) (rest : List ℕ) → IsFinishedHead head → ReadsHead head.line head.fields (head_text head ++ rest) rest
head_back head rest is = head_by head.line head.fields rest is.line is.fields
