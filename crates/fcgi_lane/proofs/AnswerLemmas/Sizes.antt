-- How many bytes an HTTP head has: at most 1024 more than the fields of the application that it is made of.
use Rattle.std.proofs.Common.{◌≡◌, ℕ, ◌+◌, ◌-◌, ◌*◌, ◌<◌, ◌≤◌, Bool, true, false, not, cond, nat_eq, nat_le, nat_lt, ◌&&◌, ◌||◌, List, [], ◌∷◌, ◌++◌, Option, Some, None, refl, sym, ap, ◌∙◌, arith, length, take, drop, map, codes, subst, reverse, get_or}
use Rattle.std.specs.Prelude.{filter}
use Rattle.std.specs.List.{flat_map, fold, list_any, AllByRecursion}
use Rattle.std.proofs.lemmas.Bool.{leb-true}
use Rattle.std.proofs.lemmas.List.{length-append, length-reverse, length-take, length-drop, length-map, drop_more}
use Rattle.httparse.specs.Grammar as grammar
use Rattle.httparse.specs.Grammar.{LineEnd, print_end, print_field, print_section, is_ows, skip_ows, trim_ows}
use Rattle.httparse.specs.declared.spans.HeaderSpan.{HeaderSpan}
use Rattle.httparse.specs.Spans.{IsSectionAt, IsSectionOf, header_bytes, name_and_value}
use Rattle.px_bytes.specs.Numbers.{decimal_of}
use Rattle.http_model.specs.Head.{Field}
use Rattle.http_model.specs.Fields.{is_named}
use Rattle.http_model.specs.Refusal.{reasons, reason_in, reason_of}
use Rattle.http_model.specs.Spelling.{field_text, fields_text}
use Rattle.fcgi_model.specs.Head.{first_value}
use Rattle.fcgi_lane.specs.Answer.Head as head
use Rattle.fcgi_lane.specs.Answer.Head.{Status, reason_or, with_digits, with_code, status_in, status_unless, status_or, status_of, is_passed, in_lower_case, passed, http_head}
use Rattle.fcgi_lane.specs.Answer.Head.{Headed, head_at}
use Rattle.fcgi_lane.specs.Answer.Flow.{Flow, Place, fresh, next, adds, output_in}
use Rattle.fcgi_lane.specs.Answer.Section.{section_at}
use Rattle.fcgi_lane.specs.Answer.Cgi.{stream_by, cgi_of}
use Rattle.fcgi_lane.proofs.AnswerLemmas.Sections.{Section, some_is, section_is}

-- the least bytes of the line of a field: a colon, and the end of the line
abbrev line_size : Field → ℕ
line_size field = length field.0 + length field.1 + 2

abbrev lines_size : List Field → ℕ
lines_size [] = 0
lines_size (field ∷ fields) = line_size field + lines_size fields

-- ---- the bytes of a section

skip_by : (t : Bool) (b : ℕ) (bytes skipped : List ℕ) → length skipped ≤ length bytes → length (cond t skipped (b ∷ bytes)) ≤ length (b ∷ bytes)
skip_by true b bytes skipped short = omega (arith, short)
skip_by false b bytes skipped short = omega arith

skip_short : (bytes : List ℕ) → length (skip_ows bytes) ≤ length bytes
skip_short [] = omega arith
skip_short (b ∷ bytes) = skip_by (is_ows b) b bytes (skip_ows bytes) (skip_short bytes)

trim_short : (bytes : List ℕ) → length (trim_ows bytes) ≤ length bytes
unfolding trim_ows
trim_short bytes =
    let front : List ℕ = skip_ows bytes in
    omega (arith, length-reverse (skip_ows (reverse front)), skip_short (reverse front), length-reverse front, skip_short bytes)

end_some : (end : LineEnd) → 0 < length (print_end end)
end_some LineEnd.crlf = omega arith
end_some LineEnd.lf = omega arith

field_long : (field : grammar.Field) → line_size (name_and_value field) ≤ length (print_field field)
field_long field =
    let value : length (name_and_value field).1 ≤ length field.raw = trim_short field.raw in
    simp length-append (omega (arith, value, end_some field.end))

fields_long : (fields : List grammar.Field) → lines_size (map name_and_value fields) ≤ length (flat_map print_field fields)
fields_long [] = omega arith
fields_long (field ∷ fields) = omega (arith, length-append (print_field field) (flat_map print_field fields), field_long field, fields_long fields)

section_long : (fields : List grammar.Field) (last : LineEnd) → lines_size (map name_and_value fields) < length (print_section fields last)
section_long fields last = omega (arith, length-append (flat_map print_field fields) (print_end last), fields_long fields, end_some last)

-- ---- the fields that pass on

lower_size : (name : List ℕ) → length (in_lower_case (name, [])).0 ≡ length name
lower_size name = length-map name _

pub field_size : (field : Field) → length (field_text (in_lower_case field)) ≡ line_size field + 2
field_size field = simp length-append (omega (arith, lower_size field.0))

passed_size : (fields : List Field) → length (fields_text (map in_lower_case fields)) ≡ lines_size fields + 2 * length fields
passed_size [] = refl
passed_size (field ∷ fields) =
    omega (arith, length-append (field_text (in_lower_case field)) (fields_text (map in_lower_case fields)), field_size field, passed_size fields)

fewer_by : (t : Bool) (field : Field) (fields some : List Field) → lines_size some ≤ lines_size fields → lines_size (cond t (field ∷ some) some) ≤ lines_size (field ∷ fields)
fewer_by true field fields some less = omega (arith, less)
fewer_by false field fields some less = omega (arith, less)

passed_by : (t : Bool) (field : Field) (some : List Field) → lines_size (cond t (field ∷ some) some) ≤ line_size field + lines_size some
passed_by true field some = omega arith
passed_by false field some = omega arith

fewer : (fields : List Field) → lines_size (filter is_passed fields) ≤ lines_size fields
fewer [] = omega arith
fewer (field ∷ fields) = fewer_by (is_passed field) field fields (filter is_passed fields) (fewer fields)

count_by_case : (t : Bool) (field : Field) (fields some : List Field) → length some ≤ length fields → length (cond t (field ∷ some) some) ≤ length (field ∷ fields)
count_by_case true field fields some less = omega (arith, less)
count_by_case false field fields some less = omega (arith, less)

not_more : (fields : List Field) → length (filter is_passed fields) ≤ length fields
not_more [] = omega arith
not_more (field ∷ fields) = count_by_case (is_passed field) field fields (filter is_passed fields) (not_more fields)

-- ---- the status, which doesn't pass on

abbrev status_name : List ℕ
status_name = codes "status"

status_by : (named : Bool) (field : Field) (fields : List Field) (value : List ℕ) → is_named status_name field ≡ named
    → cond named (Some field.1) (first_value status_name fields) ≡ Some value
    → (first_value status_name fields ≡ Some value → lines_size (filter is_passed fields) + length value ≤ lines_size fields)
    → lines_size (filter is_passed (field ∷ fields)) + length value ≤ lines_size (field ∷ fields)
status_by true field fields value is found later =
    let others : Bool = list_any (λ name. is_named name field) (codes "transfer-encoding" ∷ codes "connection" ∷ []) in
    let off : is_passed field ≡ false = ap (λ (t : Bool). not (t || others)) is in
    let same : field.1 ≡ value = some_is field.1 value found in
    let size : lines_size (filter is_passed (field ∷ fields)) ≡ lines_size (filter is_passed fields) = ap (λ (t : Bool). lines_size (cond t (field ∷ filter is_passed fields) (filter is_passed fields))) off in
    omega (arith, size, ap length same, fewer fields)
status_by false field fields value is found later =
    omega (arith, later found, passed_by (is_passed field) field (filter is_passed fields))

status_kept : (fields : List Field) (value : List ℕ) → first_value status_name fields ≡ Some value → lines_size (filter is_passed fields) + length value ≤ lines_size fields
status_kept [] value found = absurd cc
status_kept (field ∷ fields) value found = status_by (is_named status_name field) field fields value refl found (status_kept fields value)

-- ---- the reason

abbrev most_reason : ℕ
most_reason = 40

reason_by : (t : Bool) (text other : List ℕ) → length text ≤ most_reason → length other ≤ most_reason → length (cond t text other) ≤ most_reason
reason_by true text other one two = one
reason_by false text other one two = two

rows_short : (rows : List (ℕ × List ℕ)) (code : ℕ) → AllByRecursion (λ row. length row.1 ≤ most_reason) rows → length (reason_in rows code) ≤ most_reason
rows_short [] code short = omega arith
rows_short (row ∷ rows) code short = reason_by (nat_eq row.0 code) row.1 (reason_in rows code) short.0 (rows_short rows code short.1)

reason_short : (code : ℕ) → length (reason_of code) ≤ most_reason
unfolding reason_of
reason_short code = rows_short reasons code (omega arith, (omega arith, (omega arith, (omega arith, (omega arith, (omega arith, (omega arith, (omega arith, (omega arith, (omega arith, (omega arith, (omega arith, (omega arith, (omega arith, (omega arith, (omega arith, (omega arith, (omega arith, (omega arith, (omega arith, (omega arith, (omega arith, (omega arith, (omega arith, tt))))))))))))))))))))))))

-- a status that a value is
record IsStatus (value : List ℕ) (status : Status) : Type 0 where
  digits : length status.0 ≤ 3
  reason : length status.1 ≤ length value + most_reason

reason_or_short : (code : ℕ) (reason : List ℕ) → length (reason_or code reason) ≤ length reason + most_reason
reason_or_short code [] = reason_short code
reason_or_short code (b ∷ reason) = omega arith

behind_by : (t : Bool) (code b : ℕ) (reason text : List ℕ) → cond t (Some (reason_or code reason)) None ≡ Some text → length text ≤ length reason + most_reason
behind_by true code b reason text e = subst (λ (r : List ℕ). length r ≤ length reason + most_reason) (some_is (reason_or code reason) text e) (reason_or_short code reason)
behind_by false code b reason text e = absurd cc

behind_short : (code : ℕ) (behind text : List ℕ) → head.reason_in code behind ≡ Some text → length text ≤ length behind + most_reason
behind_short code [] text e = subst (λ (r : List ℕ). length r ≤ most_reason) (some_is (reason_of code) text e) (reason_short code)
behind_short code (b ∷ reason) text e = omega (arith, behind_by (nat_eq b 32) code b reason text e)

digits_by : (digits : List ℕ) (read : Option (List ℕ)) (status : Status) → with_digits digits read ≡ Some status → (digits ≡ status.0) × (read ≡ Some status.1)
digits_by digits None status e = absurd cc
digits_by digits (Some reason) status e =
    let same : (digits, reason) ≡ status = some_is (digits, reason) status e in
    (ap (λ (s : Status). s.0) same, ap (λ (s : Status). Some s.1) same)

code_by : (low : Bool) (digits behind : List ℕ) (code : ℕ) (status : Status) → cond low None (with_digits digits (head.reason_in code behind)) ≡ Some status
    → (length status.0 ≡ length digits) × (length status.1 ≤ length behind + most_reason)
code_by true digits behind code status e = absurd cc
code_by false digits behind code status e =
    let is = digits_by digits (head.reason_in code behind) status e in
    (ap length (sym is.0), behind_short code behind status.1 is.1)

read_by : (digits behind : List ℕ) (read : Option ℕ) (status : Status) → with_code digits behind read ≡ Some status
    → (length status.0 ≡ length digits) × (length status.1 ≤ length behind + most_reason)
read_by digits behind None status e = absurd cc
read_by digits behind (Some code) status e = code_by (nat_lt code 200) digits behind code status e

value_by : (short : Bool) (value : List ℕ) (read : Option ℕ) (status : Status) → cond short None (with_code (take 3 value) (drop 3 value) read) ≡ Some status → IsStatus value status
value_by true value read status e = absurd cc
value_by false value read status e =
    let is = read_by (take 3 value) (drop 3 value) read status e in
    record { digits = omega (arith, is.0, length-take 3 value); reason = omega (arith, is.1, length-drop 3 value) }

unless_by : (location : Option (List ℕ)) (status : Status) → status_unless location ≡ Some status → IsStatus [] status
unless_by None status e = subst (λ (s : Status). IsStatus [] s) (some_is (codes "200", reason_of 200) status e) (record { digits = omega arith; reason = reason_short 200 })
unless_by (Some location) status e = subst (λ (s : Status). IsStatus [] s) (some_is (codes "302", reason_of 302) status e) (record { digits = omega arith; reason = reason_short 302 })

-- the status, and the fields that pass on
or_by : (fields : List Field) (read : Option (List ℕ)) (status : Status) → first_value status_name fields ≡ read → status_or fields read ≡ Some status
    → (length status.0 ≤ 3) × (lines_size (filter is_passed fields) + length status.1 ≤ lines_size fields + most_reason)
or_by fields None status is e =
    let has = unless_by (first_value (codes "location") fields) status e in
    (has.digits, omega (arith, has.reason, fewer fields))
or_by fields (Some value) status is e =
    let has = value_by (nat_lt (length value) 3) value (decimal_of 3 (take 3 value)) status e in
    (has.digits, omega (arith, has.reason, status_kept fields value is))

-- ---- the head

head_size : (digits reason : List ℕ) (fields : List Field) → length (http_head digits reason fields) ≡ 14 + (length digits + length reason + length (fields_text (passed fields)))
unfolding http_head
head_size digits reason fields = simp length-append (omega arith)

made_short : (digits reason : List ℕ) (fields : List Field) → status_of fields ≡ Some (digits, reason) → length fields ≤ 256 → length (http_head digits reason fields) < lines_size fields + 1024
made_short digits reason fields is few =
    let has = or_by fields (first_value status_name fields) (digits, reason) refl is in
    omega (arith, head_size digits reason fields, passed_size (filter is_passed fields), not_more fields, has.0, has.1, few)

-- ---- an HTTP stream

status_fits : (fields : List Field) (rest : List ℕ) (read : Option Status) (h : Headed) → status_of fields ≡ read → length fields ≤ 256 → head.with_status fields rest read ≡ Some h → length h.0 + length h.1 ≤ lines_size fields + length rest + 1024
status_fits fields rest None h is few e = absurd cc
status_fits fields rest (Some status) h is few e =
    let same : (http_head status.0 status.1 fields, rest) ≡ h = some_is (http_head status.0 status.1 fields, rest) h e in
    omega (arith, made_short status.0 status.1 fields is few, ap (λ (h : Headed). length h.0) same, ap (λ (h : Headed). length h.1) same)

within_fits : (within few : Bool) (fields : List Field) (rest : List ℕ) (h : Headed) → nat_le (length fields) 256 ≡ few
    → cond (within && few) (head.with_status fields rest (status_of fields)) None ≡ Some h → length h.0 + length h.1 ≤ lines_size fields + length rest + 1024
within_fits true true fields rest h is e = status_fits fields rest (status_of fields) h refl (leb-true (length fields) 256 is) e
within_fits true false fields rest h is e = absurd cc
within_fits false few fields rest h is e = absurd cc

headed_fits : (limit : ℕ) (text : List ℕ) (section : Option Section) (h : Headed) → section_at text ≡ section → head.headed_by limit (length text) section ≡ Some h → length h.0 + length h.1 ≤ length text + 1024
headed_fits limit text None h is e = absurd cc
headed_fits limit text (Some section) h is e =
    let of = section_is text section is in
    let all : length text ≡ length (print_section of.fields of.last) + length section.1 = ap length of.reads.1 ∙ length-append (print_section of.fields of.last) section.1 in
    let long : lines_size section.0 < length (print_section of.fields of.last) = subst (λ (fs : List Field). lines_size fs < length (print_section of.fields of.last)) of.are (section_long of.fields of.last) in
    let fits = within_fits (nat_le (length text - length section.1) limit) (nat_le (length section.0) 256) section.0 section.1 h refl e in
    omega (arith, all, long, fits)

adds_short : (adds : Bool) (b : ℕ) (out bytes : List ℕ) → length out ≤ length bytes → length (cond adds (b ∷ []) [] ++ out) ≤ length (b ∷ bytes)
adds_short true b out bytes short = omega (arith, short)
adds_short false b out bytes short = omega (arith, short)

output_short : (flow : Flow) (bytes : List ℕ) → length (output_in flow bytes) ≤ length bytes
output_short flow [] = omega arith
output_short flow (b ∷ bytes) = adds_short (adds flow.place) b (output_in (next flow b) bytes) bytes (output_short (next flow b) bytes)

stream_fits : (limit : ℕ) (text : List ℕ) (found : Option Headed) (place : Place) → head_at limit text ≡ found → length (stream_by found place).bytes ≤ length text + 1024
stream_fits limit text None place is = omega arith
stream_fits limit text (Some h) place is = omega (arith, length-append h.0 h.1, headed_fits limit text (section_at text) h refl is)

-- it has at most so many bytes more than the application's own
pub cgi_short : (limit : ℕ) (bytes : List ℕ) → length (cgi_of limit bytes).bytes ≤ length bytes + 1024
cgi_short limit bytes =
    let out : List ℕ = output_in fresh bytes in
    omega (arith, stream_fits limit out (head_at limit out) (fold next fresh bytes).place refl, output_short fresh bytes)

-- the head of a section that the parser found, with what follows it
pub head_fits : (text rest : List ℕ) (headers : List HeaderSpan) (used count most : ℕ) → IsSectionOf text 0 headers (used, count) → length (take count headers) ≤ 256 → rest ≡ drop used text
    → length text + 1024 ≤ most → (digits reason : List ℕ) → status_of (map (header_bytes text) (take count headers)) ≡ Some (digits, reason)
    → length (http_head digits reason (map (header_bytes text) (take count headers))) + length rest ≤ most
head_fits text rest headers used count most h few same room digits reason is =
    let at : IsSectionAt text 0 headers used count h.0 h.1 = h.2 in
    let fields : List Field = map (header_bytes text) (take count headers) in
    let all : length text ≡ length (print_section h.0 h.1) + length (drop used text) = ap length at.reads.1 ∙ length-append (print_section h.0 h.1) (drop used text) in
    let long : lines_size fields < length (print_section h.0 h.1) = subst (λ (fs : List Field). lines_size fs < length (print_section h.0 h.1)) (sym at.fields_are) (section_long h.0 h.1) in
    omega (arith, all, long, room, ap length same, made_short digits reason fields is (omega (arith, length-map (take count headers) (header_bytes text), few)))

-- ---- one field more of those that are put behind a text

pub one_fits : (text : List ℕ) (headers : List HeaderSpan) (at : ℕ) (default : HeaderSpan) (now old : List ℕ) (cap : ℕ) → at < length headers
    → is_passed (header_bytes text (get_or headers at default)) ≡ true
    → now ++ fields_text (passed (map (header_bytes text) (drop at headers))) ≡ old ++ fields_text (passed (map (header_bytes text) headers))
    → length old + length (fields_text (passed (map (header_bytes text) headers))) ≤ cap
    → length now + (length (header_bytes text (get_or headers at default)).0 + length (header_bytes text (get_or headers at default)).1 + 4) ≤ cap
one_fits text headers at default now old cap within on same room =
    let field : Field = header_bytes text (get_or headers at default) in
    let rest : List Field = map (header_bytes text) (drop (at + 1) headers) in
    let here : List ℕ = fields_text (passed (map (header_bytes text) (drop at headers))) in
    let all : List ℕ = fields_text (passed (map (header_bytes text) headers)) in
    let split : passed (map (header_bytes text) (drop at headers)) ≡ in_lower_case field ∷ passed rest =
    ap (λ (hs : List HeaderSpan). passed (map (header_bytes text) hs)) (drop_more headers at default within)
    ∙ ap (λ (t : Bool). map in_lower_case (cond t (field ∷ filter is_passed rest) (filter is_passed rest))) on in
    let size : length here ≡ length (field_text (in_lower_case field)) + length (fields_text (passed rest)) =
    ap (λ (fs : List Field). length (fields_text fs)) split ∙ length-append (field_text (in_lower_case field)) (fields_text (passed rest)) in
    let one : length (field_text (in_lower_case field)) ≡ length field.0 + length field.1 + 2 + 2 = field_size field in
    let sums : length now + length here ≡ length old + length all = sym (length-append now here) ∙ ap length same ∙ length-append old all in
    omega (arith, size, one, sums, room)
