-- The text of a received head is at most twice the bytes that it was read from.
use Rattle.std.proofs.Common.{◌≡◌, ℕ, ◌+◌, ◌*◌, ◌^◌, ◌<◌, ◌≤◌, ◌⊎◌, inl, inr, Bool, true, false, List, [], ◌∷◌, ◌++◌, length, reverse, map, refl, sym, ap, ◌∙◌, length-append, arith}
use Rattle.std.specs.Prelude.{Option, Some, None, Ok, Err, if◌then◌else◌, not, ◌&&◌, ◌==◌, nat_le, decimal, sum_by}
use Rattle.std.specs.Char.{digit_value, is_ascii_digit}
use Rattle.std.specs.List.{flat_map, filter}
use Rattle.std.specs.Str.{str_to_ascii_lowercase}
use Rattle.std.specs.Str.Parse.{AllDigits}
use Rattle.std.proofs.lemmas.List.{length-reverse, length-map}
use Rattle.std.proofs.lemmas.List.Concat.{length-flat_map}
use Rattle.std.proofs.lemmas.List.Elements.{All-head, All-tail}
use Rattle.std.proofs.lemmas.Bool.{leb-true}
use Rattle.std.proofs.lemmas.Str.{digit_value_digit}
use Rattle.std.proofs.lemmas.List.Filters.{sum_by-filter_both}
use Rattle.std.proofs.lemmas.List.Sums.{sum_by-cons}
use Rattle.std.proofs.lemmas.Int.Digits.{digits_value-lt}
use Rattle.std.proofs.lemmas.Fmt.{length-decimal-le}
use Rattle.httparse.specs.Grammar.{LineEnd, crlf, lf, print_end, Field as Printed, print_field, print_version, ResponseHead, IsResponseHead, print_response, print_reason, reason_phrase, status_code, trim_ows, skip_ows, is_ows, AllPass}
use Rattle.httparse.specs.Spans.{name_and_value}
use Rattle.httparse.proofs.PieceLemmas.{print_field-append}
use Rattle.http_model.specs.declared.Limits.{Limits}
use Rattle.http_model.specs.declared.Framing.{Framing}
use Rattle.http_model.specs.Head.{Field, StartLine, StatusLine, Head}
use Rattle.http_model.specs.Finish.{finish_interim, framing_names}
use Rattle.http_model.specs.Fields.{is_named_among}
use Rattle.http_model.specs.Reading.{Received, Begins}
use Rattle.http_model.specs.Spelling.{line_text, field_text, fields_text, head_text}
use Rattle.h1_head.specs.declared.answer.HeadWhy.{HeadWhy}
use Rattle.h1_head.specs.declared.answer.HeadWhy.TheVariants as why
use Rattle.h1_head.specs.Rows.{folded, is_kept, kept_head, kept_reading, decided, unless_refused, status_line, response_refusal_of, response_framing_of}
use Rattle.h1_head.specs.Kind.{response_parts_of, response_heads}
use Rattle.h1_head.specs.Stream.{behind, HeadOf}

end_some : (end : LineEnd) → 0 < length (print_end end)
end_some crlf = omega arith
end_some lf = omega arith

-- ---- fields

-- some of the fields have a shorter text than all
filter_short : (keep : Field → Bool) (fields : List Field) → length (fields_text (filter keep fields)) ≤ length (fields_text fields)
filter_short keep fields =
    let size : Field → ℕ = λ field. length (field_text field) in
    let kept = length-flat_map field_text (filter keep fields) in
    let all = length-flat_map field_text fields in
    let both = sum_by-filter_both keep (λ field. not (keep field)) (λ field. refl) size fields in
    omega (arith, kept, all, both)

skip_by : (v : Bool) (bytes all : List ℕ) → length (skip_ows bytes) ≤ length bytes → length (if v then skip_ows bytes else all) ≤ length bytes ⊎ (length (if v then skip_ows bytes else all) ≡ length all)
skip_by true bytes all h = inl h
skip_by false bytes all h = inr refl

skip_short : (bytes : List ℕ) → length (skip_ows bytes) ≤ length bytes
skip_short [] = omega arith
skip_short (b ∷ bytes) =
    elim (skip_by (is_ows b) bytes (b ∷ bytes) (skip_short bytes)) [
      | inl h ↦ omega (arith, h)
      | inr e ↦ omega (arith, e)
    ]

trim_short : (bytes : List ℕ) → length (trim_ows bytes) ≤ length bytes
unfolding trim_ows
trim_short bytes =
    let a = skip_short bytes in
    let b = length-reverse (skip_ows bytes) in
    let c = skip_short (reverse (skip_ows bytes)) in
    let d = length-reverse (skip_ows (reverse (skip_ows bytes))) in
    omega (arith, a, b, c, d)

-- the text of a field has at most two bytes more than its name and its value have, and a line end
field_size : (field : Field) → length (field_text field) ≡ length field.0 + length field.1 + 4
field_size field = simp length-append (omega arith)

printed_size : (f : Printed) → length f.name + length f.raw + 2 ≤ length (print_field f)
printed_size f =
    let p : length (print_field f ++ []) ≡ length (f.name ++ 58 ∷ (f.raw ++ (print_end f.end ++ []))) = ap (λ (t : List ℕ). length t) (print_field-append f []) in
    let q = length-append (print_field f) [] in
    let a = length-append f.name (58 ∷ (f.raw ++ (print_end f.end ++ []))) in
    let b = length-append f.raw (print_end f.end ++ []) in
    let d = length-append (print_end f.end) [] in
    let e = end_some f.end in
    omega (arith, p, q, a, b, d, e)

line_short : (f : Printed) → length (field_text (folded (name_and_value f))) ≤ 2 * length (print_field f)
line_short f =
    let t = field_size (folded (name_and_value f)) in
    let n : length (str_to_ascii_lowercase f.name) ≡ length f.name = length-map f.name _ in
    let v = trim_short f.raw in
    let p = printed_size f in
    omega (arith, t, n, v, p)

folded_filter : (keep : Field → Bool) (fields : List Field) → length (fields_text (map folded (filter keep fields))) ≤ length (fields_text (map folded fields))
folded_filter keep fields =
    let size : Field → ℕ = λ field. length (field_text (folded field)) in
    let kept = folded_size (filter keep fields) in
    let all = folded_size fields in
    let both = sum_by-filter_both keep (λ field. not (keep field)) (λ field. refl) size fields in
    omega (arith, kept, all, both)
  where
    folded_size : (fields : List Field) → length (fields_text (map folded fields)) ≡ sum_by (λ field. length (field_text (folded field))) fields
    folded_size [] = refl
    folded_size (field ∷ fields) =
        length-append (field_text (folded field)) (fields_text (map folded fields)) ∙ ap (λ (n : ℕ). length (field_text (folded field)) + n) (folded_size fields)
        ∙ sym (sum_by-cons (λ (x : Field). length (field_text (folded x))) field fields)

-- all fields of a section
all_short : (fs : List Printed) → length (fields_text (map folded (map name_and_value fs))) ≤ 2 * length (flat_map print_field fs)
all_short [] = omega arith
all_short (f ∷ fs) =
    let h = line_short f in
    let r = all_short fs in
    let a = length-append (field_text (folded (name_and_value f))) (fields_text (map folded (map name_and_value fs))) in
    let b = length-append (print_field f) (flat_map print_field fs) in
    omega (arith, h, r, a, b)

-- fields that stay of a section, in lower case
pub kept_short : (keep : Field → Bool) (fs : List Printed) → length (fields_text (map folded (filter keep (map name_and_value fs)))) ≤ 2 * length (flat_map print_field fs)
kept_short keep fs =
    let a = folded_filter keep (map name_and_value fs) in
    let b = all_short fs in
    omega (arith, a, b)

-- ---- a response

-- what is kept where no row refuses
pub kept_where_decided : (refusal : Option HeadWhy) (framed : Framing) (limits : Limits) (line : StartLine) (fields : List Field) (got : Received) → decided refusal framed limits line fields ≡ Ok got → kept_reading line framed fields ≡ got
unfolding decided
kept_where_decided None framed limits line fields got e = by_weight _ (kept_reading line framed fields) got e
  where
    by_weight : (heavy : Bool) (all got : Received) → unless_refused None (if heavy then Err why.Receive else Ok all) ≡ Ok got → all ≡ got
    by_weight true all got e = absurd (cc)
    by_weight false all got e = cc
kept_where_decided (Some why) framed limits line fields got e = absurd (cc)

reason_short : (reason : Option (List ℕ)) → length (reason_phrase reason) ≤ length (print_reason reason)
reason_short None = omega arith
reason_short (Some phrase) = omega arith

interim_short : (head : Head) → length (head_text (finish_interim head)) ≤ length (line_text head.line) + length (fields_text head.fields) + 2
interim_short head =
    let left = fields_text (filter (λ (field : Field). not (is_named_among framing_names field)) head.fields) in
    let f = filter_short (λ field. not (is_named_among framing_names field)) head.fields in
    let a : length (head_text (finish_interim head)) ≡ length (line_text head.line) + (length left + 2) = simp length-append (omega arith) in
    omega (arith, f, a)

-- ---- the status line

digit_low : (c : ℕ) → is_ascii_digit c ≡ true → digit_value c < 10
digit_low c e = let v = digit_value_digit c (within (nat_le 48 c) (nat_le c 57) refl refl e) in omega (arith, v, (within (nat_le 48 c) (nat_le c 57) refl refl e).1)
  where
    within : (least most : Bool) → nat_le 48 c ≡ least → nat_le c 57 ≡ most → (least && most) ≡ true → (48 ≤ c) × (c ≤ 57)
    within true true a b e = (leb-true 48 c a, leb-true c 57 b)
    within true false a b e = absurd (cc)
    within false most a b e = absurd (cc)

digits_low : (bytes : List ℕ) → AllPass is_ascii_digit bytes → AllDigits 10 bytes
digits_low [] all = tt
digits_low (c ∷ bytes) all = (digit_low c (All-head (λ v. is_ascii_digit v ≡ true) c bytes all), digits_low bytes (All-tail (λ v. is_ascii_digit v ≡ true) c bytes all))

-- three digits write a number below 1000, so its decimal has at most three
status_short : (h : ResponseHead) → IsResponseHead h → length (decimal (status_code h)) ≤ 3
status_short h is =
    let below = digits_value-lt 10 h.digits (digits_low h.digits is.digits.1) in
    let three : 10 ^ length h.digits ≡ 1000 = ap (λ (n : ℕ). 10 ^ n) is.digits.0 in
    let low : status_code h < 1000 = omega (arith, below, three) in
    length-decimal-le 3 (status_code h) (omega arith) (omega (arith, low)) (omega (arith, low))

line_size : (version status reason : List ℕ) → length (line_text (StatusLine version status reason)) ≡ 12 + (length status + length reason)
line_size version status reason = simp length-append (omega arith)

-- ---- a printed head

response_size : (h : ResponseHead) → 11 + (length h.digits + (length (print_reason h.reason) + length (flat_map print_field h.fields))) ≤ length (print_response h)
unfolding print_response
response_size h =
    let a = end_some h.line_end in
    let b = end_some h.last in
    simp length-append (omega (arith, a, b))

-- empty lines in front are dropped
behind_short : (bytes : List ℕ) → length (behind bytes) ≤ length bytes
behind_short [] = omega arith
behind_short (a ∷ []) = one (a == 10)
  where
    one : (feed : Bool) → length (if feed then [] else a ∷ []) ≤ 1
    one true = omega arith
    one false = omega arith
behind_short (a ∷ b ∷ bytes) = two (a == 10) (a == 13 && b == 10) (behind_short (b ∷ bytes)) (behind_short bytes)
  where
    two : (feed pair : Bool) → length (behind (b ∷ bytes)) ≤ length (b ∷ bytes) → length (behind bytes) ≤ length bytes
        → length (if feed then behind (b ∷ bytes) else if pair then behind bytes else a ∷ b ∷ bytes) ≤ length (a ∷ b ∷ bytes)
    two true pair h k = omega (arith, h)
    two false true h k = omega (arith, k)
    two false false h k = omega arith

-- ---- a received head

kept_size : (h : ResponseHead) (framed : Framing) → IsResponseHead h
    → length (head_text (finish_interim (kept_reading (status_line (response_parts_of h)) framed (map name_and_value h.fields)).head)) ≤ 2 * length (print_response h)
kept_size h framed is =
    let i = interim_short (kept_head (status_line (response_parts_of h)) (map name_and_value h.fields)) in
    let k = kept_short (is_kept (map name_and_value h.fields)) h.fields in
    let l = line_size (print_version h.minor) (decimal (status_code h)) (reason_phrase h.reason) in
    let s = status_short h is in
    let r = reason_short h.reason in
    let p = response_size h in
    let d = is.digits.0 in
    omega (arith, i, k, l, s, r, p, d)

pub head_short : (head_asked : Bool) (limits : Limits) (bytes : List ℕ) (got : Received) (rest : List ℕ) → HeadOf (response_heads head_asked) limits bytes (Begins got rest)
    → length (head_text (finish_interim got.head)) + 1536 * length rest ≤ 1536 * length bytes
head_short head_asked limits bytes got rest (h, begins, decides) =
    let p = response_parts_of h in
    let e = kept_where_decided (response_refusal_of p) (response_framing_of head_asked p) limits (status_line p) p.fields got decides in
    let k = kept_size h (response_framing_of head_asked p) begins.reads.0.0 in
    let same : length (head_text (finish_interim (kept_reading (status_line p) (response_framing_of head_asked p) p.fields).head)) ≡ length (head_text (finish_interim got.head)) = ap (λ (r : Received). length (head_text (finish_interim r.head))) e in
    let t : length (behind bytes) ≡ length (print_response h ++ rest) = ap (λ (x : List ℕ). length x) begins.reads.0.1 in
    let a = length-append (print_response h) rest in
    let b = behind_short bytes in
    omega (arith, k, same, t, a, b)
