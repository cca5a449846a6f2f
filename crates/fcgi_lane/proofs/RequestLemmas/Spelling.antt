-- The head that was spelled is the one that is read.
use Rattle.std.proofs.Common.{◌≡◌, ◌≢◌, ℕ, zero, suc, ◌+◌, ◌<◌, ◌≤◌, Bool, true, false, not, cond, nat_eq, List, [], ◌∷◌, ◌++◌, length, take, drop, codes, Option, Some, None, refl, sym, ap, ◌∙◌, arith, append_assoc}
use Rattle.std.specs.List.{AllByRecursion, prefix_len}
use Rattle.std.specs.Str.{bytes_eq}
use Rattle.std.proofs.lemmas.List.{length-append, take_at, drop_at}
use Rattle.std.proofs.lemmas.Bool.{ne_eqb, eq-eqb}
use Rattle.http_model.specs.Head.{Field}
use Rattle.http_model.specs.Spelling.{line_end, field_text, fields_text}
use Rattle.fcgi_model.specs.Head.{RequestHead, is_line_byte, is_word_byte, is_name_byte, line_at, ended_line, request_line, target_at, field_of, value_behind, fields_within, fields_from, more_fields, in_front, head_of, head_from, with_line, with_fields}
use Rattle.fcgi_lane.specs.Request.Spelled.{IsPlain, IsPlainBut, IsPlainField, IsPlainHead, spelling}
use Rattle.fcgi_lane.proofs.RequestLemmas.Reading.{full_line}

-- ---- bytes of one kind

pub all_both : (xs ys : List ℕ) → AllByRecursion IsPlain xs → AllByRecursion IsPlain ys → AllByRecursion IsPlain (xs ++ ys)
all_both [] ys a b = b
all_both (x ∷ xs) ys a b = (a.0, all_both xs ys a.1 b)

plain_of : (stop : ℕ) (xs : List ℕ) → IsPlainBut stop xs → AllByRecursion IsPlain xs
plain_of stop [] h = tt
plain_of stop (x ∷ xs) h = (h.0.0, plain_of stop xs h.1)

-- a byte that isn't the one that stops
other_byte : (stop b : ℕ) → b ≢ stop → not (nat_eq b stop) ≡ true
other_byte stop b h = ap not (ne_eqb b stop h)

cut_len : (stop : ℕ) (xs rest : List ℕ) → AllByRecursion (λ b. b ≢ stop) xs → prefix_len (λ b. not (nat_eq b stop)) (xs ++ stop ∷ rest) ≡ length xs
cut_len stop [] rest h = ap (λ (t : Bool). cond (not t) (1 + prefix_len (λ b. not (nat_eq b stop)) rest) 0) (eq-eqb stop stop refl)
cut_len stop (x ∷ xs) rest h =
    let more : prefix_len (λ b. not (nat_eq b stop)) (xs ++ stop ∷ rest) ≡ length xs = cut_len stop xs rest h.1 in
    ap (λ (t : Bool). cond t (1 + prefix_len (λ b. not (nat_eq b stop)) (xs ++ stop ∷ rest)) 0) (other_byte stop x h.0)
    ∙ omega (arith, more)

others : (stop : ℕ) (xs : List ℕ) → IsPlainBut stop xs → AllByRecursion (λ b. b ≢ stop) xs
others stop [] h = tt
others stop (x ∷ xs) h = (h.0.1, others stop xs h.1)

no_return : (xs : List ℕ) → AllByRecursion IsPlain xs → AllByRecursion (λ b. b ≢ 13) xs
no_return [] h = tt
no_return (x ∷ xs) h = (h.0.1, no_return xs h.1)

-- ---- bytes of the spelling

abbrev version : List ℕ
version = codes " HTTP/1.1"

differs : (a b : ℕ) → nat_eq a b ≡ false → a ≢ b
differs a b off e = let on = eq-eqb a b e in absurd cc

byte_plain : (b : ℕ) → nat_eq b 10 ≡ false → nat_eq b 13 ≡ false → IsPlain b
byte_plain b feed return = (differs b 10 feed, differs b 13 return)

colon_plain : IsPlain 58
colon_plain = byte_plain 58 refl refl

space_plain : IsPlain 32
space_plain = byte_plain 32 refl refl

version_plain : AllByRecursion IsPlain version
version_plain =
    (space_plain, (byte_plain 72 refl refl, (byte_plain 84 refl refl, (byte_plain 84 refl refl, (byte_plain 80 refl refl, (byte_plain 47 refl refl, (byte_plain 49 refl refl, (byte_plain 46 refl refl, (byte_plain 49 refl refl, tt)))))))))

-- ---- lines

line_read : (line rest : List ℕ) → AllByRecursion IsPlain line → line_at ((line ++ line_end) ++ rest) ≡ Some (line, rest)
line_read line rest plain =
    let text : (line ++ line_end) ++ rest ≡ line ++ 13 ∷ 10 ∷ rest = append_assoc line line_end rest in
    let len : prefix_len is_line_byte (line ++ 13 ∷ 10 ∷ rest) ≡ length line = cut_len 13 line (10 ∷ rest) (no_return line plain) in
    ap line_at text
    ∙ ap (λ (n : ℕ). ended_line (take n (line ++ 13 ∷ 10 ∷ rest)) (drop n (line ++ 13 ∷ 10 ∷ rest))) len
    ∙ ap (λ (t : List ℕ). ended_line t (drop (length line) (line ++ 13 ∷ 10 ∷ rest))) (take_at line (13 ∷ 10 ∷ rest) (length line) refl)
    ∙ ap (ended_line line) (drop_at line (13 ∷ 10 ∷ rest) (length line) refl)

target_read : (method target : List ℕ) → IsPlainBut 32 target → target_at method (32 ∷ (target ++ version)) ≡ Some (method, target)
target_read method target plain =
    let bytes : List ℕ = target ++ version in
    let len : prefix_len is_word_byte bytes ≡ length target = cut_len 32 target (codes "HTTP/1.1") (others 32 target plain) in
    let front : take (prefix_len is_word_byte bytes) bytes ≡ target = ap (λ (n : ℕ). take n bytes) len ∙ take_at target version (length target) refl in
    let behind : drop (prefix_len is_word_byte bytes) bytes ≡ version = ap (λ (n : ℕ). drop n bytes) len ∙ drop_at target version (length target) refl in
    ap (λ (v : List ℕ). cond (bytes_eq v version) (Some (method, take (prefix_len is_word_byte bytes) bytes)) None) behind
    ∙ ap (λ (t : List ℕ). Some (method, t)) front

call_read : (method target : List ℕ) → IsPlainBut 32 method → IsPlainBut 32 target → request_line (method ++ 32 ∷ (target ++ version)) ≡ Some (method, target)
call_read method target plain after =
    let line : List ℕ = method ++ 32 ∷ (target ++ version) in
    let len : prefix_len is_word_byte line ≡ length method = cut_len 32 method (target ++ version) (others 32 method plain) in
    ap (λ (n : ℕ). target_at (take n line) (drop n line)) len
    ∙ ap (λ (m : List ℕ). target_at m (drop (length method) line)) (take_at method (32 ∷ (target ++ version)) (length method) refl)
    ∙ ap (target_at method) (drop_at method (32 ∷ (target ++ version)) (length method) refl)
    ∙ target_read method target after

-- ---- fields

-- a field without the end of its line
abbrev pub field_line : Field → List ℕ
field_line field = (field.0 ++ codes ": ") ++ field.1

field_read : (field : Field) → IsPlainField field → field_of (field_line field) ≡ Some field
field_read field plain =
    let behind : List ℕ = 58 ∷ 32 ∷ field.1 in
    let text : field_line field ≡ field.0 ++ behind = append_assoc field.0 (codes ": ") field.1 in
    let len : prefix_len is_name_byte (field.0 ++ behind) ≡ length field.0 = cut_len 58 field.0 (32 ∷ field.1) (others 58 field.0 plain.name) in
    ap field_of text
    ∙ ap (λ (n : ℕ). value_behind (take n (field.0 ++ behind)) (drop n (field.0 ++ behind))) len
    ∙ ap (λ (m : List ℕ). value_behind m (drop (length field.0) (field.0 ++ behind))) (take_at field.0 behind (length field.0) refl)
    ∙ ap (value_behind field.0) (drop_at field.0 behind (length field.0) refl)

pub field_plain : (field : Field) → IsPlainField field → AllByRecursion IsPlain (field_line field)
field_plain field plain =
    all_both (field.0 ++ codes ": ") field.1 (all_both field.0 (codes ": ") (plain_of 58 field.0 plain.name) (colon_plain, (space_plain, tt))) plain.value

pub field_some : (field : Field) → 0 < length (field_line field)
field_some field = omega (arith, length-append (field.0 ++ codes ": ") field.1, length-append field.0 (codes ": "))

full : (n : ℕ) → 0 < n → nat_eq n 0 ≡ false
full n some = ne_eqb n 0 (λ (e : n ≡ 0). omega (arith, e, some))

fields_read : (lines : ℕ) (fields : List Field) → length fields < lines → AllByRecursion IsPlainField fields → fields_within lines (fields_text fields ++ line_end) ≡ Some fields
fields_read zero fields less plain = absurd (omega (arith, less))
fields_read (suc lines) [] less plain = refl
fields_read (suc lines) (field ∷ fields) less plain =
    let line : List ℕ = field_line field in
    let rest : List ℕ = fields_text fields ++ line_end in
    let text : fields_text (field ∷ fields) ++ line_end ≡ (line ++ line_end) ++ rest = append_assoc (field_text field) (fields_text fields) line_end in
    let found : line_at (fields_text (field ∷ fields) ++ line_end) ≡ Some (line, rest) = ap line_at text ∙ line_read line rest (field_plain field plain.0) in
    ap (fields_from (fields_within lines)) found
    ∙ full_line (fields_within lines) line rest (full (length line) (field_some field))
    ∙ ap (more_fields (fields_within lines rest)) (field_read field plain.0)
    ∙ ap (λ (r : Option (List Field)). in_front field r) (fields_read lines fields (omega (arith, less)) plain.1)

few : (fields : List Field) → length fields ≤ length (fields_text fields)
few [] = omega arith
few (field ∷ fields) =
    omega (arith, length-append (field_text field) (fields_text fields), length-append (field_line field) line_end, field_some field, few fields)

-- ---- the head

abbrev pub call_line : RequestHead → List ℕ
call_line head = head.method ++ 32 ∷ (head.target ++ version)

-- a head as its lines
pub in_lines : (head : RequestHead) → spelling head ≡ (call_line head ++ line_end) ++ (fields_text head.fields ++ line_end)
in_lines head =
    let first : (head.method ++ 32 ∷ head.target) ++ codes " HTTP/1.1\r\n" ≡ call_line head ++ line_end =
    append_assoc head.method (32 ∷ head.target) (codes " HTTP/1.1\r\n")
    ∙ ap (λ (t : List ℕ). head.method ++ 32 ∷ t) (sym (append_assoc head.target version line_end))
    ∙ sym (append_assoc head.method (32 ∷ (head.target ++ version)) line_end) in
    ap (λ (t : List ℕ). (t ++ fields_text head.fields) ++ line_end) first
    ∙ append_assoc (call_line head ++ line_end) (fields_text head.fields) line_end

pub call_plain : (head : RequestHead) → IsPlainHead head → AllByRecursion IsPlain (call_line head)
call_plain head plain =
    all_both head.method (32 ∷ (head.target ++ version)) (plain_of 32 head.method plain.method)
    (space_plain, all_both head.target version (plain_of 32 head.target plain.target) version_plain)

pub head_read : (head : RequestHead) → IsPlainHead head → head_of (spelling head) ≡ Some head
head_read head plain =
    let rest : List ℕ = fields_text head.fields ++ line_end in
    let enough : length head.fields < length rest = omega (arith, few head.fields, length-append (fields_text head.fields) line_end) in
    ap head_of (in_lines head)
    ∙ ap head_from (line_read (call_line head) rest (call_plain head plain))
    ∙ ap (with_line rest) (call_read head.method head.target plain.method plain.target)
    ∙ ap (with_fields (head.method, head.target)) (fields_read (length rest) head.fields enough plain.fields)
