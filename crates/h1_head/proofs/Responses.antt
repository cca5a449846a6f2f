-- The heads of responses are lawful.
use Rattle.std.proofs.Common.{◌≡◌, ℕ, ◌+◌, ◌<◌, ◌≤◌, true, false, Bool, List, [], ◌∷◌, ◌++◌, length, refl, sym, ap, ◌∙◌, subst, arith, length-append}
use Rattle.std.specs.Prelude.{cond, codes, Option, Some, None, ◌==◌}
use Rattle.std.specs.List.{flat_map}
use Rattle.std.proofs.lemmas.List.{append-nil}
use Rattle.httparse.specs.Grammar.{print_end, print_blank, print_version, print_field, print_reason, ResponseHead, print_response, IsResponseHead, ReadsResponse, status_code, is_value_byte, reason_phrase, AllPass}
use Rattle.std.specs.Char.{is_ascii_digit}
use Rattle.httparse.proofs.GrammarLemmas.{print_response-append, ReadsResponse-append, response_unique}
use Rattle.http_model.specs.declared.Limits.{Limits}
use Rattle.h1_head.specs.declared.answer.HeadWhy.TheVariants as why
use Rattle.h1_head.specs.Kind.{response_heads, response_parts_of}
use Rattle.h1_head.specs.Rows.{ResponseParts, has_long_name, framing_is_bad, coding_is_unknown, status_line, response_refusal_of}
use Rattle.h1_head.specs.Stream.{behind, HasNoHead}
use Rattle.h1_head.specs.Feeds.{feeds}
use Rattle.h1_head.proofs.Heads.{feeds-append, feeds-cons, no_feeds, feeds-print_end, feeds-print_version, feeds-fields, tail_ends, feeds-before, front_in, no_blank}
use Rattle.h1_head.proofs.Lawful.{IsLawful, row_or_none, row_or_kept}
use Rattle.h1_head.proofs.Rowed.{decides_row}

feeds_of_parts : (a d c r e f g : List ℕ) → feeds (a ++ (d ++ 32 ∷ (c ++ (r ++ (e ++ ((f ++ g) ++ []))))))
    ≡ feeds a + (feeds d + (feeds c + (feeds r + (feeds e + (feeds f + feeds g)))))
feeds_of_parts a d c r e f g =
    let gs : feeds ((f ++ g) ++ []) ≡ feeds f + feeds g = ap feeds (append-nil (f ++ g)) ∙ feeds-append f g in
    let es = feeds-append e ((f ++ g) ++ []) in
    let rs = feeds-append r (e ++ ((f ++ g) ++ [])) in
    let cs = feeds-append c (r ++ (e ++ ((f ++ g) ++ []))) in
    let d2 = feeds-cons 32 (c ++ (r ++ (e ++ ((f ++ g) ++ [])))) refl in
    let ds = feeds-append d (32 ∷ (c ++ (r ++ (e ++ ((f ++ g) ++ []))))) in
    let as' = feeds-append a (d ++ 32 ∷ (c ++ (r ++ (e ++ ((f ++ g) ++ []))))) in
    omega arith

feeds-reason : (reason : Option (List ℕ)) → AllPass is_value_byte (reason_phrase reason) → feeds (print_reason reason) ≡ 0
feeds-reason None pass = refl
feeds-reason (Some phrase) pass = feeds-cons 32 phrase refl ∙ no_feeds is_value_byte refl phrase pass

feeds-print_response : (h : ResponseHead) → IsResponseHead h → h.blank ≡ [] → feeds (print_response h) ≡ 2 + length h.fields
feeds-print_response h is unled =
    let whole = ap feeds (sym (append-nil (print_response h)) ∙ print_response-append h []) in
    let blank : feeds (print_blank h.blank) ≡ 0 = ap (λ ends. feeds (print_blank ends)) unled in
    let version : feeds (print_version h.minor) ≡ 0 = feeds-print_version h.minor is.minor in
    let digits : feeds h.digits ≡ 0 = no_feeds is_ascii_digit refl h.digits is.digits.1 in
    let reason : feeds (print_reason h.reason) ≡ 0 = feeds-reason h.reason is.reason in
    let line : feeds (print_end h.line_end) ≡ 1 = feeds-print_end h.line_end in
    let fields : feeds (flat_map print_field h.fields) ≡ length h.fields = feeds-fields h.fields is.fields in
    let last : feeds (print_end h.last) ≡ 1 = feeds-print_end h.last in
    let sum = feeds_of_parts (print_blank h.blank) (print_version h.minor) h.digits (print_reason h.reason) (print_end h.line_end) (flat_map print_field h.fields) (print_end h.last) in
    whole ∙ sum ∙ omega arith

head_ends : (h : ResponseHead) → (front : List ℕ) × (print_response h ≡ front ++ 10 ∷ [])
unfolding print_response
head_ends h = tail_ends _ (flat_map print_field h.fields) h.last

pub response_unled : (text : List ℕ) (h : ResponseHead) (rest : List ℕ) → ReadsResponse text h rest → behind text ≡ text → h.blank ≡ []
response_unled text h rest reads e = no_blank text h.blank _ (reads.1 ∙ print_response-append h rest) e

version_long : (minor : ℕ) → 2 ≤ length (print_version minor)
version_long minor = omega (arith, length-append (codes "HTTP/1.") ((48 + minor) ∷ []))

at_least : (a d c : List ℕ) → 2 ≤ length d → 2 ≤ length (a ++ (d ++ c))
at_least a d c long = omega (arith, length-append a (d ++ c), length-append d c)

least : (text : List ℕ) (h : ResponseHead) (rest : List ℕ) → ReadsResponse text h rest → 2 ≤ length text
least text h rest reads =
    let P : List ℕ → Type 0 = λ bytes. 2 ≤ length bytes in
    subst P (sym (reads.1 ∙ print_response-append h rest)) (at_least (print_blank h.blank) (print_version h.minor) _ (version_long h.minor))

shorter : (text : List ℕ) (h : ResponseHead) (rest : List ℕ) → ReadsResponse text h rest → length rest < length text
shorter text h rest reads =
    let P : List ℕ → Type 0 = λ bytes. 2 ≤ length bytes in
    let size : length text ≡ length (print_response h) + length rest = ap length reads.1 ∙ length-append (print_response h) rest in
    let long : 2 ≤ length (print_response h) =
    subst P (sym (print_response-append h []) ∙ append-nil (print_response h)) (at_least (print_blank h.blank) (print_version h.minor) _ (version_long h.minor))
    in
    omega arith

lines : (text more : List ℕ) (h : ResponseHead) (rest : List ℕ) → ReadsResponse (text ++ more) h rest → h.blank ≡ [] → length text < length (print_response h) → feeds text < 2 + length h.fields
lines text more h rest reads none short =
    let e = head_ends h in
    let P : ℕ → Type 0 = λ n. feeds text < n in
    subst P (feeds-print_response h reads.0 none) (feeds-before text more (print_response h) rest e.0 reads.1 e.1 short)

full : (text : List ℕ) (h : ResponseHead) (rest : List ℕ) → ReadsResponse text h rest → h.blank ≡ [] → 2 + length h.fields ≤ feeds text
full text h rest reads none =
    let all : feeds text ≡ feeds (print_response h) + feeds rest = ap feeds reads.1 ∙ feeds-append (print_response h) rest in
    let whole : feeds (print_response h) ≡ 2 + length h.fields = feeds-print_response h reads.0 none in
    omega arith

chain : (a b d e : Bool) → row_or_none (cond a (Some why.Name) (cond b (Some why.Method) (cond d (Some why.Framing) (cond e (Some why.Coding) None)))) ≡ true
chain true b d e = refl
chain false true d e = refl
chain false false true e = refl
chain false false false true = refl
chain false false false false = refl

rows : (asked : Bool) (limits : Limits) (h : ResponseHead) → row_or_kept ((response_heads asked).decides limits h) ≡ true
rows asked limits h =
    let p : ResponseParts = response_parts_of h in
    decides_row (response_refusal_of p) _ limits (status_line p) p.fields
    (chain (has_long_name p.fields) (p.status == 101) (framing_is_bad p.minor p.fields) (coding_is_unknown p.fields))

pub responses_are_lawful : (asked : Bool) → IsLawful (response_heads asked)
responses_are_lawful asked = record {
  parses = λ text h rest read. read.0;
  reads = λ text other h rest left parses read. (parses, read.1);
  unique = response_unique;
  append = ReadsResponse-append;
  lines = lines;
  least = least;
  within = λ text more h rest reads long. (reads.0, front_in text more (print_response h) rest reads.1 long);
  shorter = shorter;
  full = full;
  unled = response_unled;
  codes_same = refl;
  rows = rows asked;
}

-- a status below 100 is no head, whatever follows
pub low_status : (asked : Bool) (limits : Limits) (text more : List ℕ) (h : ResponseHead) (rest : List ℕ) → ReadsResponse text h rest → status_code h < 100 → HasNoHead (response_heads asked) limits (text ++ more)
low_status asked limits text more h rest reads low k q begins =
    let same = response_unique (text ++ more) h k (rest ++ more) q (ReadsResponse-append text h rest more reads) begins.reads.0 in
    let code : status_code h ≡ status_code k = ap status_code same.0 in
    let least : 100 ≤ status_code k = begins.reads.1 in
    omega arith
