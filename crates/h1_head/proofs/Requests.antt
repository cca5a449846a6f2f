-- The heads of requests are lawful.
use Rattle.std.proofs.Common.{◌≡◌, ℕ, ◌+◌, ◌<◌, ◌≤◌, true, false, Bool, List, [], ◌∷◌, ◌++◌, length, refl, sym, ap, ◌∙◌, subst, arith, length-append}
use Rattle.std.specs.Prelude.{cond, not, codes, Some, None}
use Rattle.std.specs.Str.{bytes_eq}
use Rattle.std.specs.List.{flat_map}
use Rattle.std.proofs.lemmas.List.{append-nil}
use Rattle.httparse.specs.Grammar.{print_end, print_blank, print_version, print_field, print_section, RequestHead, print_request, IsRequestHead, ReadsRequest, is_uri_byte, is_token_byte}
use Rattle.httparse.proofs.GrammarLemmas.{print_request-append, ReadsRequest-append, request_unique}
use Rattle.http_model.specs.declared.Limits.{Limits}
use Rattle.h1_head.specs.declared.answer.HeadWhy.TheVariants as why
use Rattle.h1_head.specs.Kind.{request_heads, parts_of}
use Rattle.h1_head.specs.Rows.{Parts, has_long_name, host_is_one, framing_is_bad, coding_is_unknown, request_line, refusal_of}
use Rattle.h1_head.specs.Stream.{behind}
use Rattle.h1_head.specs.Feeds.{feeds}
use Rattle.h1_head.proofs.Heads.{feeds-append, feeds-cons, no_feeds, token_feeds, feeds-print_end, feeds-print_version, feeds-fields, tail_ends, feeds-before, front_in, no_blank}
use Rattle.h1_head.proofs.Lawful.{IsLawful, row_or_none, row_or_kept}
use Rattle.h1_head.proofs.Rowed.{decides_row}

feeds_of_parts : (a b c d e f g : List ℕ) → feeds (a ++ (b ++ 32 ∷ (c ++ 32 ∷ (d ++ (e ++ ((f ++ g) ++ []))))))
    ≡ feeds a + (feeds b + (feeds c + (feeds d + (feeds e + (feeds f + feeds g)))))
feeds_of_parts a b c d e f g =
    let gs : feeds ((f ++ g) ++ []) ≡ feeds f + feeds g = ap feeds (append-nil (f ++ g)) ∙ feeds-append f g in
    let es = feeds-append e ((f ++ g) ++ []) in
    let ds = feeds-append d (e ++ ((f ++ g) ++ [])) in
    let c2 = feeds-cons 32 (d ++ (e ++ ((f ++ g) ++ []))) refl in
    let cs = feeds-append c (32 ∷ (d ++ (e ++ ((f ++ g) ++ [])))) in
    let b2 = feeds-cons 32 (c ++ 32 ∷ (d ++ (e ++ ((f ++ g) ++ [])))) refl in
    let bs = feeds-append b (32 ∷ (c ++ 32 ∷ (d ++ (e ++ ((f ++ g) ++ []))))) in
    let as' = feeds-append a (b ++ 32 ∷ (c ++ 32 ∷ (d ++ (e ++ ((f ++ g) ++ []))))) in
    omega arith

-- a head with no empty line in front has two lines beside its fields
pub feeds-print_request : (h : RequestHead) → IsRequestHead h → h.blank ≡ [] → feeds (print_request h) ≡ 2 + length h.fields
feeds-print_request h is unled =
    let whole = ap feeds (sym (append-nil (print_request h)) ∙ print_request-append h []) in
    let blank : feeds (print_blank h.blank) ≡ 0 = ap (λ ends. feeds (print_blank ends)) unled in
    let method : feeds h.method ≡ 0 = no_feeds is_token_byte token_feeds h.method is.method.1 in
    let target : feeds h.target ≡ 0 = no_feeds is_uri_byte refl h.target is.target.1 in
    let version : feeds (print_version h.minor) ≡ 0 = feeds-print_version h.minor is.minor in
    let line : feeds (print_end h.line_end) ≡ 1 = feeds-print_end h.line_end in
    let fields : feeds (flat_map print_field h.fields) ≡ length h.fields = feeds-fields h.fields is.fields in
    let last : feeds (print_end h.last) ≡ 1 = feeds-print_end h.last in
    let sum = feeds_of_parts (print_blank h.blank) h.method h.target (print_version h.minor) (print_end h.line_end) (flat_map print_field h.fields) (print_end h.last) in
    whole ∙ sum ∙ omega arith

-- a head ends in a line feed
head_ends : (h : RequestHead) → (front : List ℕ) × (print_request h ≡ front ++ 10 ∷ [])
unfolding print_request
head_ends h = tail_ends _ (flat_map print_field h.fields) h.last

-- behind the empty lines a head has none in front
pub unled : (text : List ℕ) (h : RequestHead) (rest : List ℕ) → ReadsRequest text h rest → behind text ≡ text → h.blank ≡ []
unled text h rest reads e = no_blank text h.blank _ (reads.1 ∙ print_request-append h rest) e

spaces : (a b c d : List ℕ) → 2 ≤ length (a ++ (b ++ 32 ∷ (c ++ 32 ∷ d)))
spaces a b c d = omega (arith, length-append a (b ++ 32 ∷ (c ++ 32 ∷ d)), length-append b (32 ∷ (c ++ 32 ∷ d)), length-append c (32 ∷ d))

-- a head has its two spaces
pub at_least_two : (h : RequestHead) → 2 ≤ length (print_request h)
at_least_two h =
    let P : List ℕ → Type 0 = λ bytes. 2 ≤ length bytes in
    subst P (sym (print_request-append h []) ∙ append-nil (print_request h)) (spaces (print_blank h.blank) h.method h.target (print_version h.minor ++ (print_end h.line_end ++ (print_section h.fields h.last ++ []))))

least : (text : List ℕ) (h : RequestHead) (rest : List ℕ) → ReadsRequest text h rest → 2 ≤ length text
least text h rest reads =
    let size : length text ≡ length (print_request h) + length rest = ap length reads.1 ∙ length-append (print_request h) rest in
    let long : 2 ≤ length (print_request h) = at_least_two h in
    omega arith

shorter : (text : List ℕ) (h : RequestHead) (rest : List ℕ) → ReadsRequest text h rest → length rest < length text
shorter text h rest reads =
    let size : length text ≡ length (print_request h) + length rest = ap length reads.1 ∙ length-append (print_request h) rest in
    let long : 2 ≤ length (print_request h) = at_least_two h in
    omega arith

lines : (text more : List ℕ) (h : RequestHead) (rest : List ℕ) → ReadsRequest (text ++ more) h rest → h.blank ≡ [] → length text < length (print_request h) → feeds text < 2 + length h.fields
lines text more h rest reads none short =
    let e = head_ends h in
    let P : ℕ → Type 0 = λ n. feeds text < n in
    subst P (feeds-print_request h reads.0 none) (feeds-before text more (print_request h) rest e.0 reads.1 e.1 short)

full : (text : List ℕ) (h : RequestHead) (rest : List ℕ) → ReadsRequest text h rest → h.blank ≡ [] → 2 + length h.fields ≤ feeds text
full text h rest reads none =
    let all : feeds text ≡ feeds (print_request h) + feeds rest = ap feeds reads.1 ∙ feeds-append (print_request h) rest in
    let whole : feeds (print_request h) ≡ 2 + length h.fields = feeds-print_request h reads.0 none in
    omega arith

chain : (a b c d e : Bool) → row_or_none (cond a (Some why.Name) (cond b (Some why.Host) (cond c (Some why.Method) (cond d (Some why.Framing) (cond e (Some why.Coding) None))))) ≡ true
chain true b c d e = refl
chain false true c d e = refl
chain false false true d e = refl
chain false false false true e = refl
chain false false false false true = refl
chain false false false false false = refl

rows : (limits : Limits) (h : RequestHead) → row_or_kept (request_heads.decides limits h) ≡ true
rows limits h =
    let p : Parts = parts_of h in
    decides_row (refusal_of p) _ limits (request_line p) p.fields
    (chain (has_long_name p.fields) (not (host_is_one p)) (bytes_eq p.method (codes "CONNECT")) (framing_is_bad p.minor p.fields) (coding_is_unknown p.fields))

pub requests_are_lawful : IsLawful request_heads
requests_are_lawful = record {
  parses = λ text h rest read. read;
  reads = λ text other h rest left parses read. parses;
  unique = request_unique;
  append = ReadsRequest-append;
  within = λ text more h rest reads long. (reads.0, front_in text more (print_request h) rest reads.1 long);
  lines = lines;
  least = least;
  shorter = shorter;
  full = full;
  unled = unled;
  codes_same = refl;
  rows = rows;
}
