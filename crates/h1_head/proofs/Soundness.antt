-- What the rows leave of a head, and what holds of each head that is received.
use Rattle.std.proofs.Common.{◌≡◌, ℕ, ◌-◌, ◌<◌, ◌≤◌, Bool, true, false, cond, List, [], ◌∷◌, length, get_or, refl, ◌∙◌, ap, subst, arith, inl, inr}
use Rattle.std.specs.Prelude.{All, filter, map, nat_lt, Option, Some, None, Ok, Err}
use Rattle.std.specs.Str.{str_to_ascii_lowercase}
use Rattle.std.specs.Char.{to_ascii_lowercase}
use Rattle.std.proofs.lemmas.Bool.{or_parts, cases_lt, lt-ltb, both_ways}
use Rattle.std.proofs.lemmas.List.{length-map}
use Rattle.std.proofs.lemmas.List.Elements.{All-nil, All-cons, All-map, All-filter}
use Rattle.std.proofs.lemmas.List.Sums.{length-filter, count_by-le-length}
use Rattle.std.proofs.lemmas.Str.Ascii.{lowercase-lowercase}
use Rattle.httparse.specs.Grammar as grammar
use Rattle.httparse.specs.Grammar.{RequestHead, IsField, is_value_byte}
use Rattle.httparse.specs.Spans.{name_and_value}
use Rattle.htx_model.specs.Blocks.{load}
use Rattle.http_model.specs.declared.Limits.{Limits}
use Rattle.http_model.specs.Head.{Field, StartLine, head_blocks}
use Rattle.http_model.specs.Reading.{Received, Begins}
use Rattle.http_model.specs.Sizes.{most_name}
use Rattle.h1_head.specs.Numbers.{most_fields}
use Rattle.h1_head.specs.declared.answer.HeadWhy.{HeadWhy}
use Rattle.h1_head.specs.declared.answer.HeadWhy.TheVariants as why
use Rattle.h1_head.specs.Received.{IsReceivedField, IsReceived}
use Rattle.h1_head.specs.declared.answer.Side.{Side}
use Rattle.h1_head.specs.declared.answer.Side.TheVariants as side
use Rattle.h1_head.specs.Kind.{HeadKind, request_heads, response_heads, parts_of, response_parts_of}
use Rattle.h1_head.specs.Sides.{kind_of}
use Rattle.h1_head.specs.Stream.{BeginsWith, HeadOf}
use Rattle.http_model.specs.declared.Framing.{Framing}
use Rattle.httparse.specs.Grammar.{ResponseHead, status_code, reason_phrase}
use Rattle.h1_head.specs.Rows.{Parts, has_long_name, is_kept, folded, kept_head, kept_reading, refusal_of, request_line, ResponseParts, response_refusal_of, status_line, is_over, unless_refused, decided}
use Rattle.httparse.proofs.TrimLemmas.{AllPass-trim_ows}
use Rattle.h1_head.proofs.Trimmed.{trimmed_twice}

-- ---- a decision that keeps

pub record Kept (limits : Limits) (refusal : Option HeadWhy) (framed : Framing) (line : StartLine) (fields : List Field) (got : Received) : Type 0 where
  pub unrefused : refusal ≡ None
  pub light : is_over limits line fields ≡ false
  pub is : kept_reading line framed fields ≡ got

keeping : (r : Option HeadWhy) (heavy : Bool) (k got : Received) → unless_refused r (cond heavy (Err why.Receive) (Ok k)) ≡ Ok got
    → (r ≡ None) × (heavy ≡ false) × (k ≡ got)
keeping None false k got e = (refl, refl, cc)
keeping None true k got e = cc
keeping (Some w) heavy k got e = cc

pub kept : (limits : Limits) (refusal : Option HeadWhy) (framed : Framing) (line : StartLine) (fields : List Field) (got : Received) → decided refusal framed limits line fields ≡ Ok got → Kept limits refusal framed line fields got
unfolding decided
kept limits refusal framed line fields got e =
    let parts = keeping refusal (is_over limits line fields) (kept_reading line framed fields) got e in
    record { unrefused = parts.0; light = parts.1; is = parts.2 }

-- ---- names

row_passed : (a : Bool) (w : HeadWhy) (rest : Option HeadWhy) → cond a (Some w) rest ≡ None → a ≡ false
row_passed true w rest e = cc
row_passed false w rest e = refl

pub names_passed : (p : Parts) → refusal_of p ≡ None → has_long_name p.fields ≡ false
names_passed p e = row_passed (has_long_name p.fields) why.Name _ e

pub response_names_passed : (p : ResponseParts) → response_refusal_of p ≡ None → has_long_name p.fields ≡ false
response_names_passed p e = row_passed (has_long_name p.fields) why.Name _ e

pub at_most : (n m : ℕ) → nat_lt n m ≡ false → m ≤ n
at_most n m e = elim (cases_lt n m) [ inl lt ↦ absurd (both_ways (nat_lt n m) e (lt-ltb n m lt)) | inr le ↦ le ]

lower_twice : (bs : List ℕ) → str_to_ascii_lowercase (str_to_ascii_lowercase bs) ≡ str_to_ascii_lowercase bs
lower_twice [] = refl
lower_twice (b ∷ bs) = ap (λ c. c ∷ str_to_ascii_lowercase (str_to_ascii_lowercase bs)) (lowercase-lowercase b) ∙ ap (λ cs. to_ascii_lowercase b ∷ cs) (lower_twice bs)

-- ---- fields

received_field : (g : grammar.Field) → IsField g → length g.name ≤ most_name → IsReceivedField (folded (name_and_value g))
received_field g is short =
    let size : length (str_to_ascii_lowercase g.name) ≡ length g.name = length-map g.name to_ascii_lowercase in
    let some : 0 < length g.name = is.name.0 in
    record {
      named = omega arith;
      short = omega arith;
      lower = lower_twice g.name;
      trim = trimmed_twice g.raw;
      clean = AllPass-trim_ows is_value_byte g.raw is.raw;
    }

-- the names of fields of a head, seen by their parts
short_again : (gs : List grammar.Field) → has_long_name (map name_and_value gs) ≡ false → All (λ g. length g.name ≤ most_name) gs
short_again [] e = All-nil (λ (g : grammar.Field). length g.name ≤ most_name)
short_again (g ∷ gs) e =
    let parts = or_parts (nat_lt most_name (length g.name)) (has_long_name (map name_and_value gs)) e in
    All-cons (λ g. length g.name ≤ most_name) g gs (at_most most_name (length g.name) parts.0) (short_again gs parts.1)

all_received : (gs : List grammar.Field) → All IsField gs → All (λ g. length g.name ≤ most_name) gs → All (λ g. IsReceivedField (folded (name_and_value g))) gs
all_received gs are short = λ k d lt. received_field (get_or gs k d) (are k d lt) (short k d lt)

-- ---- the head

light_load : (limits : Limits) (line : StartLine) (fields : List Field) → is_over limits line fields ≡ false → load (head_blocks (kept_head line fields)) ≤ limits.bufsize - limits.maxrewrite
light_load limits line fields e = at_most (limits.bufsize - limits.maxrewrite) (load (head_blocks (kept_head line fields))) e

received_head_is : (K : HeadKind) (limits : Limits) (line : StartLine) (gs : List grammar.Field) → K.IsLine line → All IsField gs → length gs ≤ most_fields
    → has_long_name (map name_and_value gs) ≡ false → is_over limits line (map name_and_value gs) ≡ false → IsReceived K limits (kept_head line (map name_and_value gs))
received_head_is K limits line gs is are few short light =
    let fields : List Field = map name_and_value gs in
    let all : All (λ f. IsReceivedField (folded f)) fields =
    All-map (λ f. IsReceivedField (folded f)) name_and_value gs (all_received gs are (short_again gs short)) in
    record {
      line = is;
      few = omega (arith, length-map (filter (is_kept fields) fields) folded, length-filter (is_kept fields) fields, count_by-le-length (is_kept fields) fields, length-map gs name_and_value);
      fields = All-map IsReceivedField folded (filter (is_kept fields) fields) (All-filter (is_kept fields) (λ f. IsReceivedField (folded f)) fields all);
      light = light_load limits line fields light;
    }

-- what a decision keeps is received
pub decided_received : (K : HeadKind) (limits : Limits) (refusal : Option HeadWhy) (framed : Framing) (line : StartLine) (gs : List grammar.Field) (got : Received) → K.IsLine line → All IsField gs → length gs ≤ most_fields
    → (refusal ≡ None → has_long_name (map name_and_value gs) ≡ false) → decided refusal framed limits line (map name_and_value gs) ≡ Ok got → IsReceived K limits got.head
decided_received K limits refusal framed line gs got is are few names e =
    let k = kept limits refusal framed line (map name_and_value gs) got e in
    subst (λ (r : Received). IsReceived K limits r.head) k.is (received_head_is K limits line gs is are few (names k.unrefused) k.light)

pub request_received : (limits : Limits) (bytes : List ℕ) (h : RequestHead) (rest : List ℕ) (got : Received) → BeginsWith request_heads limits bytes h rest
    → request_heads.decides limits h ≡ Ok got → IsReceived request_heads limits got.head
request_received limits bytes h rest got b e =
    let is = b.reads.0 in
    decided_received request_heads limits (refusal_of (parts_of h)) _ (request_line (parts_of h)) h.fields got
    (record { method = h.method; target = h.target; minor = h.minor; is = refl; token = is.method; some = is.target.0; visible = is.target.1; known = is.minor })
    is.fields b.few (names_passed (parts_of h)) e

pub response_received : (asked : Bool) (limits : Limits) (bytes : List ℕ) (h : ResponseHead) (rest : List ℕ) (got : Received) → BeginsWith (response_heads asked) limits bytes h rest
    → (response_heads asked).decides limits h ≡ Ok got → IsReceived (response_heads asked) limits got.head
response_received asked limits bytes h rest got b e =
    let is = b.reads.0.0 in
    decided_received (response_heads asked) limits (response_refusal_of (response_parts_of h)) _ (status_line (response_parts_of h)) h.fields got
    (record { minor = h.minor; status = status_code h; reason = reason_phrase h.reason; is = refl; known = is.minor; least = b.reads.1; clean = is.reason })
    is.fields b.few (response_names_passed (response_parts_of h)) e

pub each_received : (side : Side) (limits : Limits) (bytes : List ℕ) (h : (kind_of side).Tree) (rest : List ℕ) (got : Received) → BeginsWith (kind_of side) limits bytes h rest
    → (kind_of side).decides limits h ≡ Ok got → IsReceived (kind_of side) limits got.head
each_received side.Request limits bytes h rest got b e = request_received limits bytes h rest got b e
each_received (side.Response asked) limits bytes h rest got b e = response_received asked limits bytes h rest got b e

pub is_received : (side : Side) (limits : Limits) (stream : List ℕ) (got : Received) (rest : List ℕ) → HeadOf (kind_of side) limits stream (Begins got rest) → IsReceived (kind_of side) limits got.head
is_received side limits stream got rest r = each_received side limits _ r.0 rest got r.1 r.2
