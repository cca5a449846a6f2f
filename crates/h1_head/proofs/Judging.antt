-- What the rows and the weight decide.
use Rattle.std.proofs.Common.{◌≡◌, ℕ, ◌-◌, ◌<◌, ◌≤◌, Bool, true, false, cond, List, [], ◌∷◌, length, sym, ◌∙◌, ap, subst}
use Rattle.std.specs.Prelude.{All, codes, map, nat_lt, Option, Some, None, Ok, Err}
use Rattle.std.proofs.lemmas.Bool.{or_parts, le-ltb, lt-ltb}
use Rattle.std.proofs.lemmas.List.Elements.{All-nil, All-cons, All-head, All-tail}
use Rattle.httparse.specs.declared.spans.HeaderSpan.{HeaderSpan}
use Rattle.httparse.specs.Spans.{header_bytes, span_bytes}
use Rattle.htx_model.specs.Block.{Block}
use Rattle.htx_model.specs.Blocks.{load}
use Rattle.http_model.specs.declared.Framing.{Framing}
use Rattle.http_model.specs.declared.Limits.{Limits}
use Rattle.http_model.specs.Head.{Field, StartLine, head_blocks}
use Rattle.http_model.specs.Fields.{has_field}
use Rattle.http_model.specs.Sizes.{most_name}
use Rattle.h1_head.specs.declared.answer.HeadWhy.{HeadWhy}
use Rattle.h1_head.specs.declared.answer.HeadWhy.TheVariants as why
use Rattle.h1_head.specs.declared.survey.Survey.{Survey}
use Rattle.h1_head.specs.Answers.{IsKept}
use Rattle.h1_head.specs.Rows.{Parts, ResponseParts, has_long_name, fits_target, kept_head, kept_reading, refusal_of, response_refusal_of, is_over, unless_refused, decided, framing_told, framing_of}
use Rattle.h1_head.specs.Spans.{IsNamed, HasGoodName}
use Rattle.h1_head.specs.Survey.{survey_of, declared_by, row_of, response_row_of}
use Rattle.h1_head.proofs.Soundness.{at_most}
use Rattle.h1_head.proofs.Surveyed.{Tells, tells, surveyed_row, surveyed_response_row}

abbrev pub weight_of : StartLine → List Field → ℕ
weight_of line fields = load (head_blocks (kept_head line fields))

pub decided_row : (limits : Limits) (refusal : Option HeadWhy) (framed : Framing) (line : StartLine) (fields : List Field) (w : HeadWhy) → refusal ≡ Some w → decided refusal framed limits line fields ≡ Err w
unfolding decided
decided_row limits refusal framed line fields w e = ap (λ r. unless_refused r (cond (is_over limits line fields) (Err why.Receive) (Ok (kept_reading line framed fields)))) e

passed : (limits : Limits) (refusal : Option HeadWhy) (framed : Framing) (line : StartLine) (fields : List Field) (heavy : Bool) → refusal ≡ None → is_over limits line fields ≡ heavy
    → decided refusal framed limits line fields ≡ cond heavy (Err why.Receive) (Ok (kept_reading line framed fields))
unfolding decided
passed limits refusal framed line fields heavy e weighs =
    ap (λ r. unless_refused r (cond (is_over limits line fields) (Err why.Receive) (Ok (kept_reading line framed fields)))) e
    ∙ ap (λ t. cond t (Err why.Receive) (Ok (kept_reading line framed fields))) weighs

pub decided_heavy : (limits : Limits) (refusal : Option HeadWhy) (framed : Framing) (line : StartLine) (fields : List Field) → refusal ≡ None → limits.bufsize - limits.maxrewrite < weight_of line fields
    → decided refusal framed limits line fields ≡ Err why.Receive
decided_heavy limits refusal framed line fields e heavy = passed limits refusal framed line fields true e (lt-ltb (limits.bufsize - limits.maxrewrite) (weight_of line fields) heavy)

decided_light : (limits : Limits) (refusal : Option HeadWhy) (framed : Framing) (line : StartLine) (fields : List Field) → refusal ≡ None → weight_of line fields ≤ limits.bufsize - limits.maxrewrite
    → decided refusal framed limits line fields ≡ Ok (kept_reading line framed fields)
decided_light limits refusal framed line fields e light = passed limits refusal framed line fields false e (le-ltb (limits.bufsize - limits.maxrewrite) (weight_of line fields) light)

-- ---- of a survey

pub row_is : (p : Parts) (s : Survey) (method : List ℕ) (fits : Bool) → s ≡ survey_of p.fields → method ≡ p.method → fits ≡ fits_target p → row_of method p.minor fits s ≡ refusal_of p
row_is p s method fits is same fit =
    ap (λ m. row_of m p.minor fits s) same ∙ ap (λ b. row_of p.method p.minor b s) fit ∙ ap (λ t. row_of p.method p.minor (fits_target p) t) is ∙ surveyed_row p

pub response_row_is : (p : ResponseParts) (s : Survey) → s ≡ survey_of p.fields → response_row_of p.status p.minor s ≡ response_refusal_of p
response_row_is p s is = ap (λ t. response_row_of p.status p.minor t) is ∙ surveyed_response_row p

-- how the survey frames a body
pub framing_is : (untold : Framing) (fields : List Field) (s : Survey) → s ≡ survey_of fields → framing_told untold s.has_coding (declared_by s.lengths) ≡ framing_of untold fields
framing_is untold fields s is =
    let t : Tells s fields = subst (λ (v : Survey). Tells v fields) (sym is) (tells fields) in
    ap (λ b. framing_told untold b (declared_by s.lengths)) t.coded ∙ ap (framing_told untold (has_field (codes "transfer-encoding") fields)) t.declared

received_is : (line : StartLine) (framed : Framing) (fields : List Field) (s : Survey) (framing : Framing) (declared : Option ℕ) (close : Bool) → Tells s fields
    → framing ≡ framed → declared ≡ declared_by s.lengths → close ≡ s.close
    → kept_reading line framed fields ≡ record { head = kept_head line fields; framing = framing; declared = declared; close = close }
received_is line framed fields s framing declared close t f d c = λ i. record {
  head = kept_head line fields;
  framing = (sym f) i;
  declared = (sym (d ∙ t.declared)) i;
  close = (sym (c ∙ t.close)) i;
}

pub kept_is : (limits : Limits) (refusal : Option HeadWhy) (framed : Framing) (line : StartLine) (fields : List Field) (s : Survey) (blocks : List Block) (framing : Framing) (declared : Option ℕ) (close : Bool)
    → s ≡ survey_of fields → refusal ≡ None → blocks ≡ head_blocks (kept_head line fields) → load blocks ≤ limits.bufsize - limits.maxrewrite
    → framing ≡ framed → declared ≡ declared_by s.lengths → close ≡ s.close
    → IsKept (decided refusal framed limits line fields) blocks framing declared close
kept_is limits refusal framed line fields s blocks framing declared close is none are light f d c =
    let t : Tells s fields = subst (λ (v : Survey). Tells v fields) (sym is) (tells fields) in
    let P : ℕ → Type 0 = λ n. n ≤ limits.bufsize - limits.maxrewrite in
    (kept_head line fields, are, decided_light limits refusal framed line fields none (subst P (ap load are) light) ∙ ap Ok (received_is line framed fields s framing declared close t f d c))

pub good_names : (text : List ℕ) (spans : List HeaderSpan) → All IsNamed (map (header_bytes text) spans) → has_long_name (map (header_bytes text) spans) ≡ false → All (HasGoodName text) spans
good_names text [] named e = All-nil (HasGoodName text)
good_names text (f ∷ fs) named e =
    let parts = or_parts (nat_lt most_name (length (span_bytes text f.name))) (has_long_name (map (header_bytes text) fs)) e in
    All-cons (HasGoodName text) f fs
    (record { named = All-head IsNamed (header_bytes text f) (map (header_bytes text) fs) named; short = at_most most_name (length (span_bytes text f.name)) parts.0 })
    (good_names text fs (All-tail IsNamed (header_bytes text f) (map (header_bytes text) fs) named) parts.1)
