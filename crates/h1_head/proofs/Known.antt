-- Whether a head within the limits begins a text is known.
use Rattle.std.proofs.Common.{◌≡◌, ℕ, ◌≤◌, ◌⊎◌, inl, inr, Bool, List, [], ◌∷◌, ◌++◌, refl, sym, ap, ◌∙◌, subst, arith}
use Rattle.std.specs.Prelude.{Option, ⊤}
use Rattle.std.proofs.lemmas.Bool.{cases_lt}
use Rattle.httparse.specs.Grammar.{LineEnd, Field, ResponseHead, status_code, print_version}
use Rattle.httparse.specs.Pieces.{Piece, Then, Stops, is_newline, Bytes, Newline, Blank, Method, Target, Version, Code, Reason, Section}
use Rattle.httparse.proofs.PieceLemmas.{Then_deterministic, Bytes_deterministic, Method_deterministic, Target_deterministic, Version_deterministic, Newline_deterministic, Code_deterministic, Reason_deterministic, Stops_token}
use Rattle.httparse.proofs.GrammarLemmas.{request_pieces, request_from_pieces, request_head, response_pieces, response_from_pieces, response_head}
use Rattle.http_model.specs.declared.Limits.{Limits}
use Rattle.h1_head.specs.declared.answer.Side.{Side}
use Rattle.h1_head.specs.declared.answer.Side.TheVariants as side
use Rattle.h1_head.specs.Numbers.{most_fields}
use Rattle.h1_head.specs.Kind.{HeadKind}
use Rattle.h1_head.specs.Sides.{kind_of}
use Rattle.h1_head.specs.Stream.{BeginsWith, IsKnown}
use Rattle.h1_head.proofs.Lawful.{IsLawful}
use Rattle.h1_head.proofs.EachSide.{each_is_lawful}
use Rattle.h1_head.proofs.Settled.{Settled, then_settled, newline, bytes, version, method, target, code, reason, section}

-- ---- what parses without empty lines in front

-- the grammar parses a front of the text, with no empty lines in front
record Unled (K : HeadKind) (text : List ℕ) : Type 0 where
  tree : K.Tree
  rest : List ℕ
  parses : K.Parses text tree rest
  unled : K.blank tree ≡ []

abbrev IsParsed : HeadKind → List ℕ → Type 0
IsParsed K text = Unled K text ⊎ (¬ (Unled K text))

abbrev RequestLine : Piece ((List ℕ × (List ℕ × (ℕ × LineEnd))) × (List Field × LineEnd))
RequestLine = Then (Then Method (Then Target (Then Version Newline))) Section

request_line : (text : List ℕ) → Settled RequestLine text
request_line =
    then_settled (Then Method (Then Target (Then Version Newline))) Section
    (Then_deterministic Method_deterministic (Then_deterministic Target_deterministic (Then_deterministic Version_deterministic Newline_deterministic)))
    (then_settled Method (Then Target (Then Version Newline)) Method_deterministic method
    (then_settled Target (Then Version Newline) Target_deterministic target (then_settled Version Newline Version_deterministic version newline)))
    section

-- without empty lines the start line begins the text
at_front : (text middle : List ℕ) (blank : List LineEnd) → Blank blank text middle → blank ≡ [] → text ≡ middle
at_front text middle blank b none = (subst (λ (ends : List LineEnd). Blank ends text middle) none b).0

request_parsed : (text : List ℕ) → IsParsed (kind_of side.Request) text
request_parsed text = by (request_line text)
  where
    by : Settled RequestLine text → IsParsed (kind_of side.Request) text
    by (inl t) =
        let line = t.2.1 in
        let stops = Stops_token t.0.0.0 _ line.1.0 line.1.1 in
        inl (record {
          tree = request_head (([], t.0.0), t.0.1);
          rest = t.1;
          parses = request_from_pieces text (([], t.0.0), t.0.1) t.1 (t.2.0, (text, (refl, subst (λ (xs : List ℕ). Stops is_newline xs) (sym line.1.2) stops), line), t.2.2);
          unled = refl;
        })
    by (inr none) = inr (λ u.
        let x = request_pieces text u.tree u.rest u.parses in
        let e = at_front text x.1.0 u.tree.blank x.1.1 u.unled in
        none (
          ((u.tree.method, (u.tree.target, (u.tree.minor, u.tree.line_end))), (u.tree.fields, u.tree.last)),
          u.rest,
          (x.0, subst (λ (xs : List ℕ). Then Method (Then Target (Then Version Newline)) (u.tree.method, (u.tree.target, (u.tree.minor, u.tree.line_end))) xs x.0) (sym e) x.1.2, x.2),
        ))

abbrev StatusLine : Piece ((ℕ × (⊤ × ((ℕ × (ℕ × ℕ)) × (Option (List ℕ) × LineEnd)))) × (List Field × LineEnd))
StatusLine = Then (Then Version (Then (Bytes (32 ∷ [])) (Then Code Reason))) Section

status_line : (text : List ℕ) → Settled StatusLine text
status_line =
    then_settled (Then Version (Then (Bytes (32 ∷ [])) (Then Code Reason))) Section
    (Then_deterministic Version_deterministic (Then_deterministic (Bytes_deterministic (32 ∷ [])) (Then_deterministic Code_deterministic Reason_deterministic)))
    (then_settled Version (Then (Bytes (32 ∷ [])) (Then Code Reason)) Version_deterministic version
    (then_settled (Bytes (32 ∷ [])) (Then Code Reason) (Bytes_deterministic (32 ∷ [])) (bytes (32 ∷ [])) (then_settled Code Reason Code_deterministic code reason)))
    section

version_begins : (minor : ℕ) (rest : List ℕ) → Stops is_newline (print_version minor ++ rest)
version_begins minor rest = refl

response_parsed : (asked : Bool) (text : List ℕ) → IsParsed (kind_of (side.Response asked)) text
response_parsed asked text = by (status_line text)
  where
    by : Settled StatusLine text → IsParsed (kind_of (side.Response asked)) text
    by (inl t) =
        let line = t.2.1 in
        inl (record {
          tree = response_head (([], t.0.0), t.0.1);
          rest = t.1;
          parses = response_from_pieces text (([], t.0.0), t.0.1) t.1
              (t.2.0, (text, (refl, subst (λ (xs : List ℕ). Stops is_newline xs) (sym line.1.1) (version_begins t.0.0.0 line.0)), line), t.2.2);
          unled = refl;
        })
    by (inr none) = inr (λ u.
        let x = response_pieces text u.tree u.rest u.parses in
        let blank : x.0.0.0 ≡ [] = ap (λ (h : ResponseHead). h.blank) x.1 ∙ u.unled in
        let e = at_front text x.2.1.0 x.0.0.0 x.2.1.1 blank in
        none (
          (x.0.0.1, x.0.1),
          u.rest,
          (x.2.0, subst (λ (xs : List ℕ). Then Version (Then (Bytes (32 ∷ [])) (Then Code Reason)) x.0.0.1 xs x.2.0) (sym e) x.2.1.2, x.2.2),
        ))

parsed : (s : Side) (text : List ℕ) → IsParsed (kind_of s) text
parsed side.Request = request_parsed
parsed (side.Response asked) = response_parsed asked

-- ---- what is a head within the limits

reads_settled : (s : Side) (text : List ℕ) (h : (kind_of s).Tree) (rest : List ℕ) → (kind_of s).Parses text h rest → (kind_of s).Reads text h rest ⊎ (¬ ((kind_of s).Reads text h rest))
reads_settled side.Request text h rest x = inl x
reads_settled (side.Response asked) text h rest x =
    elim (cases_lt (status_code h) 100) [
      | inl low ↦ inr (λ r. let fits : 100 ≤ status_code h = r.1 in omega (arith, low, fits))
      | inr fits ↦ inl (x, fits)
    ]

-- what a head within the limits that begins the text has is so of the tree that was parsed
same_tree : (K : HeadKind) → IsLawful K → (limits : Limits) (text : List ℕ) (u : Unled K text) (P : K.Tree → Type 0) (k : K.Tree) (rest : List ℕ) → BeginsWith K limits text k rest → P k → P u.tree
same_tree K laws limits text u P k rest b p = subst P (laws.unique text k u.tree rest u.rest (laws.parses text k rest b.reads) u.parses).0 p

by_count : (K : HeadKind) → IsLawful K → (limits : Limits) (text : List ℕ) (u : Unled K text) → K.Reads text u.tree u.rest → K.size u.tree ≤ limits.bufsize → IsKnown K limits text
by_count K laws limits text u reads short =
    elim (cases_lt most_fields (K.count u.tree)) [
      | inl many ↦ inr (λ k rest b. let few = same_tree K laws limits text u (λ h. K.count h ≤ most_fields) k rest b b.few in omega (arith, few, many))
      | inr few ↦ inl (u.tree, u.rest, record { reads = reads; unled = u.unled; short = short; few = few })
    ]

by_size : (K : HeadKind) → IsLawful K → (limits : Limits) (text : List ℕ) (u : Unled K text) → K.Reads text u.tree u.rest → IsKnown K limits text
by_size K laws limits text u reads =
    elim (cases_lt limits.bufsize (K.size u.tree)) [
      | inl long ↦ inr (λ k rest b. let short = same_tree K laws limits text u (λ h. K.size h ≤ limits.bufsize) k rest b b.short in omega (arith, short, long))
      | inr short ↦ by_count K laws limits text u reads short
    ]

by_tree : (K : HeadKind) → IsLawful K → (limits : Limits) (text : List ℕ) → ((h : K.Tree) (rest : List ℕ) → K.Parses text h rest → K.Reads text h rest ⊎ (¬ (K.Reads text h rest)))
    → IsParsed K text → IsKnown K limits text
by_tree K laws limits text reads (inl u) =
    elim (reads u.tree u.rest u.parses) [
      | inl is ↦ by_size K laws limits text u is
      | inr other ↦ inr (λ k rest b. other (laws.reads text text u.tree u.rest rest u.parses (same_tree K laws limits text u (λ h. K.Reads text h rest) k rest b b.reads)))
    ]
by_tree K laws limits text reads (inr none) =
    inr (λ k rest b. none (record { tree = k; rest = rest; parses = laws.parses text k rest b.reads; unled = b.unled }))

-- whatever the text and the limits
pub known : (s : Side) (limits : Limits) (text : List ℕ) → IsKnown (kind_of s) limits text
known s limits text = by_tree (kind_of s) (each_is_lawful s) limits text (reads_settled s text) (parsed s text)
