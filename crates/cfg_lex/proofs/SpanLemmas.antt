-- One more byte behind the words of a line.
use Rattle.std.proofs.Common.{◌≡◌, ℕ, ◌+◌, ◌≤◌, Bool, true, false, List, [], ◌∷◌, ◌++◌, length, take, drop, Some, refl, ap, ◌∙◌, arith, length-drop}
use Rattle.std.specs.List.{AllByRecursion}
use Rattle.std.proofs.lemmas.List.{drop-append-le, take-append-le, append-nil}
use Rattle.std.proofs.lemmas.List.Elements.{recursion_from_All}
use Rattle.cfg_lex.specs.declared.words.Span.{Span}
use Rattle.cfg_lex.specs.Spans.{span_bytes, spans_bytes, AreWithin, open_bytes}
use Rattle.cfg_lex.specs.Words.{Sofar, begun_bytes, with_bytes}

-- a span that lies in the bytes has the same bytes once more stand behind them
span_bytes-append : (bytes more : List ℕ) (span : Span) → span.from + span.len ≤ length bytes → span_bytes (bytes ++ more) span ≡ span_bytes bytes span
span_bytes-append bytes more span within =
    let from : span.from ≤ length bytes = omega arith in
    let len : span.len ≤ length (drop span.from bytes) = omega (arith, length-drop span.from bytes) in
    ap (take span.len) (drop-append-le span.from bytes more from) ∙ take-append-le span.len (drop span.from bytes) more len

spans_bytes-append_by_recursion : (bytes more : List ℕ) (spans : List Span) → AllByRecursion (λ (span : Span). span.from + span.len ≤ length bytes) spans → spans_bytes (bytes ++ more) spans ≡ spans_bytes bytes spans
spans_bytes-append_by_recursion bytes more [] within = refl
spans_bytes-append_by_recursion bytes more (span ∷ spans) within =
    let first = span_bytes-append bytes more span within.0 in
    let others = spans_bytes-append_by_recursion bytes more spans within.1 in
    cc

-- so have all of them
pub spans_bytes-append : (bytes more : List ℕ) (spans : List Span) → AreWithin bytes spans → spans_bytes (bytes ++ more) spans ≡ spans_bytes bytes spans
spans_bytes-append bytes more spans within =
    spans_bytes-append_by_recursion bytes more spans (recursion_from_All (λ (span : Span). span.from + span.len ≤ length bytes) spans within)

-- a word that is open at a place goes on with a byte
open_bytes-append : (is_open : Bool) (from : ℕ) (bytes : List ℕ) (byte : ℕ) (word : List ℕ) → from ≤ length bytes → open_bytes is_open from bytes ≡ Some word → open_bytes is_open from (bytes ++ byte ∷ []) ≡ Some (word ++ byte ∷ [])
open_bytes-append true from bytes byte word in_bytes same =
    let grown = drop-append-le from bytes (byte ∷ []) in_bytes in
    let is_word : drop from bytes ≡ word = cc in
    ap (λ (w : List ℕ). Some w) (grown ∙ ap (λ (w : List ℕ). w ++ byte ∷ []) is_word)
open_bytes-append false from bytes byte word in_bytes same = absurd cc

-- what the parts so far come to, from where their bytes lie
abbrev pub shown : List ℕ → List Span → Bool → ℕ → Bool → Sofar
shown bytes spans is_open from faulty = record { whole = spans_bytes bytes spans; begun = open_bytes is_open from bytes; faulty = faulty }

-- a byte behind the word that has begun
pub with_bytes-push : (bytes : List ℕ) (spans : List Span) (is_open : Bool) (from : ℕ) (faulty : Bool) (byte : ℕ) (old : Sofar) → from ≤ length bytes → AreWithin bytes spans
    → shown bytes spans is_open from faulty ≡ with_bytes old [] → shown (bytes ++ byte ∷ []) spans is_open from faulty ≡ with_bytes old (byte ∷ [])
with_bytes-push bytes spans is_open from faulty byte old in_bytes within same =
    let whole : spans_bytes bytes spans ≡ old.whole = ap (λ (s : Sofar). s.whole) same in
    let begun : open_bytes is_open from bytes ≡ Some (begun_bytes old) = ap (λ (s : Sofar). s.begun) same ∙ ap (λ (w : List ℕ). Some w) (append-nil (begun_bytes old)) in
    let fault : faulty ≡ old.faulty = ap (λ (s : Sofar). s.faulty) same in
    let whole_after = spans_bytes-append bytes (byte ∷ []) spans within ∙ whole in
    let begun_after = open_bytes-append is_open from bytes byte (begun_bytes old) in_bytes begun in
    cc
