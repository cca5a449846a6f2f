-- The head that a whole stream begins with, window by window.
use Rattle.std.proofs.Common.{inl, inr, ◌≡◌, ◌≢◌, ℕ, Option, ◌+◌, ◌≤◌, List, [], ◌++◌, Bool, true, nat_le, refl, sym, ap, ◌∙◌, subst, length, take, drop, arith}
use Rattle.std.proofs.Math.ListN.{drop_of_length-le}
use Rattle.std.proofs.lemmas.List.{take-append-drop, drop-append-le, drop-drop, length-take, length-drop}
use Rattle.std.proofs.lemmas.Bool.{leb-true}
use Rattle.http_model.specs.Block.{Block}
use Rattle.http_model.specs.declared.Framing.{Framing}
use Rattle.http_model.specs.declared.Limits.{Limits}
use Rattle.http_model.specs.Reading.{HeadReading, Received, Nothing, Refused, Begins}
use Rattle.h1_head.specs.Answers.{Keeps}
use Rattle.h1_head.specs.Decides.{OnEachStream}
use Rattle.h1_head.specs.Kind.{HeadKind}
use Rattle.h1_head.specs.Stream.{behind, BeginsWith, HasNoHead, HeadOf}
use Rattle.px_explain.specs.Found.{BeginsAt}

-- two streams that are the same behind their empty lines read alike
pub alike : (K : HeadKind) (limits : Limits) (a b : List ℕ) → behind a ≡ behind b → (r : HeadReading) → HeadOf K limits a r → HeadOf K limits b r
alike K limits a b e Nothing h = sym e ∙ h
alike K limits a b e (Refused code) h =
    elim h [
      | inl x ↦ inl (record { some = subst (λ (s : List ℕ). s ≢ []) e x.0.some; none = subst (λ (s : List ℕ). HasNoHead K limits s) e x.0.none }, x.1)
      | inr x ↦ inr (x.0, record { head = x.1.head; rest = x.1.rest; begins = subst (λ (s : List ℕ). BeginsWith K limits s x.1.head x.1.rest) e x.1.begins; refused = x.1.refused }, x.2)
    ]
alike K limits a b e (Begins got rest) h = (h.0, subst (λ (s : List ℕ). BeginsWith K limits s h.0 rest) e h.1, h.2)

-- empty lines in front may be dropped before more bytes come
abbrev pub DropsLines : Type 0
DropsLines = (window more : List ℕ) → behind (behind window ++ more) ≡ behind (window ++ more)

module _ (K : HeadKind) (limits : Limits) (stream rest : List ℕ) (most : ℕ) (whole : Bool) (same : behind rest ≡ behind stream) (is : whole ≡ nat_le (length rest) most) where
  abbrev tail : List ℕ
  tail = drop most rest

  joined : take most rest ++ tail ≡ rest
  joined = take-append-drop most rest

  -- what follows the window
  ended : whole ≡ true → tail ≡ []
  ended on = drop_of_length-le rest (leb-true (length rest) most (sym is ∙ on))

  -- it is refused
  pub refused : (code : ℕ) → OnEachStream whole (λ more. HeadOf K limits (take most rest ++ more) (Refused code)) → HeadOf K limits stream (Refused code)
  refused code each = alike K limits rest stream same (Refused code) (subst (λ (s : List ℕ). HeadOf K limits s (Refused code)) joined (each tail ended))

  -- the empty lines are dropped
  pub skips : DropsLines → (skip : ℕ) → skip ≤ length (take most rest) → drop skip (take most rest) ≡ behind (take most rest) → behind (drop skip rest) ≡ behind stream
  skips drops skip short lines =
      let cut : drop skip rest ≡ behind (take most rest) ++ tail = sym (ap (λ (s : List ℕ). drop skip s) joined) ∙ (drop-append-le skip (take most rest) tail short ∙ ap (λ (s : List ℕ). s ++ tail) lines) in
      ap (λ (s : List ℕ). behind s) cut ∙ (drops (take most rest) tail ∙ (ap (λ (s : List ℕ). behind s) joined ∙ same))

-- a place behind a front of what follows another one is within
pub within : (stream : List ℕ) (from most n : ℕ) → from ≤ length stream → n ≤ length (take most (drop from stream)) → from + n ≤ length stream
within stream from most n inside short =
    let cut : length (take most (drop from stream)) ≤ length (drop from stream) = subst (λ (k : ℕ). k ≤ length (drop from stream)) (sym (length-take most (drop from stream))) (omega arith) in
    omega (arith, length-drop from stream, cut)

-- a head
pub begins : (K : HeadKind) (limits : Limits) (stream : List ℕ) (from most : ℕ) (whole : Bool) → from ≤ length stream → behind (drop from stream) ≡ behind stream
    → whole ≡ nat_le (length (drop from stream)) most → (blocks : List Block) (used : ℕ) (framing : Framing) (declared : Option ℕ) (close : Bool)
    → Keeps K limits whole (take most (drop from stream)) blocks used framing declared close
    → BeginsAt K limits stream (record { used = from + used; framing = framing; declared = declared; close = close }) blocks
begins K limits stream from most whole inside same is blocks used framing declared close keeps =
    let rest : List ℕ = drop from stream in
    let got : Received = record { head = keeps.head; framing = framing; declared = declared; close = close } in
    let cut : drop used (take most rest) ++ drop most rest ≡ drop (from + used) stream =
    sym (drop-append-le used (take most rest) (drop most rest) keeps.within) ∙ (ap (λ (s : List ℕ). drop used s) (take-append-drop most rest) ∙ drop-drop used from stream) in
    let reads : HeadOf K limits rest (Begins got (drop (from + used) stream)) =
    subst (λ (s : List ℕ). HeadOf K limits rest (Begins got s)) cut
    (subst (λ (s : List ℕ). HeadOf K limits s (Begins got (drop used (take most rest) ++ drop most rest))) (take-append-drop most rest) (keeps.begins (drop most rest) (ended K limits stream rest most whole same is))) in
    record {
      received = got;
      stands = record { blocks_are = keeps.blocks_are; framing = refl; declared = refl; close = refl };
      within = within stream from most used inside keeps.within;
      reads = alike K limits rest stream same (Begins got (drop (from + used) stream)) reads;
    }
