-- What the decision on a head says of a text, and then of a window.
use Rattle.std.proofs.Common.{◌≡◌, ◌≢◌, ℕ, ◌+◌, ◌-◌, ◌≤◌, Bool, true, false, List, [], ◌∷◌, ◌++◌, length, length-drop, drop, refl, sym, ◌∙◌, ap, subst, arith}
use Rattle.std.specs.Prelude.{Option, Ok, Err}
use Rattle.std.proofs.lemmas.List.{drop-drop}
use Rattle.htx_model.specs.Block.{Block}
use Rattle.http_model.specs.declared.Framing.{Framing}
use Rattle.http_model.specs.declared.Limits.{Limits}
use Rattle.http_model.specs.Reading.{Received, Begins}
use Rattle.h1_head.specs.declared.answer.HeadWhy.{HeadWhy}
use Rattle.h1_head.specs.declared.answer.HeadWhy.TheVariants as why
use Rattle.h1_head.specs.Answers.{Keeps, IsKept}
use Rattle.h1_head.specs.Kind.{HeadKind}
use Rattle.h1_head.specs.Received.{IsReceived}
use Rattle.h1_head.specs.Stream.{behind, BeginsWith, HasRefusedHead, HeadOf}
use Rattle.h1_head.specs.Decides.{RefusesFor, WhereLong}
use Rattle.h1_head.proofs.Lawful.{IsLawful, is_row, row_or_kept}
use Rattle.h1_head.proofs.Streams.{head_stays, moved, goes_on}

pub keeps_head : (K : HeadKind) → IsLawful K → (limits : Limits) (whole : Bool) (text : List ℕ) (h : K.Tree) (used : ℕ) (blocks : List Block) (framing : Framing) (declared : Option ℕ) (close : Bool)
    → behind text ≡ text → used ≤ length text → BeginsWith K limits text h (drop used text)
    → IsKept (K.decides limits h) blocks framing declared close
    → ((got : Received) → K.decides limits h ≡ Ok got → IsReceived K limits got.head)
    → Keeps K limits whole text blocks used framing declared close
keeps_head K laws limits whole text h used blocks framing declared close alone fits begins kept receives =
    let got : Received = record { head = kept.0; framing = framing; declared = declared; close = close } in
    record {
      head = kept.0;
      blocks_are = kept.1;
      within = fits;
      begins = λ more ends. head_stays K laws limits text more got (drop used text)
          (h, subst (λ (bytes : List ℕ). BeginsWith K limits bytes h (drop used text)) (sym alone) begins, kept.2);
      received = receives got kept.2;
    }

pub refused_head : (K : HeadKind) (limits : Limits) (text : List ℕ) (h : K.Tree) (used : ℕ) (w : HeadWhy)
    → behind text ≡ text → BeginsWith K limits text h (drop used text) → K.decides limits h ≡ Err w → HasRefusedHead K limits text w
refused_head K limits text h used w alone begins is = record {
  head = h;
  rest = drop used text;
  begins = subst (λ (bytes : List ℕ). BeginsWith K limits bytes h (drop used text)) (sym alone) begins;
  refused = is;
}

only_rows : (K : HeadKind) → IsLawful K → (limits : Limits) (text : List ℕ) (w : HeadWhy) → is_row w ≡ false → HasRefusedHead K limits text w → ⊥
only_rows K laws limits text w none h =
    let t : true ≡ false = sym (laws.rows limits h.head) ∙ ap row_or_kept h.refused ∙ none in cc

pub refuses_for : (K : HeadKind) → IsLawful K → (limits : Limits) (whole : Bool) (text : List ℕ) (w : HeadWhy) → HasRefusedHead K limits text w → RefusesFor K limits whole text w
refuses_for K laws limits whole text why.Grammar h = absurd (only_rows K laws limits text why.Grammar refl h)
refuses_for K laws limits whole text why.Long h = absurd (only_rows K laws limits text why.Long refl h)
refuses_for K laws limits whole text why.Name h = h
refuses_for K laws limits whole text why.Host h = h
refuses_for K laws limits whole text why.Method h = h
refuses_for K laws limits whole text why.Framing h = h
refuses_for K laws limits whole text why.Coding h = h
refuses_for K laws limits whole text why.Receive h = h

-- a row is not Long
pub row_not_long : (K : HeadKind) → IsLawful K → (limits : Limits) (text : List ℕ) (P : Type 0) (w : HeadWhy) → HasRefusedHead K limits text w → WhereLong w P
row_not_long K laws limits text P why.Grammar h = tt
row_not_long K laws limits text P why.Long h = absurd (only_rows K laws limits text why.Long refl h)
row_not_long K laws limits text P why.Name h = tt
row_not_long K laws limits text P why.Host h = tt
row_not_long K laws limits text P why.Method h = tt
row_not_long K laws limits text P why.Framing h = tt
row_not_long K laws limits text P why.Coding h = tt
row_not_long K laws limits text P why.Receive h = tt

-- ---- from a text to a window

pub keeps_window : (K : HeadKind) → IsLawful K → (limits : Limits) (whole : Bool) (window text : List ℕ) (blocks : List Block) (skip used : ℕ) (framing : Framing) (declared : Option ℕ) (close : Bool)
    → text ≡ drop skip window → drop skip window ≡ behind window → behind text ≡ text → skip ≤ length window → text ≢ [] → text ≢ 13 ∷ []
    → Keeps K limits whole text blocks used framing declared close → Keeps K limits whole window blocks (skip + used) framing declared close
keeps_window K laws limits whole window text blocks skip used framing declared close at is same inside some other k =
    let used_in : used ≤ length text = k.within in
    let size : length text ≡ length window - skip = ap length at ∙ length-drop skip window in
    let rest : drop used text ≡ drop (skip + used) window = ap (drop used) at ∙ drop-drop used skip window in
    let got : Received = record { head = k.head; framing = framing; declared = declared; close = close } in
    record {
      head = k.head;
      blocks_are = k.blocks_are;
      within = omega arith;
      begins = λ more ends. subst (λ (r : List ℕ). HeadOf K limits (window ++ more) (Begins got (r ++ more))) rest
          (moved K laws limits (text ++ more) (window ++ more) (Begins got (drop used text ++ more)) (goes_on window text more (at ∙ is) same some other) (k.begins more ends));
      received = k.received;
    }
