-- What is told behind what was told, with its text.
use Rattle.std.proofs.Common.{◌≡◌, ℕ, List, [], ◌∷◌, ◌++◌, Bool, true, false, map, length, refl, sym, ap, subst, ◌∙◌}
use Rattle.std.proofs.lemmas.List.{append-nil, append_assoc, map-append}
use Rattle.std.specs.Prelude.{Option}
use Rattle.htx_arena.specs.Layout.Contents.{Contents}
use Rattle.htx_arena.specs.Layout.Held.{held}
use Rattle.px_explain.specs.declared.trace.TraceLine.{TraceLine}
use Rattle.px_explain.specs.declared.trail.Trail.{Trail}
use Rattle.px_explain.specs.Entry.{TraceEntry, line_in}
use Rattle.px_explain.specs.Shown.{AreShown, Adds, entry_text, text_behind}
use Rattle.px_explain.specs.Walked.{entry_in, IsEmpty}
use Rattle.px_explain.specs.Wanted.{IsAsMeant}

-- ---- texts

text_nothing : (shows : Bool) (t : List ℕ) → t ≡ text_behind shows t []
text_nothing true t = sym (append-nil t)
text_nothing false t = refl

text_more : (shows : Bool) (t a b : List ℕ) → text_behind shows (text_behind shows t a) b ≡ text_behind shows t (a ++ b)
text_more true t a b = append_assoc t a b
text_more false t a b = refl

shown_more : (xs ys : List TraceEntry) (a b : List ℕ) → AreShown xs a → AreShown ys b → AreShown (xs ++ ys) (a ++ b)
shown_more [] ys a b x y = subst (λ (t : List ℕ). AreShown ys (t ++ b)) (sym x) y
shown_more (entry ∷ xs) ys a b x y = (x.0, x.1 ++ b, x.2, shown_more xs ys x.1 b x.3 y, ap (λ (t : List ℕ). t ++ b) x.4 ∙ append_assoc x.0 x.1 b)

-- ---- trails

-- nothing
pub adds_nothing : (trail : Trail) → Adds trail trail []
adds_nothing trail = record { lines = sym (append-nil trail.lines.items); shows = refl; piece = []; shown = refl; text = text_nothing trail.shows trail.text }

-- the load that is told is the one that is meant, where texts are written
text_meant : (shows : Bool) (t : List ℕ) (line : TraceLine) (needed meant : Option ℕ) (array : Contents) → IsAsMeant shows needed meant
    → text_behind shows t (entry_text line needed array) ≡ text_behind shows t (entry_text line meant array)
text_meant true t line needed meant array as_meant = ap (λ (w : Option ℕ). t ++ entry_text line w array) (as_meant refl)
text_meant false t line needed meant array as_meant = refl

-- one rule
pub adds_one : (old new : Trail) (line : TraceLine) (needed meant : Option ℕ) (array : Contents) (raw : List ℕ) → new.lines.items ≡ old.lines.items ++ line ∷ [] → new.shows ≡ old.shows
    → new.text ≡ text_behind old.shows old.text (entry_text line needed array) → IsAsMeant old.shows needed meant → length raw ≡ array.size → held raw array.blocks array.addrs
    → Adds old new (entry_in line meant array ∷ [])
adds_one old new line needed meant array raw lines shows text as_meant fills stands =
    record {
      lines = lines;
      shows = shows;
      piece = entry_text line meant array;
      shown = (entry_text line meant array, [], (array, record { size = refl; blocks = refl; raw = raw; fills = fills; stands = stands }, refl), refl, sym (append-nil (entry_text line meant array)));
      text = text ∙ text_meant old.shows old.text line needed meant array as_meant;
    }

-- rules behind others
pub adds_more : (old mid new : Trail) (xs ys : List TraceEntry) → Adds old mid xs → Adds mid new ys → Adds old new (xs ++ ys)
adds_more old mid new xs ys x y =
    record {
      lines =
          y.lines ∙ (ap (λ (l : List TraceLine). l ++ map line_in ys) x.lines ∙ (append_assoc old.lines.items (map line_in xs) (map line_in ys)
          ∙ ap (λ (l : List TraceLine). old.lines.items ++ l) (sym (map-append line_in xs ys))));
      shows = y.shows ∙ x.shows;
      piece = x.piece ++ y.piece;
      shown = shown_more xs ys x.piece y.piece x.shown y.shown;
      text =
          y.text ∙ (ap (λ (b : Bool). text_behind b mid.text y.piece) x.shows ∙ (ap (λ (t : List ℕ). text_behind old.shows t y.piece) x.text
          ∙ text_more old.shows old.text x.piece y.piece));
    }

-- ---- behind nothing

pub lines_of_all : (old new : Trail) (shows : Bool) (entries : List TraceEntry) → IsEmpty shows old → Adds old new entries → new.lines.items ≡ map line_in entries
lines_of_all old new shows entries empty a = a.lines ∙ ap (λ (l : List TraceLine). l ++ map line_in entries) empty.lines

pub text_of_all : (old new : Trail) (entries : List TraceEntry) → IsEmpty true old → (a : Adds old new entries) → new.text ≡ a.piece
text_of_all old new entries empty a =
    a.text ∙ (ap (λ (b : Bool). text_behind b old.text a.piece) empty.shows ∙ ap (λ (t : List ℕ). t ++ a.piece) empty.text)
