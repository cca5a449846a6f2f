-- Output that was squeezed behind a text.
use Rattle.std.proofs.Common.{◌≡◌, ℕ, ◌+◌, ◌-◌, ◌≤◌, List, ◌++◌, sym, ap, ◌∙◌, arith, length, take, drop, append_assoc, subst}
use Rattle.std.proofs.lemmas.List.{length-append, length-take-le, take-append-drop, take-take, take_at, drop_at, take_rest}
use Rattle.fcgi_lane.specs.Answer.Flow.{Flow, Passes}

-- the front of a text with what was squeezed behind it
front : (text squeezed post tail : List ℕ) (found most : ℕ) → found ≤ length squeezed → length text + found ≤ most
    → take (length text + found) (take most ((text ++ (squeezed ++ post)) ++ tail)) ≡ text ++ take found squeezed
front text squeezed post tail found most some fits =
    let n : ℕ = length text + found in
    let rest : List ℕ = drop found squeezed ++ (post ++ tail) in
    let split : (text ++ (squeezed ++ post)) ++ tail ≡ (text ++ take found squeezed) ++ rest =
    append_assoc text (squeezed ++ post) tail
    ∙ ap (λ (t : List ℕ). text ++ t)
    (append_assoc squeezed post tail ∙ ap (λ (t : List ℕ). t ++ (post ++ tail)) (sym (take-append-drop found squeezed)) ∙ append_assoc (take found squeezed) (drop found squeezed) (post ++ tail))
    ∙ sym (append_assoc text (take found squeezed) rest) in
    take-take n most ((text ++ (squeezed ++ post)) ++ tail) fits
    ∙ ap (take n) split
    ∙ take_at (text ++ take found squeezed) rest n (omega (arith, length-append text (take found squeezed), length-take-le found squeezed some))

pub took : (old new : Flow) (text bytes all final squeezed post tail : List ℕ) (before found most : ℕ) → before ≡ length text → all ≡ text ++ bytes
    → Passes old (take (length all - before) (drop before all)) new (take found squeezed) → found ≤ length squeezed → before + found ≤ most
    → final ≡ take (before + found) (take most ((take before all ++ (squeezed ++ post)) ++ tail))
    → (out : List ℕ) × Passes old bytes new out × (final ≡ text ++ out)
took old new text bytes all final squeezed post tail before found most begins is passes some fits made =
    let bytes_are : take (length all - before) (drop before all) ≡ bytes = take_rest all before ∙ ap (drop before) is ∙ drop_at text bytes before (sym begins) in
    let text_is : take before all ≡ text = ap (take before) is ∙ take_at text bytes before (sym begins) in (
      take found squeezed,
      subst (λ (t : List ℕ). Passes old t new (take found squeezed)) bytes_are passes,
      made
          ∙ ap (λ (t : List ℕ). take (before + found) (take most ((t ++ (squeezed ++ post)) ++ tail))) text_is
          ∙ ap (λ (n : ℕ). take (n + found) (take most ((text ++ (squeezed ++ post)) ++ tail))) begins
          ∙ front text squeezed post tail found most some (omega (arith, begins, fits)),
    )
